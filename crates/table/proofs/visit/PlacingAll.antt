-- Placing argument pairs one by one: after j of them the slices hold the table with those, and each has its entry. Assumes nothing.
use Rattle.std.proofs.Common.{◌≡◌, refl, ap, sym, ◌∙◌, List, [], ◌∷◌, ◌++◌, ℕ, ◌+◌, ◌*◌, ◌≤◌, ◌<◌, add-one, arith, length, take, drop, set, replicate, length-drop, take-append-drop, take-suc, length-take-le, get_or-take, get_or-drop}
use Rattle.model.specs.Limits.{max_arity}
use Rattle.model.specs.Lists.{pairwise, padded}
use Rattle.model.specs.Term.{Book, Bindings}
use Rattle.model.specs.Table.{Table, entry_of, place, place_all}
use Rattle.model.specs.Area.{term_words}
use Rattle.theory.proofs.Lists.Laws.{length-pairwise}
use Rattle.theory.proofs.Table.Place.{Extends, entry_of_extends, place_all_extends, place_all-longer, place_all_has, place-one}
use Rattle.layout.specs.limits.Rows.{at}
use Rattle.refusal.specs.declared.Refusal.{Refusal}
use Rattle.table.specs.place.Stands.{Stands, IsFull, GivenTable, Whatever}
use Rattle.table.specs.place.Placing.{ToPlace, Places}
use Rattle.table.specs.visit.Visiting.{arguments_at, ToPlaceAll}
use Rattle.table.specs.declared.place.Placed.{Placed}
use Rattle.table.proofs.visit.Lists.{pairwise_append, place_all-append, pairwise-alike, padded-set}
use Rattle.table.proofs.visit.Sizes.{SameSizes, same-sizes, sizes_trans}

-- the words behind the count in the row of a term
module _ (rows : List ℕ) (t : ℕ) (fits : term_words * t + 2 + at rows (term_words * t + 1) ≤ length rows) where
  pub length-row : length (arguments_at rows t) ≡ at rows (term_words * t + 1)
  length-row = length-take-le (at rows (term_words * t + 1)) (drop (term_words * t + 2) rows) (rw length-drop (omega arith))

  row_at : (j : ℕ) → j < at rows (term_words * t + 1) → at rows (term_words * t + 2 + j) ≡ at (arguments_at rows t) j
  row_at j h = rw (get_or-take, get_or-drop)

-- There is a pair j, and it stands in the rows of the terms l and r.
pub record PairAt (rows : List ℕ) (l r j : ℕ) : Type 0 where
  pub there : j < length (arguments_at rows l)
  pub left : at rows (term_words * l + 2 + j) ≡ at (arguments_at rows l) j
  pub right : at rows (term_words * r + 2 + j) ≡ at (arguments_at rows r) j

pub pair-at : (rows : List ℕ) (l r j : ℕ) → term_words * l + 2 + at rows (term_words * l + 1) ≤ length rows
    → term_words * r + 2 + at rows (term_words * r + 1) ≤ length rows
    → length (arguments_at rows l) ≡ length (arguments_at rows r) → j < at rows (term_words * l + 1) → PairAt rows l r j
pair-at rows l r j p q e h =
    record {
      there = omega (arith, length-row rows l p);
      left = row_at rows l p j h;
      right = row_at rows r q j (omega (arith, length-row rows l p, length-row rows r q));
    }

-- The table with the first j pairs, and the entries of those pairs in it.
abbrev pub up_to : List ℕ → List ℕ → ℕ → Book → Bindings → Table → Table
up_to ls rs j b β es = place_all b β es (take j ls) (take j rs)

abbrev entries_to : List ℕ → List ℕ → ℕ → Book → Bindings → Table → List ℕ
entries_to ls rs j b β es = pairwise (entry_of b β (up_to ls rs j b β es)) (take j ls) (take j rs)

pub record PlacedTo (entries lefts rights cells : List ℕ) (capacity : ℕ) (ls rs numbers : List ℕ) (count j : ℕ) (b : Book) (β : Bindings) (es : Table) : Type 0 where
  pub stands : Stands entries lefts rights cells capacity count b β (up_to ls rs j b β es)
  pub their_entries : numbers ≡ padded max_arity (entries_to ls rs j b β es)

-- What holds at the loop's head.
pub record PlacingAll (names entries₀ lefts₀ rights₀ cells₀ : List ℕ) (capacity m : ℕ) (ls rs : List ℕ)
    (entries lefts rights cells numbers : List ℕ) (count j : ℕ) : Type 0 where
  pub sizes : SameSizes entries₀ lefts₀ rights₀ cells₀ entries lefts rights cells
  pub within : j ≤ length ls
  pub so_far : Whatever (ToPlaceAll names entries₀ lefts₀ rights₀ cells₀ capacity m ls rs)
      (PlacedTo entries lefts rights cells capacity ls rs numbers count j)

pub placing_none : (names entries lefts rights cells : List ℕ) (capacity m : ℕ) (ls rs : List ℕ)
    → PlacingAll names entries lefts rights cells capacity m ls rs entries lefts rights cells (replicate max_arity 0) m 0
unfolding place_all pairwise padded
placing_none names entries lefts rights cells capacity m ls rs =
    record {
      sizes = same-sizes entries lefts rights cells;
      within = omega arith;
      so_far = λ b β es q. record { stands = q.stands; their_entries = refl };
    }

-- one pair more
module _ (ls rs : List ℕ) (e : length ls ≡ length rs) (j : ℕ) (t : j < length ls) (b : Book) (β : Bindings) (es : Table) where
  firsts : length (take j ls) ≡ length (take j rs)
  firsts = length-take-le j ls (omega arith) ∙ sym (length-take-le j rs (omega arith))

  up_more : up_to ls rs (j + 1) b β es ≡ place b β (up_to ls rs j b β es) (at ls j) (at rs j)
  up_more =
      let u : j < length rs = omega arith in
      rw (add-one, take-suc ls j 0 t, take-suc rs j 0 u, place_all-append b β es (take j ls) (take j rs) (at ls j ∷ []) (at rs j ∷ []) firsts)
      (sym (place-one b β (up_to ls rs j b β es) (at ls j) (at rs j)))

  up_extends : Extends (up_to ls rs j b β es) (up_to ls rs (j + 1) b β es)
  up_extends = rw (up_more, place-one) (place_all_extends b β (up_to ls rs j b β es) (at ls j ∷ []) (at rs j ∷ []))

  entries-more : entries_to ls rs (j + 1) b β es ≡ entries_to ls rs j b β es ++ entry_of b β (up_to ls rs (j + 1) b β es) (at ls j) (at rs j) ∷ []
  unfolding pairwise
  entries-more =
      let u : j < length rs = omega arith in
      let new : Table = up_to ls rs (j + 1) b β es in
      let stay : pairwise (entry_of b β new) (take j ls) (take j rs) ≡ entries_to ls rs j b β es =
      pairwise-alike (entry_of b β new) (entry_of b β (up_to ls rs j b β es)) (take j ls) (take j rs) firsts
      (λ k h. entry_of_extends b β (up_to ls rs j b β es) new _ _ up_extends
      (place_all_has b β es (take j ls) (take j rs) k h (omega (arith, firsts)))) in
      let more-ls : take (j + 1) ls ≡ take j ls ++ at ls j ∷ [] = rw add-one (take-suc ls j 0 t) in
      let more-rs : take (j + 1) rs ≡ take j rs ++ at rs j ∷ [] = rw add-one (take-suc rs j 0 u) in
      ap (λ (xs : List ℕ). pairwise (entry_of b β new) xs (take (j + 1) rs)) more-ls ∙
      ap (pairwise (entry_of b β new) (take j ls ++ at ls j ∷ [])) more-rs ∙
      pairwise_append (entry_of b β new) (take j ls) (take j rs) (at ls j ∷ []) (at rs j ∷ []) firsts ∙
      ap (λ (xs : List ℕ). xs ++ entry_of b β new (at ls j) (at rs j) ∷ []) stay

  -- all pairs make no shorter a table
  up_longer : length (up_to ls rs (j + 1) b β es) ≤ length (place_all b β es ls rs)
  up_longer =
      let k : length (take (j + 1) ls) ≡ length (take (j + 1) rs) =
      length-take-le (j + 1) ls (omega arith) ∙ sym (length-take-le (j + 1) rs (omega arith)) in
      let whole : place_all b β es ls rs ≡ place_all b β (up_to ls rs (j + 1) b β es) (drop (j + 1) ls) (drop (j + 1) rs) =
      ap (λ (xs : List ℕ). place_all b β es xs rs) (sym (take-append-drop (j + 1) ls)) ∙
      ap (place_all b β es (take (j + 1) ls ++ drop (j + 1) ls)) (sym (take-append-drop (j + 1) rs)) ∙
      place_all-append b β es (take (j + 1) ls) (take (j + 1) rs) (drop (j + 1) ls) (drop (j + 1) rs) k in
      rw whole (place_all-longer b β (up_to ls rs (j + 1) b β es) (drop (j + 1) ls) (drop (j + 1) rs))

module _ {names entries₀ lefts₀ rights₀ cells₀ : List ℕ} {capacity m : ℕ} {ls rs entries lefts rights cells numbers : List ℕ} {count j : ℕ}
    (i : PlacingAll names entries₀ lefts₀ rights₀ cells₀ capacity m ls rs entries lefts rights cells numbers count j) where
  module _ (t : j < length ls) {x y : ℕ} (left : x ≡ at ls j) (right : y ≡ at rs j) where
    -- what the next pair asks
    to_place : (b : Book) (β : Bindings) (es : Table) → ToPlaceAll names entries₀ lefts₀ rights₀ cells₀ capacity m ls rs b β es
        → ToPlace names entries lefts rights cells capacity count x y b β (up_to ls rs j b β es)
    to_place b β es q =
        rw (left, right)
        (record {
          known = q.known;
          stands = (i.so_far b β es q).stands;
          left-term = q.left-terms j t;
          right-term = q.right-terms j (omega (arith, q.pairs));
        })

    pub next_given : GivenTable (ToPlaceAll names entries₀ lefts₀ rights₀ cells₀ capacity m ls rs)
        → GivenTable (ToPlace names entries lefts rights cells capacity count x y)
    next_given g =
        record { book = g.book; bound = g.bound; table = up_to ls rs j g.book g.bound g.table; known = to_place _ _ _ g.known }

    -- it is full
    pub placing_full : {e : Refusal} → Whatever (ToPlace names entries lefts rights cells capacity count x y) (λ b β es. IsFull capacity e (place b β es x y))
        → Whatever (ToPlaceAll names entries₀ lefts₀ rights₀ cells₀ capacity m ls rs) (λ b β es. IsFull capacity e (place_all b β es ls rs))
    placing_full beyond b β es q =
        let is = rw (left, right) at (beyond b β _ (to_place b β es q)) in
        let longer = rw (up_more ls rs q.pairs j t b β es) at (up_longer ls rs q.pairs j t b β es) in
        record { full = is.full; beyond = omega (arith, is.beyond) }

    -- it is placed
    module _ {p : Placed} {entries' lefts' rights' cells' : List ℕ}
        (placed : Whatever (ToPlace names entries lefts rights cells capacity count x y)
        (Places entries' lefts' rights' cells' capacity x y p)) where
      placed_to : (b : Book) (β : Bindings) (es : Table) → ToPlaceAll names entries₀ lefts₀ rights₀ cells₀ capacity m ls rs b β es
          → PlacedTo entries' lefts' rights' cells' capacity ls rs (set numbers j p.entry) p.count (j + 1) b β es
      placed_to b β es q =
          let done = rw (left, right) at (placed b β _ (to_place b β es q)) in
          let more = up_more ls rs q.pairs j t b β es in
          let so = i.so_far b β es q in
          let long : length (entries_to ls rs j b β es) ≡ j =
          length-pairwise _ (take j ls) (take j rs) (firsts ls rs q.pairs j t b β es) ∙ length-take-le j ls (omega arith) in
          record {
            stands = rw more done.reaches.stands;
            their_entries =
                rw (so.their_entries, done.its_entry, ← more)
                (ap (λ (k : ℕ). set (padded max_arity (entries_to ls rs j b β es)) k (entry_of b β (up_to ls rs (j + 1) b β es) (at ls j) (at rs j))) (sym long) ∙
                padded-set max_arity (entries_to ls rs j b β es) _ (omega (arith, q.few)) ∙
                ap (padded max_arity) (sym (entries-more ls rs q.pairs j t b β es)));
          }

      pub placing_more : SameSizes entries lefts rights cells entries' lefts' rights' cells'
          → PlacingAll names entries₀ lefts₀ rights₀ cells₀ capacity m ls rs entries' lefts' rights' cells' (set numbers j p.entry) p.count (j + 1)
      placing_more sizes = record { sizes = sizes_trans i.sizes sizes; within = omega arith; so_far = placed_to }
