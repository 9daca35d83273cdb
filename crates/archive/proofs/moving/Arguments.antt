-- Arguments moved one after the other, and a term moved. Assumes nothing.
use Rattle.std.proofs.Common.{◌≡◌, refl, ap, sym, ◌∙◌, List, [], ◌∷◌, ◌++◌, map, Bool, true, ◌&&◌, ℕ, suc, ◌+◌, ◌*◌, ◌-◌, ◌≤◌, ◌<◌, zero-add, add-one, arith, eq-eqb, ne_eqb, length, set, take, drop, length-append, length-drop, length-set, take-suc, take_all, length-take-le, ltb}
use mathlib.Core.List.{map-append}
use mathlib.Core.Bool.{and-true}
use borrow.Rule.Slice.PartMut.{put_mid}
use Rattle.std.proofs.Math.ListN.{length-map}
use Rattle.std.proofs.Math.Seq.{sets}
use Rattle.model.specs.Limits.{max_arity}
use Rattle.leb128.specs.Number.{max_groups, write}
use Rattle.leb128.proofs.Writing.{one_byte_lem}
use Rattle.model.specs.Lists.{all, concat_map}
use Rattle.model.specs.Term.{Node, app, arguments}
use Rattle.model.specs.Area.{term_words}
use Rattle.model.specs.Report.{number_bytes}
use Rattle.model.specs.BookBytes.{node_numbers}
use Rattle.model.specs.Archive.{renumbered}
use Rattle.theory.proofs.Lists.Laws.{all_append}
use Rattle.layout.specs.limits.Rows.{at, node_of}
use Rattle.book.specs.parse.Parts.{node_row}
use Rattle.book.proofs.decode.TermRows.{sets_more}
use Rattle.runs.proofs.Numbers.{numbers-append, numbers-first, length-write, length-numbers}
use Rattle.archive.specs.moving.Moving.{RowMoves}
use Rattle.archive.proofs.list.Stored.{sets_whole, put-sets}

-- no number takes no byte, and 0 takes one
none-long : length (number_bytes []) ≡ 0
unfolding number_bytes concat_map
none-long = refl

zero_long : 1 ≡ length (number_bytes (0 ∷ []))
zero_long = sym (ap length (numbers-first 0 []) ∙ length-append (write max_groups 0) (number_bytes []) ∙ rw (one_byte_lem 0 (omega arith), none-long))

pub number_small : (n : ℕ) {r : ℕ} → r ≡ length (write max_groups n) → r ≤ max_groups
number_small n e = omega (arith, e, length-write n)

-- ---- arguments

module _ (old target : List ℕ) where
  -- the first j, with new numbers
  abbrev args : ℕ → List ℕ
  args j = map (at target) (take j old)

  args_more : (j : ℕ) → j < length old → args (j + 1) ≡ args j ++ at target (at old j) ∷ []
  args_more j l = rw (add-one, take-suc old j 0 l, map-append)

  args_long : (j : ℕ) → j ≤ length old → length (args j) ≡ j
  args_long j l = length-map (take j old) (at target) ∙ length-take-le j old l

  args_whole : args (length old) ≡ map (at target) old
  args_whole = ap (map (at target)) (take_all (length old) old (omega arith))

  -- The first j are moved; whether they are below the limit and how many bytes they take is known.
  pub record ArgumentsMoved (moved₀ : List ℕ) (limit : ℕ) (moved : List ℕ) (lower : Bool) (bytes j : ℕ) : Type 0 where
    pub written : moved ≡ sets moved₀ 0 (args j)
    pub low : lower ≡ all (λ a. ltb a limit) (args j)
    pub long : bytes ≡ length (number_bytes (args j))

  module _ {moved₀ : List ℕ} {limit : ℕ} where
    pub moved_none : ArgumentsMoved moved₀ limit moved₀ true 0 0
    unfolding all number_bytes concat_map
    moved_none = record { written = refl; low = refl; long = refl }

    module _ {moved : List ℕ} {lower : Bool} {bytes j : ℕ} (m : ArgumentsMoved moved₀ limit moved lower bytes j) where
      pub moved_more : j < length old → (more : ℕ) → more ≡ length (write max_groups (at target (at old j)))
          → (lower' : Bool) → lower' ≡ lower && ltb (at target (at old j)) limit
          → ArgumentsMoved moved₀ limit (set moved j (at target (at old j))) lower' (bytes + more) (j + 1)
      unfolding all
      moved_more l more b lower' e =
          record {
            written =
                rw (args_more j l, sets_more moved₀ 0 (args j) (at target (at old j)), args_long j (omega arith), zero-add, ← m.written);
            low =
                rw (args_more j l, all_append (λ a. ltb a limit) (args j) (at target (at old j) ∷ []), ← m.low)
                (rw and-true e);
            long =
                rw (args_more j l, numbers-append (args j) (at target (at old j) ∷ []), numbers-first, length-append, length-append, b, m.long)
                (omega (arith, none-long));
          }

      -- each takes three bytes at most
      pub moved-small : j ≤ length old → bytes ≤ max_groups * j
      moved-small l = omega (arith, m.long, length-numbers (args j), args_long j l)

      -- all of them
      pub moved_all : j ≡ length old → length old ≡ length moved₀
          → record {
            lower : lower ≡ all (λ a. ltb a limit) (map (at target) old);
            bytes : bytes ≡ length (number_bytes (map (at target) old));
            moved : moved ≡ map (at target) old;
          }
      moved_all e l =
          let whole : args j ≡ map (at target) old = ap args e ∙ args_whole in
          let many : length (args j) ≡ length moved₀ = args_long j (omega arith) ∙ e ∙ l in
          record {
            lower = rw whole at m.low;
            bytes = rw whole at m.long;
            moved = m.written ∙ sets_whole moved₀ (args j) many ∙ whole;
          }

-- ---- a term

module _ (rows : List ℕ) (t : ℕ) (target : List ℕ) (r : RowMoves rows t target) where
  abbrev new : Node
  new = renumbered (at target) (node_of rows t)

  -- a variable has no words
  pub variable-moved : (moved : List ℕ) (place i : ℕ) → at rows (term_words * t) ≡ 0
      → (true ≡ all (λ a. ltb a i) (arguments new)) × ((1 ≡ length (number_bytes (node_numbers new))) × (moved ≡ sets moved place (node_row new)))
  unfolding node_of renumbered arguments node_numbers node_row all
  variable-moved moved place i e = (rw (eq-eqb _ 0 e), (rw (eq-eqb _ 0 e) zero_long, rw (eq-eqb _ 0 e)))

  -- any other term has a symbol, a count and arguments
  module _ (e : at rows (term_words * t) ≡ 0 → ⊥) where
    count : ℕ
    count = at rows (term_words * t + 1)

    node : node_of rows t ≡ app (at rows (term_words * t) - 1) (take (at rows (term_words * t + 1)) (drop (term_words * t + 2) rows))
    unfolding node_of
    node = rw (ne_eqb _ 0 e)

    old-long : length (take (at rows (term_words * t + 1)) (drop (term_words * t + 2) rows)) ≡ at rows (term_words * t + 1)
    old-long = length-take-le _ (drop (term_words * t + 2) rows) (rw length-drop (omega (arith, r.within, r.few)))

    -- the words that hold the arguments, where they are `many`
    module _ (many : ℕ) (m : many ≡ at rows (term_words * t + 1)) where
      abbrev old : List ℕ
      old = take many (drop (term_words * t + 2) rows)

      -- as many words as there are for the new ones
      pub arguments-room : (moved : List ℕ) (place x y many' : ℕ) → many' ≡ at rows (term_words * t + 1) → place + term_words ≤ length moved
          → length old ≡ length (take many' (drop (place + 2) (set (set moved place x) (place + 1) y)))
      arguments-room moved place x y many' m' l =
          let stored : List ℕ = set (set moved place x) (place + 1) y in
          let room : many' ≤ length (drop (place + 2) stored) = rw (length-drop, length-set, length-set) (omega (arith, r.few)) in
          rw m old-long ∙ sym m' ∙ sym (length-take-le many' (drop (place + 2) stored) room)

      -- each has a new number
      pub arguments-named : (j : ℕ) → j < length old → at old j < length target
      unfolding arguments
      arguments-named = rw m (rw node at r.terms)

      -- and at most three bytes
      pub arguments-small : {z : ℕ} → z ≡ length (number_bytes (map (at target) old)) → z ≤ max_groups * max_arity
      arguments-small e =
          let few : length old ≡ at rows (term_words * t + 1) = rw m old-long in
          omega (arith, e, length-numbers (map (at target) old), length-map old (at target), few, r.few)

      pub applied-moved : (moved news : List ℕ) (place i many' : ℕ) (lower : Bool) (x y z : ℕ) → many' ≡ at rows (term_words * t + 1)
          → place + term_words ≤ length moved → lower ≡ all (λ a. ltb a i) (map (at target) old) → x ≡ length (write max_groups (at rows (term_words * t)))
          → y ≡ length (write max_groups (at rows (term_words * t + 1))) → z ≡ length (number_bytes (map (at target) old)) → news ≡ map (at target) old
          → record {
            lower : lower ≡ all (λ a. ltb a i) (arguments new);
            bytes : x + y + z ≡ length (number_bytes (node_numbers new));
            moved : put_mid (place + 2) many' (set (set moved place (at rows (term_words * t))) (place + 1) (at rows (term_words * t + 1))) news
                ≡ sets moved place (node_row new);
          }
      unfolding renumbered arguments node_numbers node_row
      applied-moved moved news place i many' lower x y z m' l f a b c g =
          let symbol : suc (at rows (term_words * t) - 1) ≡ at rows (term_words * t) = omega arith in
          let two : place + 2 ≡ suc (suc place) = omega arith in
          let stored : List ℕ = set (set moved place (at rows (term_words * t))) (place + 1) (at rows (term_words * t + 1)) in
          let few : length news ≡ many' = rw (g, m, length-map, m') old-long in
          let room : place + 2 + many' ≤ length stored = rw (length-set, length-set) (omega (arith, r.few)) in
          let row : put_mid (place + 2) many' stored news ≡ sets stored (place + 2) news = put-sets (place + 2) many' stored news few room in
          record {
            lower = rw (node, ← m) f;
            bytes =
                rw (node, symbol, length-map, old-long, numbers-first, numbers-first, length-append, length-append, a, b, c, m) (omega arith);
            moved = row ∙ rw (node, symbol, length-map, old-long, g, m, two, add-one place);
          }
