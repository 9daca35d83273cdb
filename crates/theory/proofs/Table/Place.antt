-- Placing, visiting, walking and settling: what each does to the table's pairs. Search is passed on from Search.antt. Assumes
-- nothing.
use mathlib.Core.Path.{◌≡◌, refl, ap, sym, ◌∙◌, subst}
use mathlib.Core.List.{List, [], ◌∷◌, ◌++◌}
use mathlib.Core.Bool.{Bool, true, false, cond, ◌&&◌}
use mathlib.Core.Logic.{◌⊎◌, inl, inr}
use Prim.Native.Nat.{ℕ, zero, suc, ◌+◌, ◌≤◌, ◌<◌, zero-le, suc-le-suc}
use native.Mathlib.Nat.{le_of_suc-le-suc, not-suc-le-zero}
use native.Mathlib.Omega.{arith}
use borrow.Author.Tests.{ltb-true, ltb-false}
use lib.ListN.{length, get_or, length-append, length-set, get_or-append, length-map}
use lib.Seq.{get_or-append_seam, get_or-set_same, get_or-set_other}
use lib.Dec.{ltb}
use Rattle.model.specs.Term.{Node, alike, symbol, arguments, Book, Bindings, root}
use Rattle.model.specs.Lists.{first, pairwise}
use Rattle.model.specs.Table.{common, is_hole, Entry, hole_at, Table, entry, holds, entry_of, place, place_all, turn, visit, walk, settle}
use Rattle.theory.proofs.Lists.Laws.{first-append-none, T_true}
use Rattle.theory.proofs.Values.Equations.{eq-holds}
pub use Rattle.theory.proofs.Table.Search.{lt-or-le, eq-or-not, get_or-map-lt, Extends, extends_refl, extends_trans, extends_whole, has_extends, has_back, entry_of-le, entry_of_has, entry_of-least, entry_of-values, entry_of_mono, entry_of_extends, entry_of-same-length}

-- a choice by two tests takes its second branch, or both tests hold and it takes its first
cond_cases : {A : Type 0} (x y : Bool) (a c : A)
    → ((x && y ≡ false) × (cond (x && y) a c ≡ c)) ⊎ ((x ≡ true) × (y ≡ true) × (cond (x && y) a c ≡ a))
cond_cases true true a c = inr (refl, refl, refl)
cond_cases true false a c = inl (refl, refl)
cond_cases false y a c = inl (refl, refl)

module _ (b : Book) (β : Bindings) where
  -- a pair that has an entry is not placed again; any other is appended as a hole
  pub data Placed (es : Table) (l r : ℕ) : Type 0 where
    there : entry_of b β es l r < length es → place b β es l r ≡ es → Placed es l r
    appended : entry_of b β es l r ≡ length es → place b β es l r ≡ es ++ hole_at (length es) l r ∷ [] → Placed es l r

  place_at : (es : Table) (l r : ℕ) (t : Bool) → ltb (entry_of b β es l r) (length es) ≡ t → Placed es l r
  unfolding place
  place_at es l r true e = there (ltb-true _ _ e) (rw e)
  place_at es l r false e =
      appended (omega (arith, ltb-false (entry_of b β es l r) (length es) e, entry_of-le b β es l r)) (rw e)

  pub place_cases : (es : Table) (l r : ℕ) → Placed es l r
  place_cases es l r = place_at es l r (ltb (entry_of b β es l r) (length es)) refl

  -- placing a pair keeps the old entries whole
  pub place-longer : (es : Table) (l r : ℕ) → Placed es l r → length es ≤ length (place b β es l r)
  place-longer es l r (there q p) = rw p (omega arith)
  place-longer es l r (appended q p) = rw p (simp length-append (omega arith))

  pub place-old : (es : Table) (l r i : ℕ) → i < length es → Placed es l r → entry (place b β es l r) i ≡ entry es i
  place-old es l r i h (there q p) = rw p
  place-old es l r i h (appended q p) = rw p (get_or-append es _ _ i h)

  -- an entry appended by placing a pair is its hole, and stands where the pair was looked for
  place-new : (es : Table) (l r i : ℕ) → length es ≤ i → i < length (place b β es l r) → Placed es l r
      → (entry (place b β es l r) i ≡ hole_at i l r) × (entry_of b β es l r ≡ i)
  place-new es l r i h g (there q p) = absurd (omega (arith, rw p at g))
  place-new es l r i h g (appended q p) =
      let e : length es ≡ i = omega (arith, simp length-append at (rw p at g)) in
      (rw (p, ← e) (get_or-append_seam es _ _ _), q ∙ e)

  -- the lowest entry with the values of a placed pair exists; an appended one is it
  pub place_found : (es : Table) (l r : ℕ) → Placed es l r
      → (entry_of b β (place b β es l r) l r ≡ entry_of b β es l r) × (entry_of b β es l r < length (place b β es l r))
  unfolding entry_of first
  place_found es l r (there q p) = rw p (refl, q)
  place_found es l r (appended q p) =
      let new = hole_at (length es) l r in
      let found = rw (T_true (holds b β l r new) (eq-holds b β l r new refl refl)) at (first-append-none (holds b β l r) es (new ∷ []) q) in
      rw p (omega arith, simp length-append (omega arith))

  -- placing argument pairs keeps the old entries whole
  pub place_all-longer : (es : Table) (ls rs : List ℕ) → length es ≤ length (place_all b β es ls rs)
  unfolding place_all
  place_all-longer es [] rs = omega arith
  place_all-longer es (l ∷ ls) [] = omega arith
  place_all-longer es (l ∷ ls) (r ∷ rs) =
      omega (arith, place_all-longer (place b β es l r) ls rs, place-longer es l r (place_cases es l r))

  pub place_all-old : (es : Table) (ls rs : List ℕ) (i : ℕ) → i < length es → entry (place_all b β es ls rs) i ≡ entry es i
  unfolding place_all
  place_all-old es [] rs i h = refl
  place_all-old es (l ∷ ls) [] i h = refl
  place_all-old es (l ∷ ls) (r ∷ rs) i h =
      place_all-old (place b β es l r) ls rs i (omega (arith, place-longer es l r (place_cases es l r))) ∙
      place-old es l r i h (place_cases es l r)

  pub place_all_extends : (es : Table) (ls rs : List ℕ) → Extends es (place_all b β es ls rs)
  place_all_extends es ls rs = extends_whole es _ (place_all-longer es ls rs) (place_all-old es ls rs)

  -- an appended entry is a hole of one of the pairs, and the lowest with its values
  pub record Fresh (es : Table) (ls rs : List ℕ) (i : ℕ) : Type 0 where
    pub place_of : ℕ
    pub in_left : place_of < length ls
    pub in_right : place_of < length rs
    pub is : entry es i ≡ hole_at i (get_or ls place_of 0) (get_or rs place_of 0)
    pub lowest : entry_of b β es (get_or ls place_of 0) (get_or rs place_of 0) ≡ i

  place_all-new-at : (es : Table) (l r : ℕ) (ls rs : List ℕ) (i : ℕ) → length es ≤ i
      → (i < length (place b β es l r)) ⊎ (length (place b β es l r) ≤ i)
      → (length (place b β es l r) ≤ i → Fresh (place_all b β (place b β es l r) ls rs) ls rs i)
      → Fresh (place_all b β (place b β es l r) ls rs) (l ∷ ls) (r ∷ rs) i
  place_all-new-at es l r ls rs i h (inl p) k =
      let found = place_found es l r (place_cases es l r) in
      let new = place-new es l r i h p (place_cases es l r) in
      record {
        place_of = 0;
        in_left = omega arith;
        in_right = omega arith;
        is = place_all-old (place b β es l r) ls rs i p ∙ new.0;
        lowest =
            entry_of_extends b β (place b β es l r) _ l r (place_all_extends (place b β es l r) ls rs) (omega arith) ∙ found.0 ∙ new.1;
      }
  place_all-new-at es l r ls rs i h (inr p) k =
      let f = k p in
      record {
        place_of = suc f.place_of;
        in_left = suc-le-suc f.in_left;
        in_right = suc-le-suc f.in_right;
        is = f.is;
        lowest = f.lowest;
      }

  pub place_all-new : (es : Table) (ls rs : List ℕ) (i : ℕ) → length es ≤ i → i < length (place_all b β es ls rs)
      → Fresh (place_all b β es ls rs) ls rs i
  unfolding place_all
  place_all-new es [] rs i h g = absurd (omega arith)
  place_all-new es (l ∷ ls) [] i h g = absurd (omega arith)
  place_all-new es (l ∷ ls) (r ∷ rs) i h g =
      place_all-new-at es l r ls rs i h (lt-or-le i (length (place b β es l r))) (λ q. place_all-new (place b β es l r) ls rs i q g)

  -- each pair has its entry
  pub place_all_has : (es : Table) (ls rs : List ℕ) (j : ℕ) → j < length ls → j < length rs
      → entry_of b β (place_all b β es ls rs) (get_or ls j 0) (get_or rs j 0) < length (place_all b β es ls rs)
  unfolding place_all
  place_all_has es [] rs j h g = absurd (not-suc-le-zero h)
  place_all_has es (l ∷ ls) [] j h g = absurd (not-suc-le-zero g)
  place_all_has es (l ∷ ls) (r ∷ rs) zero h g =
      let found = place_found es l r (place_cases es l r) in
      let e = entry_of_extends b β (place b β es l r) _ l r (place_all_extends (place b β es l r) ls rs) (omega arith) in
      omega (arith, place_all-longer (place b β es l r) ls rs)
  place_all_has es (l ∷ ls) (r ∷ rs) (suc j) h g =
      place_all_has (place b β es l r) ls rs j (le_of_suc-le-suc h) (le_of_suc-le-suc g)

  -- a placed pair is placeAll of one pair
  pub place-one : (es : Table) (l r : ℕ) → place b β es l r ≡ place_all b β es (l ∷ []) (r ∷ [])
  unfolding place_all
  place-one es l r = refl

  -- a visit leaves the table, or turns a hole of alike roots
  pub visit_cases : (es : Table) (i : ℕ)
      → ((is_hole (entry es i).kind && alike (root b β (entry es i).left) (root b β (entry es i).right) ≡ false) × (visit b β es i ≡ es))
      ⊎ ((is_hole (entry es i).kind ≡ true) × (alike (root b β (entry es i).left) (root b β (entry es i).right) ≡ true)
      × (visit b β es i ≡ turn b β es i (entry es i) (root b β (entry es i).left) (root b β (entry es i).right)))
  unfolding visit
  visit_cases es i =
      cond_cases (is_hole (entry es i).kind) (alike (root b β (entry es i).left) (root b β (entry es i).right)) _ es

  -- the turned table: its length, the turned entry and the others
  module _ (es : Table) (i : ℕ) (l r : Node) where
    abbrev pub grown : Table
    grown = place_all b β es (arguments l) (arguments r)

    pub turn-length : length (turn b β es i (entry es i) l r) ≡ length grown
    unfolding turn
    turn-length = length-set grown i _

    pub turn-same : i < length es
        → entry (turn b β es i (entry es i) l r) i ≡
        record {
          left = (entry es i).left;
          right = (entry es i).right;
          kind = common (symbol l) (pairwise (entry_of b β grown) (arguments l) (arguments r));
          same_as = (entry es i).same_as;
        }
    unfolding turn
    turn-same h = get_or-set_same grown i _ _ (omega (arith, place_all-longer es (arguments l) (arguments r)))

    pub turn_other : (j : ℕ) → (j ≡ i → ⊥) → entry (turn b β es i (entry es i) l r) j ≡ entry grown j
    unfolding turn
    turn_other j h = get_or-set_other grown i j _ _ h

    -- turning changes no pair of the old entries
    turn-left : (j : ℕ) → j < length es → (j ≡ i) ⊎ (j ≡ i → ⊥) → (entry (turn b β es i (entry es i) l r) j).left ≡ (entry es j).left
    turn-left j p (inl e) =
        let q : i < length es = omega arith in
        rw (e, turn-same q)
    turn-left j p (inr e) = rw (turn_other j e, place_all-old es (arguments l) (arguments r) j p)

    turn-right : (j : ℕ) → j < length es → (j ≡ i) ⊎ (j ≡ i → ⊥) → (entry (turn b β es i (entry es i) l r) j).right ≡ (entry es j).right
    turn-right j p (inl e) =
        let q : i < length es = omega arith in
        rw (e, turn-same q)
    turn-right j p (inr e) = rw (turn_other j e, place_all-old es (arguments l) (arguments r) j p)

    turn_extends : Extends es (turn b β es i (entry es i) l r)
    turn_extends =
        record {
          longer = rw turn-length (place_all-longer es (arguments l) (arguments r));
          left = λ j p. turn-left j p (eq-or-not j i);
          right = λ j p. turn-right j p (eq-or-not j i);
        }

    -- turning changes no pair at all
    turn_pair : (j : ℕ) → i < length es → (j ≡ i) ⊎ (j ≡ i → ⊥)
        → ((entry (turn b β es i (entry es i) l r) j).left ≡ (entry grown j).left)
        × ((entry (turn b β es i (entry es i) l r) j).right ≡ (entry grown j).right)
    turn_pair j p (inl e) = rw (e, turn-same p, place_all-old es (arguments l) (arguments r) i p) (refl, refl)
    turn_pair j p (inr e) = rw (turn_other j e) (refl, refl)

    pub turn_grown : i < length es → Extends grown (turn b β es i (entry es i) l r)
    turn_grown p =
        record {
          longer = omega (arith, turn-length);
          left = λ j q. (turn_pair j p (eq-or-not j i)).0;
          right = λ j q. (turn_pair j p (eq-or-not j i)).1;
        }

  -- a visit changes no old pair
  pub visit_extends : (es : Table) (i : ℕ) → Extends es (visit b β es i)
  visit_extends es i =
      elim (visit_cases es i) [
        | inl p ↦ subst (Extends es) (sym p.1) (extends_refl es)
        | inr p ↦ subst (Extends es) (sym p.2) (turn_extends es i _ _)
      ]

  -- a walk with fuel visits entry i and goes on, or has reached the end of the table
  pub data Walked (k i : ℕ) (es : Table) : Type 0 where
    on : i < length es → walk b β (suc k) i es ≡ walk b β k (suc i) (visit b β es i) → Walked k i es
    over : length es ≤ i → walk b β (suc k) i es ≡ es → Walked k i es

  walk_at : (k i : ℕ) (es : Table) (t : Bool) → ltb i (length es) ≡ t → Walked k i es
  unfolding walk
  walk_at k i es true e = on (ltb-true _ _ e) (rw e)
  walk_at k i es false e = over (ltb-false _ _ e) (rw e)

  pub walk_cases : (k i : ℕ) (es : Table) → Walked k i es
  walk_cases k i es = walk_at k i es (ltb i (length es)) refl

  -- nor does the walk
  walk_extends_at : (k i : ℕ) (es : Table) → Walked k i es → Extends (visit b β es i) (walk b β k (suc i) (visit b β es i))
      → Extends es (walk b β (suc k) i es)
  walk_extends_at k i es (on p e) x = rw e (extends_trans es _ _ (visit_extends es i) x)
  walk_extends_at k i es (over p e) x = rw e (extends_refl es)

  pub walk_extends : (k i : ℕ) (es : Table) → Extends es (walk b β k i es)
  unfolding walk
  walk_extends zero i es = extends_refl es
  walk_extends (suc k) i es = walk_extends_at k i es (walk_cases k i es) (walk_extends k (suc i) (visit b β es i))

  -- What a visit keeps holds at the end of the walk. Where the walk had fuel for the capacity and its table is no longer than
  -- that, every entry was visited.
  module _ (P : ℕ → Table → Type 0) (step : (i : ℕ) (es : Table) → i < length es → P i es → P (suc i) (visit b β es i)) (c : ℕ) where
    walk_keeps_at : (k i : ℕ) (es : Table) → i ≤ length es → P i es → length (walk b β (suc k) i es) ≤ c
        → (i < length es → length (walk b β k (suc i) (visit b β es i)) ≤ c
        → P (length (walk b β k (suc i) (visit b β es i))) (walk b β k (suc i) (visit b β es i)))
        → Walked k i es → P (length (walk b β (suc k) i es)) (walk b β (suc k) i es)
    walk_keeps_at k i es p h g ih (on q e) = rw e (ih q (rw e at g))
    walk_keeps_at k i es p h g ih (over q e) =
        let at-end : i ≡ length es = omega arith in
        rw e (rw at-end at h)

    walk_keeps_from : (k i : ℕ) (es : Table) → i + k ≡ suc c → i ≤ length es → P i es → length (walk b β k i es) ≤ c
        → P (length (walk b β k i es)) (walk b β k i es)
    unfolding walk
    walk_keeps_from zero i es s p h g = absurd (omega arith)
    walk_keeps_from (suc k) i es s p h g =
        walk_keeps_at k i es p h g
        (λ q. walk_keeps_from k (suc i) (visit b β es i) (omega arith) (omega (arith, (visit_extends es i).longer)) (step i es q h))
        (walk_cases k i es)

  pub walk_keeps : (P : ℕ → Table → Type 0) → ((i : ℕ) (es : Table) → i < length es → P i es → P (suc i) (visit b β es i))
      → (c : ℕ) (es : Table) → P 0 es → length (walk b β (suc c) 0 es) ≤ c
      → P (length (walk b β (suc c) 0 es)) (walk b β (suc c) 0 es)
  walk_keeps P step c es h g = walk_keeps_from P step c (suc c) 0 es (omega arith) zero-le h g

  -- settling sets same-as and nothing else
  pub length-settle : (es : Table) → length (settle b β es) ≡ length es
  unfolding settle
  length-settle es = length-map es _

  pub entry-settle : (es : Table) (i : ℕ) → i < length es
      → entry (settle b β es) i ≡
      record { left = (entry es i).left; right = (entry es i).right; kind = (entry es i).kind; same_as = entry_of b β es (entry es i).left (entry es i).right }
  unfolding settle
  entry-settle es i h = get_or-map-lt _ es i (hole_at 0 0 0) (hole_at 0 0 0) h

  pub settle_extends : (es : Table) → Extends es (settle b β es)
  settle_extends es =
      record {
        longer = omega (arith, length-settle es);
        left = λ i h. ap (λ (e : Entry). e.left) (entry-settle es i h);
        right = λ i h. ap (λ (e : Entry). e.right) (entry-settle es i h);
      }
