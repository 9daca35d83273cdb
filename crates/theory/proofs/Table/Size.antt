-- Distinct pairs of terms: a right table has at most as many entries as there are pairs of terms. Assumes nothing.
use mathlib.Core.Path.{◌≡◌, ap, sym, ◌∙◌}
use mathlib.Core.List.{List, map}
use Prim.Native.Nat.{ℕ, ◌≤◌, ◌<◌, ◌+◌, ◌*◌, ◌/◌, ◌%◌}
use native.Mathlib.Nat.{mul-add-div_right, div-eq_of_lt, mul-add-mod_self_right, mod-eq_of_lt, div-lt_iff_lt-mul}
use native.Mathlib.Omega.{arith}
use lib.ListN.{length, get_or, length-map}
use Rattle.model.specs.Term.{Book, Bindings}
use Rattle.model.specs.Table.{Entry, hole_at, Table, entry}
use Rattle.theory.proofs.Soundness.Facts.{TableRight}
use Rattle.theory.proofs.Lists.Pigeonhole.{pigeonhole}
use Rattle.theory.proofs.Table.Place.{get_or-map-lt}

-- a pair of numbers below n as one number: the pair can be read off, and it is below n * n
pair_left : (n l r : ℕ) → r < n → (l * n + r) / n ≡ l
pair_left n l r h =
    let pos : 0 < n = omega arith in
    mul-add-div_right pos l r ∙ rw (div-eq_of_lt h) (omega arith)

pair_right : (n l r : ℕ) → r < n → (l * n + r) % n ≡ r
pair_right n l r h = mul-add-mod_self_right l n r ∙ mod-eq_of_lt h

pair_lt : (n l r : ℕ) → l < n → r < n → l * n + r < n * n
pair_lt n l r p q =
    let pos : 0 < n = omega arith in
    (div-lt_iff_lt-mul pos).0 (rw (pair_left n l r q) p)

module _ (b : Book) (β : Bindings) (es : Table) (right : TableRight b β es) where
  -- the numbers of the entries' pairs
  abbrev pairs : List ℕ
  pairs = map (λ (e : Entry). e.left * length b + e.right) es

  pair_at_lem : (i : ℕ) → i < length es → get_or pairs i 0 ≡ (entry es i).left * length b + (entry es i).right
  pair_at_lem i h = get_or-map-lt _ es i (hole_at 0 0 0) 0 h

  -- no two entries have one number, so there are few of them
  pairs-distinct : (i j : ℕ) → i < j → j < length es → get_or pairs i 0 ≡ get_or pairs j 0 → ⊥
  pairs-distinct i j p q e =
      let n = length b in
      let same = sym (pair_at_lem i (omega arith)) ∙ e ∙ pair_at_lem j q in
      let ri = right.right-term i (omega arith) in
      let rj = right.right-term j q in
      right.distinct-pairs i j p q
      (sym (pair_left n _ _ ri) ∙ ap (λ (x : ℕ). x / n) same ∙ pair_left n _ _ rj)
      (sym (pair_right n _ _ ri) ∙ ap (λ (x : ℕ). x % n) same ∙ pair_right n _ _ rj)

  pub pairs-few : length es ≤ length b * length b
  pairs-few =
      let m = length-map es (λ (e : Entry). e.left * length b + e.right) in
      rw m at
      (pigeonhole pairs (length b * length b)
      (λ i h. rw (pair_at_lem i (rw m at h)) (pair_lt (length b) _ _ (right.left-term i (rw m at h)) (right.right-term i (rw m at h))))
      (λ i j p q. pairs-distinct i j p (rw m at q)))
