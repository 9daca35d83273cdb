-- Walks of different lengths over one table: the walk with one step more than the capacity is long enough. Assumes nothing.
use mathlib.Core.Path.{◌≡◌, refl, sym}
use mathlib.Core.Bool.{Bool, true, false, ◌&&◌, true≢false}
use mathlib.Core.Logic.{◌↔◌, ◌⊎◌, inl, inr}
use Prim.Native.Nat.{ℕ, zero, suc, ◌+◌, ◌-◌, ◌≤◌, ◌<◌}
use native.Mathlib.Nat.{add-zero, add-suc, zero-add, suc-add}
use native.Mathlib.Omega.{arith}
use lib.ListN.{length}
use Rattle.model.specs.Term.{Node, arguments, alike, Book, Bindings, root}
use Rattle.model.specs.Table.{is_hole, Entry, Table, entry, turn, visit, walk}
use Rattle.theory.specs.Walk.{Ended, EndsWithin, WalkLongEnough}
use Rattle.theory.proofs.Table.Place.{lt-or-le, eq-or-not, place_all-old, turn-same, turn_other, visit_cases, Walked, on, over, walk_cases, walk_extends, walk_keeps}

-- Whether a visit turns the entry: a hole whose sides stand for terms of one symbol and one count.
abbrev pub to_turn : Book → Bindings → Entry → Bool
to_turn b β e = is_hole e.kind && alike (root b β e.left) (root b β e.right)

-- where two tests hold they hold together
pub not_both : (x y : Bool) → x ≡ true → y ≡ true → x && y ≡ false → ⊥
not_both x y p q h = true≢false (rw (p, q) at h)

module _ (b : Book) (β : Bindings) where
  -- a visit of an entry that is not to turn leaves the table
  pub visit_idle : (es : Table) (i : ℕ) → to_turn b β (entry es i) ≡ false → visit b β es i ≡ es
  visit_idle es i h =
      elim (visit_cases b β es i) [
        | inl p ↦ p.1
        | inr p ↦ absurd (not_both _ _ p.0 p.1 h)
      ]

  -- a walk from entry i on leaves the table where none of these entries is to turn
  walk_idle_at : (k i : ℕ) (es : Table) → (i < length es → visit b β es i ≡ es) → (i < length es → walk b β k (suc i) es ≡ es)
      → Walked b β k i es → walk b β (suc k) i es ≡ es
  walk_idle_at k i es h g (on p e) = rw (e, h p) (g p)
  walk_idle_at k i es h g (over p e) = e

  pub walk_idle : (k i : ℕ) (es : Table) → ((j : ℕ) → i ≤ j → j < length es → to_turn b β (entry es j) ≡ false) → walk b β k i es ≡ es
  unfolding walk
  walk_idle zero i es h = refl
  walk_idle (suc k) i es h =
      walk_idle_at k i es (λ p. visit_idle es i (h i (omega arith) p)) (λ p. walk_idle k (suc i) es (λ j q. h j (omega arith)))
      (walk_cases b β k i es)

  -- a walk of k + d steps is one of k steps, then one of d steps from where that stands
  walk_split_at : (k d i : ℕ) (es : Table)
      → walk b β (k + d) (suc i) (visit b β es i) ≡ walk b β d (suc (i + k)) (walk b β k (suc i) (visit b β es i))
      → Walked b β k i es → Walked b β (k + d) i es
      → walk b β (suc (k + d)) i es ≡ walk b β d (suc (i + k)) (walk b β (suc k) i es)
  walk_split_at k d i es h (on p e) (on q f) = rw (e, f) h
  walk_split_at k d i es h (on p e) (over q f) = absurd (omega arith)
  walk_split_at k d i es h (over p e) (on q f) = absurd (omega arith)
  walk_split_at k d i es h (over p e) (over q f) = rw (e, f) (sym (walk_idle d _ es (λ j o u. absurd (omega arith))))

  pub walk_split : (k d i : ℕ) (es : Table) → walk b β (k + d) i es ≡ walk b β d (i + k) (walk b β k i es)
  unfolding walk
  walk_split zero d i es = rw (zero-add, add-zero)
  walk_split (suc k) d i es =
      rw (suc-add, add-suc)
      (walk_split_at k d i es (rw (suc-add i k) at (walk_split k d (suc i) (visit b β es i))) (walk_cases b β k i es)
      (walk_cases b β (k + d) i es))

  -- more steps do not alter the table of a walk that has ended
  pub walk-stays : (k n : ℕ) (es : Table) → Ended b β (walk b β k 0 es) → k ≤ n → walk b β n 0 es ≡ walk b β k 0 es
  walk-stays k n es h p =
      let e : n ≡ k + (n - k) = omega arith in
      rw (e, walk_split k (n - k) 0 es) (walk_idle (n - k) (0 + k) (walk b β k 0 es) (λ j o q. h j q))

  -- and do not shorten it
  pub walk-longer : (k n : ℕ) (es : Table) → k ≤ n → length (walk b β k 0 es) ≤ length (walk b β n 0 es)
  walk-longer k n es p =
      let e : n ≡ k + (n - k) = omega arith in
      rw (e, walk_split k (n - k) 0 es) (walk_extends b β (n - k) (0 + k) (walk b β k 0 es)).longer

  -- The walk stands before entry i: no entry below it is to turn.
  abbrev Passed : ℕ → Table → Type 0
  Passed i es = (j : ℕ) → j < i → to_turn b β (entry es j) ≡ false

  -- a turned entry is common, and the old ones beside it are as they were
  turn_passed : (i : ℕ) (es : Table) (l r : Node) → i < length es → Passed i es → (j : ℕ) → j < suc i → (j ≡ i) ⊎ (j ≡ i → ⊥)
      → to_turn b β (entry (turn b β es i (entry es i) l r) j) ≡ false
  unfolding is_hole
  turn_passed i es l r h g j p (inl e) = rw (e, turn-same b β es i l r h)
  turn_passed i es l r h g j p (inr e) =
      rw (turn_other b β es i l r j e, place_all-old b β es (arguments l) (arguments r) j (omega arith)) (g j (omega arith))

  -- where the entry is not to turn the table stays
  stay_passed : (i : ℕ) (es : Table) → Passed i es → to_turn b β (entry es i) ≡ false → (j : ℕ) → j < suc i → (j ≡ i) ⊎ (j ≡ i → ⊥)
      → to_turn b β (entry es j) ≡ false
  stay_passed i es g h j p (inl e) = rw e h
  stay_passed i es g h j p (inr e) = g j (omega arith)

  -- so a visit passes its entry
  visit_passed : (i : ℕ) (es : Table) → i < length es → Passed i es → Passed (suc i) (visit b β es i)
  visit_passed i es h g =
      elim (visit_cases b β es i) [
        | inl p ↦ rw p.1 (λ j q. stay_passed i es g p.0 j q (eq-or-not j i))
        | inr p ↦ rw p.2 (λ j q. turn_passed i es _ _ h g j q (eq-or-not j i))
      ]

  -- the walk with one step more than the capacity has ended where its table fits
  walk-ended : (c : ℕ) (es : Table) → length (walk b β (suc c) 0 es) ≤ c → Ended b β (walk b β (suc c) 0 es)
  walk-ended c es fits = walk_keeps b β Passed visit_passed c es (λ j p. absurd (omega arith)) fits

  -- so some walk ends within the capacity exactly where that one does
  ends-fits-at : (c : ℕ) (es : Table) (k : ℕ) → length (walk b β k 0 es) ≤ c → Ended b β (walk b β k 0 es) → (c < k) ⊎ (k ≤ c)
      → length (walk b β (suc c) 0 es) ≤ c
  ends-fits-at c es k fits h (inl p) = omega (arith, walk-longer (suc c) k es p)
  ends-fits-at c es k fits h (inr p) = rw (walk-stays k (suc c) es h (omega arith)) fits

  pub ends-fits : (c : ℕ) (es : Table) → EndsWithin b β c es ↔ (length (walk b β (suc c) 0 es) ≤ c)
  ends-fits c es = (
    λ w. ends-fits-at c es w.0 w.1 w.2 (lt-or-le c w.0),
    λ fits. (suc c, fits, walk-ended c es fits),
  )

-- one step more than the capacity is enough
pub walk-long_enough : WalkLongEnough
walk-long_enough b β c es =
    record {
      ended = walk-ended b β c es;
      stays = λ fits k p. walk-stays b β (suc c) k es (walk-ended b β c es fits) p;
      grows = λ h k p. omega (arith, walk-longer b β (suc c) k es p);
    }
