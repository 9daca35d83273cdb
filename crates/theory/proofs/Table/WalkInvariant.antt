-- What every visit of the walk keeps, under given bindings: terms in range, distinct pairs, right common entries, and right
-- kinds of all entries visited so far. Assumes nothing.
use mathlib.Core.Path.{◌≡◌, refl, ap, ◌∙◌}
use mathlib.Core.List.{List}
use mathlib.Core.Bool.{true, false, ◌&&◌}
use mathlib.Core.Logic.{◌⊎◌, inl, inr}
use Prim.Native.Nat.{ℕ, suc, ◌≤◌, ◌<◌}
use native.Mathlib.Omega.{arith}
use lib.ListN.{length, get_or}
use Rattle.model.specs.Lists.{pairwise}
use Rattle.model.specs.Term.{Node, symbol, arguments, alike, Book, Bindings, val, root}
use Rattle.model.specs.Table.{Kind, hole, common, is_hole, Entry, Table, entry, entry_of, place_all, turn, visit, walk}
use Rattle.theory.proofs.Soundness.Facts.{Formed, Acyclic, Has, CommonRight, KindRight}
use Rattle.theory.proofs.Lists.Laws.{length-pairwise, get_or-pairwise}
use Rattle.theory.proofs.Values.Equations.{root-argument, alike-counts}
use Rattle.theory.proofs.Table.Place.{Extends, extends_trans, has_extends, entry_of_has, entry_of-least, lt-or-le, eq-or-not, place_all-old, place_all_extends, Fresh, place_all-new, place_all_has, grown, turn-length, turn-same, turn_other, turn_grown, visit_cases, walk_keeps}

-- An entry that the walk may still have to turn: a hole, or a common entry that is right.
abbrev pub Pending : Book → Bindings → Table → Kind → Node → Node → Type 0
Pending b β es hole l r = Unit {0}
Pending b β es (common s args) l r = CommonRight b β es s args l r

abbrev pub PendingAt : Book → Bindings → Table → Entry → Type 0
PendingAt b β es e = Pending b β es e.kind (root b β e.left) (root b β e.right)

-- An entry whose kind is right.
abbrev pub RightAt : Book → Bindings → Table → Entry → Type 0
RightAt b β es e = KindRight b β es e.kind (root b β e.left) (root b β e.right)

-- What holds of every entry during the walk.
pub record Holding (b : Book) (β : Bindings) (es : Table) : Type 0 where
  pub left-term : (j : ℕ) → j < length es → (entry es j).left < length b
  pub right-term : (j : ℕ) → j < length es → (entry es j).right < length b
  pub pending : (j : ℕ) → j < length es → PendingAt b β es (entry es j)
  pub distinct-pairs : (i j : ℕ) → i < j → j < length es
      → (entry es i).left ≡ (entry es j).left → (entry es i).right ≡ (entry es j).right → ⊥

-- The walk stands before entry i: the entries below it are right.
pub record Walking (b : Book) (β : Bindings) (i : ℕ) (es : Table) : Type 0 where
  pub holding : Holding b β es
  pub visited : (j : ℕ) → j < i → j < length es → RightAt b β es (entry es j)

module _ (b : Book) (β : Bindings) where
  -- a right entry stays right in a table that extends this one
  pub common_extends : (es es' : Table) (s : ℕ) (args : List ℕ) (l r : Node) → Extends es es'
      → CommonRight b β es s args l r → CommonRight b β es' s args l r
  common_extends es es' s args l r x c =
      record {
        alike-roots = c.alike-roots;
        the_symbol = c.the_symbol;
        count_left = c.count_left;
        count-right = c.count-right;
        argument = λ j h. has_extends b β es es' _ _ _ x (c.argument j h);
      }

  kind_extends : (es es' : Table) (k : Kind) (l r : Node) → Extends es es' → KindRight b β es k l r → KindRight b β es' k l r
  kind_extends es es' hole l r x h = h
  kind_extends es es' (common s args) l r x h = common_extends es es' s args l r x h

  pub right_extends : (es es' : Table) (e : Entry) → Extends es es' → RightAt b β es e → RightAt b β es' e
  right_extends es es' e x h = kind_extends es es' e.kind (root b β e.left) (root b β e.right) x h

  open_extends : (es es' : Table) (k : Kind) (l r : Node) → Extends es es' → Pending b β es k l r → Pending b β es' k l r
  open_extends es es' hole l r x h = tt
  open_extends es es' (common s args) l r x h = common_extends es es' s args l r x h

  pub pending_extends : (es es' : Table) (e : Entry) → Extends es es' → PendingAt b β es e → PendingAt b β es' e
  pending_extends es es' e x h = open_extends es es' e.kind (root b β e.left) (root b β e.right) x h

  -- a right entry may be pending; a pending one that need not turn is right
  pub right_pending : (es : Table) (k : Kind) (l r : Node) → KindRight b β es k l r → Pending b β es k l r
  right_pending es hole l r h = tt
  right_pending es (common s args) l r h = h

  pending_right : (es : Table) (k : Kind) (l r : Node) → Pending b β es k l r → is_hole k && alike l r ≡ false → KindRight b β es k l r
  unfolding is_hole
  pending_right es hole l r h e = e
  pending_right es (common s args) l r h e = h

  -- placing pairs of terms keeps what holds
  module _ (es : Table) (ls rs : List ℕ) (h : Holding b β es) (left_in : (j : ℕ) → j < length ls → get_or ls j 0 < length b)
      (right-in : (j : ℕ) → j < length rs → get_or rs j 0 < length b) where
    abbrev es' : Table
    es' = place_all b β es ls rs

    -- every entry has terms of the book
    fresh_term : (j : ℕ) → Fresh b β es' ls rs j → ((entry es' j).left < length b) × ((entry es' j).right < length b)
    fresh_term j f = rw f.is (left_in f.place_of f.in_left, right-in f.place_of f.in_right)

    placed-term : (j : ℕ) → j < length es' → (j < length es) ⊎ (length es ≤ j)
        → ((entry es' j).left < length b) × ((entry es' j).right < length b)
    placed-term j p (inl q) = rw (place_all-old b β es ls rs j q) (h.left-term j q, h.right-term j q)
    placed-term j p (inr q) = fresh_term j (place_all-new b β es ls rs j q p)

    -- every entry is a hole or right
    placed_pending : (j : ℕ) → j < length es' → (j < length es) ⊎ (length es ≤ j)
        → PendingAt b β es' (entry es' j)
    placed_pending j p (inl q) =
        rw (place_all-old b β es ls rs j q) (pending_extends es es' (entry es j) (place_all_extends b β es ls rs) (h.pending j q))
    placed_pending j p (inr q) = rw (place_all-new b β es ls rs j q p).is tt

    -- an appended pair is the lowest of its values, so no lower entry has its numbers
    fresh_distinct : (i j : ℕ) → i < j → j < length es' → Fresh b β es' ls rs j
        → (entry es' i).left ≡ (entry es' j).left → (entry es' i).right ≡ (entry es' j).right → ⊥
    fresh_distinct i j p q f e g =
        let l = get_or ls f.place_of 0 in
        let r = get_or rs f.place_of 0 in
        let has : Has b β es' i l r =
        record {
          present = omega arith;
          left = ap (val b β) (e ∙ ap (λ (x : Entry). x.left) f.is);
          right = ap (val b β) (g ∙ ap (λ (x : Entry). x.right) f.is);
        } in
        omega (arith, entry_of-least b β es' i l r has, f.lowest)

    placed-distinct : (i j : ℕ) → i < j → j < length es' → (j < length es) ⊎ (length es ≤ j)
        → (entry es' i).left ≡ (entry es' j).left → (entry es' i).right ≡ (entry es' j).right → ⊥
    placed-distinct i j p q (inl o) e g =
        let old-i = place_all-old b β es ls rs i (omega arith) in
        let old-j = place_all-old b β es ls rs j o in
        h.distinct-pairs i j p o (rw (old-i, old-j) at e) (rw (old-i, old-j) at g)
    placed-distinct i j p q (inr o) e g = fresh_distinct i j p q (place_all-new b β es ls rs j o q) e g

    pub place_all_holding : Holding b β (place_all b β es ls rs)
    place_all_holding =
        record {
          left-term = λ j p. (placed-term j p (lt-or-le j (length es))).0;
          right-term = λ j p. (placed-term j p (lt-or-le j (length es))).1;
          pending = λ j p. placed_pending j p (lt-or-le j (length es));
          distinct-pairs = λ i j p q. placed-distinct i j p q (lt-or-le j (length es));
        }

-- a visit of entry i keeps what holds, and leaves the entry right
module _ (b : Book) (β : Bindings) (formed : Formed b β) (acyclic : Acyclic b β) (i : ℕ) (es : Table) (here : i < length es)
    (w : Walking b β i es) where
  abbrev l : Node
  l = root b β (entry es i).left

  abbrev r : Node
  r = root b β (entry es i).right

  abbrev new : Table
  new = turn b β es i (entry es i) l r

  module _ (same : alike l r ≡ true) where
    -- the two sides have one count of arguments
    counts : length (arguments l) ≡ length (arguments r)
    counts =
        alike-counts l r same

    -- what holds is kept by placing the argument pairs
    grown_holding : Holding b β (grown b β es i l r)
    grown_holding =
        place_all_holding b β es (arguments l) (arguments r) w.holding
        (root-argument b β formed acyclic _ (w.holding.left-term i here))
        (root-argument b β formed acyclic _ (w.holding.right-term i here))

    abbrev args : List ℕ
    args = pairwise (entry_of b β (grown b β es i l r)) (arguments l) (arguments r)

    args_length : length args ≡ length (arguments l)
    args_length = length-pairwise _ (arguments l) (arguments r) counts

    -- the turned entry is right
    turned-argument : (j : ℕ) → j < length args → Has b β new (get_or args j 0) (get_or (arguments l) j 0) (get_or (arguments r) j 0)
    turned-argument j h =
        let p : j < length (arguments l) = omega (arith, args_length) in
        let q : j < length (arguments r) = omega (arith, counts) in
        rw (get_or-pairwise (entry_of b β (grown b β es i l r)) (arguments l) (arguments r) counts j p)
        (has_extends b β (grown b β es i l r) new _ _ _ (turn_grown b β es i l r here)
        (entry_of_has b β (grown b β es i l r) _ _ (place_all_has b β es (arguments l) (arguments r) j p q)))

    turned_right : CommonRight b β new (symbol l) args l r
    turned_right =
        record {
          alike-roots = same;
          the_symbol = refl;
          count_left = args_length;
          count-right = args_length ∙ counts;
          argument = turned-argument;
        }

    -- the other entries are as they were
    new_pending : (j : ℕ) → j < length new → (j ≡ i) ⊎ (j ≡ i → ⊥) → PendingAt b β new (entry new j)
    new_pending j p (inl e) = rw (e, turn-same b β es i l r here) turned_right
    new_pending j p (inr e) =
        rw (turn_other b β es i l r j e)
        (pending_extends b β (grown b β es i l r) new (entry (grown b β es i l r) j) (turn_grown b β es i l r here)
        (grown_holding.pending j (omega (arith, turn-length b β es i l r))))

    new_visited : (j : ℕ) → j < suc i → (j ≡ i) ⊎ (j ≡ i → ⊥) → RightAt b β new (entry new j)
    new_visited j p (inl e) = rw (e, turn-same b β es i l r here) turned_right
    new_visited j p (inr e) =
        let q : j < length es = omega arith in
        rw (turn_other b β es i l r j e, place_all-old b β es (arguments l) (arguments r) j q)
        (right_extends b β es new (entry es j)
        (extends_trans es (grown b β es i l r) new (place_all_extends b β es (arguments l) (arguments r)) (turn_grown b β es i l r here))
        (w.visited j (omega arith) q))

    new_holding : Holding b β new
    new_holding =
        let x = turn_grown b β es i l r here in
        let n = turn-length b β es i l r in
        record {
          left-term = λ j p. rw (x.left j (omega arith)) (grown_holding.left-term j (omega arith));
          right-term = λ j p. rw (x.right j (omega arith)) (grown_holding.right-term j (omega arith));
          pending = λ j p. new_pending j p (eq-or-not j i);
          distinct-pairs = λ k j p q e g.
              grown_holding.distinct-pairs k j p (omega arith)
              (rw (x.left k (omega arith), x.left j (omega arith)) at e)
              (rw (x.right k (omega arith), x.right j (omega arith)) at g);
        }

    turn_walking : Walking b β (suc i) new
    turn_walking = record { holding = new_holding; visited = λ j p q. new_visited j p (eq-or-not j i) }

  -- an entry that need not turn is right as it is
  stay_visited : is_hole (entry es i).kind && alike l r ≡ false → (j : ℕ) → j < suc i → j < length es → (j ≡ i) ⊎ (j ≡ i → ⊥)
      → RightAt b β es (entry es j)
  stay_visited no-turn j p q (inl e) = rw e (pending_right b β es (entry es i).kind l r (w.holding.pending i here) no-turn)
  stay_visited no-turn j p q (inr e) = w.visited j (omega arith) q

  pub visit_walking : Walking b β (suc i) (visit b β es i)
  visit_walking =
      elim (visit_cases b β es i) [
        | inl p ↦ rw p.1 (record { holding = w.holding; visited = λ j q k. stay_visited p.0 j q k (eq-or-not j i) })
        | inr p ↦ rw p.2 (turn_walking p.1)
      ]

-- where the walk ends within the capacity every entry is right
pub walk-right : (b : Book) (β : Bindings) → Formed b β → Acyclic b β → (c : ℕ) (es : Table) → Holding b β es
    → length (walk b β (suc c) 0 es) ≤ c → Walking b β (length (walk b β (suc c) 0 es)) (walk b β (suc c) 0 es)
walk-right b β formed acyclic c es h fits =
    walk_keeps b β (Walking b β) (visit_walking b β formed acyclic) c es
    (record { holding = h; visited = λ j p q. absurd (omega arith) }) fits
