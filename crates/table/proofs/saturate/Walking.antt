-- The walk of a table in slices: after i visits they hold the table that a walk of i steps makes, and the entries from i on are as
-- they were. Assumes nothing.
use Rattle.std.proofs.Common.{◌≡◌, refl, sym, ◌∙◌, List, true, cond, ◌&&◌, ◌⊎◌, inl, inr, ℕ, suc, ◌+◌, ◌-◌, ◌≤◌, ◌<◌, zero-add, arith, lt-ltb, le-ltb, length, ltb}
use Rattle.model.specs.Term.{Node, arguments, Book, Bindings}
use Rattle.model.specs.Table.{is_hole, Table, entry, turn, visit, walk}
use Rattle.model.specs.Step.{turned}
use Rattle.theory.proofs.Table.Place.{lt-or-le, grown, place_all-old, place_all-longer, turn-length, turn_other, visit_cases, visit_extends, Walked, on, over, walk_cases, walk_extends}
use Rattle.theory.proofs.Table.WalkLength.{to_turn, walk_split, walk_idle, walk-longer}
use Rattle.refusal.specs.declared.Refusal.{Refusal}
use Rattle.table.specs.place.Stands.{Stands, IsFull, GivenTable, Whatever}
use Rattle.table.specs.visit.Visiting.{ToVisit, Visits}
use Rattle.table.specs.declared.visit.Visited.{Visited}
use Rattle.table.proofs.place.Placing.{few-entries, stands-reaches}
use Rattle.table.proofs.visit.Sizes.{SameSizes, same-sizes, sizes_trans}
use Rattle.table.specs.saturate.Walking.{ToWalk, Walks}
use Rattle.table.specs.declared.saturate.Walked.{Walked as Answer}
use Rattle.table.proofs.saturate.Turned.{turned_none, turned-alike, turned_set, at_most_one}

module _ (b : Book) (β : Bindings) where
  -- a visit leaves the other entries
  visit_other : (es : Table) (i j : ℕ) → j < length es → (j ≡ i → ⊥) → entry (visit b β es i) j ≡ entry es j
  visit_other es i j l d =
      elim (visit_cases b β es i) [
        | inl p ↦ rw p.1
        | inr p ↦ rw (p.2, turn_other b β es i _ _ j d) (place_all-old b β es _ _ j l)
      ]

  -- one step of the walk is a visit
  walk-one : (es : Table) (i : ℕ) → i < length es → Walked b β 0 i es → walk b β 1 i es ≡ visit b β es i
  unfolding walk
  walk-one es i l (on p e) = e
  walk-one es i l (over p e) = absurd (omega arith)

  walk_more : (es : Table) (i : ℕ) → i < length (walk b β i 0 es) → walk b β (i + 1) 0 es ≡ visit b β (walk b β i 0 es) i
  walk_more es i l = rw (walk_split b β i 1 0 es, zero-add) (walk-one (walk b β i 0 es) i l (walk_cases b β 0 i (walk b β i 0 es)))

  -- a walk that has reached the end of its table has ended
  walk_end : (es : Table) (i c : ℕ) → i ≤ c → length (walk b β i 0 es) ≤ i → walk b β (suc c) 0 es ≡ walk b β i 0 es
  walk_end es i c l end =
      let parts : suc c ≡ i + (suc c - i) = omega arith in
      rw (parts, walk_split b β i (suc c - i) 0 es) (walk_idle b β (suc c - i) (0 + i) (walk b β i 0 es) (λ j p q. absurd (omega arith)))

  -- a visit turns one old entry or none
  module _ (old es : Table) (i : ℕ) (longer : length old ≤ length es) (here : i < length es) where
    turned_grown : (l r : Node) → turned old (grown b β es i l r) ≡ turned old es
    turned_grown l r =
        turned-alike old es (grown b β es i l r) longer (omega (arith, place_all-longer b β es (arguments l) (arguments r)))
        (λ j k. place_all-old b β es (arguments l) (arguments r) j (omega arith))

    turned_turn : (l r : Node) → is_hole (entry es i).kind ≡ true → (i < length old → entry old i ≡ entry es i)
        → (i < length old) ⊎ (length old ≤ i) → turned old (turn b β es i (entry es i) l r) ≡ turned old es + cond (ltb i (length old)) 1 0
    unfolding turn is_hole
    turned_turn l r h same (inl k) =
        let there : i < length (grown b β es i l r) = omega (arith, place_all-longer b β es (arguments l) (arguments r)) in
        rw (lt-ltb i (length old) k, ← turned_grown l r)
        (turned_set old (grown b β es i l r) i _ k there (rw (same k) h) (rw (place_all-old b β es (arguments l) (arguments r) i here) h) refl)
    turned_turn l r h same (inr k) =
        rw (le-ltb i (length old) k, ← turned_grown l r)
        (turned-alike old (grown b β es i l r) _ (omega (arith, place_all-longer b β es (arguments l) (arguments r)))
        (omega (arith, turn-length b β es i l r, place_all-longer b β es (arguments l) (arguments r)))
        (λ j g. turn_other b β es i l r j (λ e. omega arith)) ∙ omega arith)

    turned-visit : (i < length old → entry old i ≡ entry es i)
        → turned old (visit b β es i) ≡ turned old es + cond (to_turn b β (entry es i) && ltb i (length old)) 1 0
    turned-visit same =
        elim (visit_cases b β es i) [
          | inl p ↦ rw (p.1, p.0) (omega arith)
          | inr p ↦ rw (p.2, p.0, p.1) (turned_turn _ _ p.0 same (lt-or-le i (length old)))
        ]

-- After i visits.
pub record WalkedTo (entries lefts rights cells : List ℕ) (capacity t count i : ℕ) (b : Book) (β : Bindings) (es : Table) : Type 0 where
  pub stands : Stands entries lefts rights cells capacity count b β (walk b β i 0 es)
  pub within : i ≤ count
  pub ahead : (j : ℕ) → i ≤ j → j < length es → entry (walk b β i 0 es) j ≡ entry es j
  pub old-turned : t ≡ turned es (walk b β i 0 es)

-- What holds at the loop's head.
pub record Walking (rows roots names entries₀ lefts₀ rights₀ cells₀ : List ℕ) (capacity m : ℕ)
    (entries lefts rights cells : List ℕ) (w : Answer) (i : ℕ) : Type 0 where
  pub sizes : SameSizes entries₀ lefts₀ rights₀ cells₀ entries lefts rights cells
  pub few : w.turned ≤ i
  pub so_far : Whatever (ToWalk rows roots names entries₀ lefts₀ rights₀ cells₀ capacity m)
      (WalkedTo entries lefts rights cells capacity w.turned w.count i)

pub walking_none : (rows roots names entries lefts rights cells : List ℕ) (capacity m : ℕ)
    → Walking rows roots names entries lefts rights cells capacity m entries lefts rights cells (record { turned = 0; count = m }) 0
unfolding walk
walking_none rows roots names entries lefts rights cells capacity m =
    record {
      sizes = same-sizes entries lefts rights cells;
      few = omega arith;
      so_far = λ b β es q.
          record { stands = q.stands; within = omega arith; ahead = λ j l k. refl; old-turned = sym (turned_none es) };
    }

module _ {rows roots names entries₀ lefts₀ rights₀ cells₀ : List ℕ} {capacity m : ℕ} {entries lefts rights cells : List ℕ} {w : Answer} {i : ℕ}
    (h : Walking rows roots names entries₀ lefts₀ rights₀ cells₀ capacity m entries lefts rights cells w i) where
  module _ (l : i < w.count) where
    -- what the next visit asks
    to_visit : (b : Book) (β : Bindings) (es : Table) → ToWalk rows roots names entries₀ lefts₀ rights₀ cells₀ capacity m b β es
        → ToVisit rows roots names entries lefts rights cells capacity w.count i b β (walk b β i 0 es)
    to_visit b β es q = record { known = q.known; stands = (h.so_far b β es q).stands; there = l }

    pub next_given : GivenTable (ToWalk rows roots names entries₀ lefts₀ rights₀ cells₀ capacity m)
        → GivenTable (ToVisit rows roots names entries lefts rights cells capacity w.count i)
    next_given g =
        record { book = g.book; bound = g.bound; table = walk g.book g.bound i 0 g.table; known = to_visit _ _ _ g.known }

    -- the walk one visit further
    further : (b : Book) (β : Bindings) (es : Table) → ToWalk rows roots names entries₀ lefts₀ rights₀ cells₀ capacity m b β es
        → walk b β (i + 1) 0 es ≡ visit b β (walk b β i 0 es) i
    further b β es q = walk_more b β es i (omega (arith, (h.so_far b β es q).stands.count))

    -- it needs entries beyond the capacity
    pub walking_full : {e : Refusal} → Whatever (ToVisit rows roots names entries lefts rights cells capacity w.count i) (λ b β es. IsFull capacity e (visit b β es i))
        → Whatever (ToWalk rows roots names entries₀ lefts₀ rights₀ cells₀ capacity m) (λ b β es. IsFull capacity e (walk b β (suc capacity) 0 es))
    walking_full beyond b β es q =
        let is = beyond b β _ (to_visit b β es q) in
        let steps : i + 1 ≤ suc capacity = omega (arith, few-entries (h.so_far b β es q).stands) in
        let longer = rw (further b β es q) at (walk-longer b β (i + 1) (suc capacity) es steps) in
        record { full = is.full; beyond = omega (arith, is.beyond) }

    -- it is made
    module _ {v : Visited} {entries' lefts' rights' cells' : List ℕ}
        (visited : Whatever (ToVisit rows roots names entries lefts rights cells capacity w.count i)
        (Visits entries' lefts' rights' cells' capacity i v)) {t : ℕ} (raised : t ≡ w.turned + cond (v.turned && ltb i m) 1 0) where
      walked_to : (b : Book) (β : Bindings) (es : Table) → ToWalk rows roots names entries₀ lefts₀ rights₀ cells₀ capacity m b β es
          → WalkedTo entries' lefts' rights' cells' capacity t v.count (i + 1) b β es
      walked_to b β es q =
          let so = h.so_far b β es q in
          let done = visited b β _ (to_visit b β es q) in
          let stands = done.reaches.stands in
          let here : i < length (walk b β i 0 es) = omega (arith, so.stands.count) in
          let longer = (visit_extends b β (walk b β i 0 es) i).longer in
          let old = (walk_extends b β i 0 es).longer in
          let more = further b β es q in
          record {
            stands = rw more stands;
            within = omega (arith, stands.count, so.stands.count);
            ahead = λ j p k. rw more (visit_other b β (walk b β i 0 es) i j (omega arith) (λ e. omega arith) ∙ so.ahead j (omega arith) k);
            old-turned =
                rw more
                (raised ∙ rw (so.old-turned, done.turned, q.stands.count)
                (sym (turned-visit b β es (walk b β i 0 es) i old here (λ k. sym (so.ahead i (omega arith) k)))));
          }

      pub walking_more : SameSizes entries lefts rights cells entries' lefts' rights' cells'
          → Walking rows roots names entries₀ lefts₀ rights₀ cells₀ capacity m entries' lefts' rights' cells' (record { turned = t; count = v.count }) (i + 1)
      walking_more sizes =
          record {
            sizes = sizes_trans h.sizes sizes;
            few = omega (arith, raised, h.few, at_most_one (v.turned && ltb i m));
            so_far = walked_to;
          }

  -- it has reached the end
  pub walking_all : w.count ≤ i → Whatever (ToWalk rows roots names entries₀ lefts₀ rights₀ cells₀ capacity m)
      (Walks entries lefts rights cells capacity w)
  walking_all end b β es q =
      let so = h.so_far b β es q in
      let ended = walk_end b β es i capacity (omega (arith, few-entries so.stands, so.within)) (omega (arith, so.stands.count)) in
      record { reaches = rw ended (stands-reaches so.stands); old-turned = rw ended so.old-turned }
