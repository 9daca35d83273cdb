-- What the walk does to same-as and to the old entries. Assumes nothing.
use mathlib.Core.Path.{◌≡◌, refl, sym, ◌∙◌}
use mathlib.Core.List.{List, [], ◌∷◌, map}
use mathlib.Core.Bool.{true, false, true≢false}
use mathlib.Core.Logic.{◌⊎◌, inl, inr}
use Prim.Native.Nat.{ℕ, suc, ◌≤◌, ◌<◌}
use native.Mathlib.Omega.{arith}
use lib.ListN.{length}
use Rattle.model.specs.Term.{Node, arguments, alike, Book, Bindings, root}
use Rattle.model.specs.Table.{is_hole, Entry, Table, entry, entry_of, place_all, turn, visit, walk, settle}
use Rattle.model.specs.Step.{turned}
use Rattle.theory.proofs.Soundness.Facts.{Has}
use Rattle.theory.proofs.Table.Place.{Extends, extends_refl, extends_trans, entry_of-least, entry_of_extends, entry_of-same-length, lt-or-le, eq-or-not, place_all-old, place_all_extends, place_all-new, grown, turn-length, turn-same, turn_other, turn_grown, visit_cases, visit_extends, walk_keeps}

-- Every entry knows the lowest entry with its values.
pub record SameAs (b : Book) (β : Bindings) (es : Table) : Type 0 where
  pub same_as : (j : ℕ) → j < length es → (entry es j).same_as ≡ entry_of b β es (entry es j).left (entry es j).right

-- An old entry stays, or turns from a hole of alike roots to common.
pub data Track (b : Book) (β : Bindings) (old new : Entry) : Type 0 where
  stays : new ≡ old → Track b β old new
  turns : is_hole old.kind ≡ true → is_hole new.kind ≡ false → alike (root b β old.left) (root b β old.right) ≡ true
      → Track b β old new

-- The table es' has the old entries of es, each tracked.
pub record Tracked (b : Book) (β : Bindings) (es es' : Table) : Type 0 where
  pub extends : Extends es es'
  pub track : (j : ℕ) → j < length es → Track b β (entry es j) (entry es' j)

module _ (b : Book) (β : Bindings) where
  -- an entry has its own values, so its values have a lowest entry
  pub has_self : (es : Table) (j : ℕ) → j < length es → Has b β es j (entry es j).left (entry es j).right
  has_self es j h = record { present = h; left = refl; right = refl }

  pub found_self : (es : Table) (j : ℕ) → j < length es → entry_of b β es (entry es j).left (entry es j).right < length es
  found_self es j h = omega (arith, entry_of-least b β es j _ _ (has_self es j h))

  -- placing keeps same-as
  placed-same_as : (es : Table) (ls rs : List ℕ) → SameAs b β es → (j : ℕ) → j < length (place_all b β es ls rs)
      → (j < length es) ⊎ (length es ≤ j)
      → (entry (place_all b β es ls rs) j).same_as ≡
      entry_of b β (place_all b β es ls rs) (entry (place_all b β es ls rs) j).left (entry (place_all b β es ls rs) j).right
  placed-same_as es ls rs a j p (inl q) =
      rw (place_all-old b β es ls rs j q)
      (a.same_as j q ∙ sym (entry_of_extends b β es _ _ _ (place_all_extends b β es ls rs) (found_self es j q)))
  placed-same_as es ls rs a j p (inr q) =
      let f = place_all-new b β es ls rs j q p in
      rw f.is (sym f.lowest)

  pub place_all-same_as : (es : Table) (ls rs : List ℕ) → SameAs b β es → SameAs b β (place_all b β es ls rs)
  place_all-same_as es ls rs a = record { same_as = λ j p. placed-same_as es ls rs a j p (lt-or-le j (length es)) }

  -- turning changes no pair and no same-as
  module _ (es : Table) (i : ℕ) (l r : Node) (here : i < length es) (a : SameAs b β es) where
    abbrev new : Table
    new = turn b β es i (entry es i) l r

    kept_same_as : (j : ℕ) → (j ≡ i) ⊎ (j ≡ i → ⊥) → (entry new j).same_as ≡ (entry (grown b β es i l r) j).same_as
    kept_same_as j (inl e) = rw (e, turn-same b β es i l r here, place_all-old b β es (arguments l) (arguments r) i here)
    kept_same_as j (inr e) = rw (turn_other b β es i l r j e)

    turn-same_as : SameAs b β new
    turn-same_as =
        let x = turn_grown b β es i l r here in
        let n = turn-length b β es i l r in
        record {
          same_as = λ j p.
              rw (x.left j (omega arith), x.right j (omega arith))
              (kept_same_as j (eq-or-not j i) ∙
              (place_all-same_as es (arguments l) (arguments r) a).same_as j (omega arith) ∙
              sym (entry_of-same-length b β (grown b β es i l r) new _ _ x (sym n)));
        }

  -- so the visits and the walk keep same-as
  visit-same_as : (i : ℕ) (es : Table) → i < length es → SameAs b β es → SameAs b β (visit b β es i)
  visit-same_as i es h a =
      elim (visit_cases b β es i) [ inl p ↦ rw p.1 a | inr p ↦ rw p.2 (turn-same_as es i _ _ h a) ]

  pub walk-same_as : (c : ℕ) (es : Table) → SameAs b β es → length (walk b β (suc c) 0 es) ≤ c → SameAs b β (walk b β (suc c) 0 es)
  walk-same_as c es a fits = walk_keeps b β (λ i. SameAs b β) visit-same_as c es a fits

  -- an entry that a visit turns was a hole at the start
  turn_track : (old e new : Entry) → Track b β old e → is_hole e.kind ≡ true
      → alike (root b β e.left) (root b β e.right) ≡ true → is_hole new.kind ≡ false → Track b β old new
  turn_track old e new (stays q) h s c = turns (rw q at h) c (rw q at s)
  turn_track old e new (turns q d f) h s c = absurd (true≢false (sym h ∙ d))

  module _ (start es : Table) (i : ℕ) (l r : Node) (here : i < length es) (k : Tracked b β start es) where
    turn_track_at : is_hole (entry es i).kind ≡ true → alike (root b β (entry es i).left) (root b β (entry es i).right) ≡ true
        → (j : ℕ) → j < length start → (j ≡ i) ⊎ (j ≡ i → ⊥)
        → Track b β (entry start j) (entry (turn b β es i (entry es i) l r) j)
    unfolding is_hole
    turn_track_at h s j p (inl e) =
        rw (e, turn-same b β es i l r here) (turn_track (entry start i) (entry es i) _ (k.track i (rw e at p)) h s refl)
    turn_track_at h s j p (inr e) =
        let q : j < length es = omega (arith, k.extends.longer) in
        rw (turn_other b β es i l r j e, place_all-old b β es (arguments l) (arguments r) j q) (k.track j p)

  -- so the visits and the walk track the old entries
  visit_tracked : (start : Table) (i : ℕ) (es : Table) → i < length es → Tracked b β start es → Tracked b β start (visit b β es i)
  visit_tracked start i es h k =
      record {
        extends = extends_trans start es _ k.extends (visit_extends b β es i);
        track = elim (visit_cases b β es i) [
          | inl p ↦ rw p.1 k.track
          | inr p ↦ rw p.2 (λ j q. turn_track_at start es i _ _ h k p.0 p.1 j q (eq-or-not j i))
        ];
      }

  pub walk_tracked : (c : ℕ) (es : Table) → length (walk b β (suc c) 0 es) ≤ c → Tracked b β es (walk b β (suc c) 0 es)
  walk_tracked c es fits =
      walk_keeps b β (λ i. Tracked b β es) (visit_tracked es) c es
      (record { extends = extends_refl es; track = λ j p. stays refl }) fits

-- the count of turned entries looks at kinds alone
pub turned_kinds : (f : Entry → Entry) → ((e : Entry) → (f e).kind ≡ e.kind) → (old new : Table) → turned old (map f new) ≡ turned old new
unfolding turned
turned_kinds f h [] new = refl
turned_kinds f h (e ∷ old) [] = refl
turned_kinds f h (e ∷ old) (e' ∷ new) = rw (h e', turned_kinds f h old new)

pub turned-settle : (b : Book) (β : Bindings) (es es' : Table) → turned es (settle b β es') ≡ turned es es'
unfolding settle
turned-settle b β es es' = turned_kinds _ (λ e. refl) es es'
