-- What a line does to the old entries: on a sound state no old entry is to turn, so the walk leaves them whole. Assumes nothing.
use mathlib.Core.Path.{◌≡◌, refl, ap, subst, ◌∙◌}
use mathlib.Core.List.{[], ◌∷◌}
use mathlib.Core.Bool.{false, ◌&&◌}
use Prim.Native.Nat.{ℕ, ◌≤◌, ◌<◌}
use native.Mathlib.Omega.{arith}
use lib.ListN.{length, take}
use lib.Seq.{length-take-le, get_or-take, ext_get_or}
use Rattle.model.specs.Limits.{Limits}
use Rattle.model.specs.Term.{Node, alike, Book, Bindings}
use Rattle.model.specs.Table.{Kind, hole, common, is_hole, Entry, hole_at, Table, entry}
use Rattle.model.specs.Step.{State}
use Rattle.theory.specs.Walk.{Ended}
use Rattle.theory.specs.Line.{Line}
use Rattle.theory.proofs.Soundness.Facts.{KindRight, TableRight, SoundFacts}
use Rattle.theory.proofs.Soundness.Test.{sound_facts}
use Rattle.theory.proofs.Table.Place.{place_all-old, place_all_extends, place-one}
use Rattle.theory.proofs.Table.WalkEntries.{Track, stays, turns, walk_tracked}
use Rattle.theory.proofs.Table.WalkLength.{to_turn, not_both}
use Rattle.theory.proofs.Steps.Answers.{placed, line-table, line-accepted}
use Rattle.theory.proofs.Steps.Kept.{added}

-- a hole of a right table has unlike roots, so no entry of a right table is to turn
kind-stays : (b : Book) (β : Bindings) (es : Table) (k : Kind) (l r : Node) → KindRight b β es k l r → is_hole k && alike l r ≡ false
unfolding is_hole
kind-stays b β es hole l r h = h
kind-stays b β es (common s args) l r h = refl

pub right-ended : (b : Book) (β : Bindings) (es : Table) → TableRight b β es → Ended b β es
right-ended b β es t i h = kind-stays b β es (entry es i).kind _ _ (t.kind-right i h)

-- an entry that is not to turn stays
tracked_stays : (b : Book) (β : Bindings) (old new : Entry) → to_turn b β old ≡ false → Track b β old new → new ≡ old
tracked_stays b β old new h (stays e) = e
tracked_stays b β old new h (turns p q e) = absurd (not_both _ _ p e h)

-- a table whose first entries are those of es has es for its front
front : (es es' : Table) → length es ≤ length es' → ((i : ℕ) → i < length es → entry es' i ≡ entry es i)
    → take (length es) es' ≡ es
front es es' h g =
    let n : length (take (length es) es') ≡ length es = length-take-le (length es) es' h in
    ext_get_or (hole_at 0 0 0) (take (length es) es') es n
    (λ i p. let q : i < length es = omega arith in get_or-take (length es) es' i (hole_at 0 0 0) q ∙ g i q)

module _ (lim : Limits) (s : State) (l r : ℕ) (f : SoundFacts lim s) (fits : length (line-table s l r) ≤ s.capacity) where
  -- placing the pair keeps the old entries whole
  placed_whole : (i : ℕ) → i < length s.entries → entry (placed s l r) i ≡ entry s.entries i
  placed_whole i p = rw place-one (place_all-old s.book s.bound s.entries (l ∷ []) (r ∷ []) i p)

  placed-longer : length s.entries ≤ length (placed s l r)
  placed-longer = rw place-one (place_all_extends s.book s.bound s.entries (l ∷ []) (r ∷ [])).longer

  -- and so does the walk, so the old table is the front of the new one
  old_whole : (i : ℕ) → i < length s.entries → entry (line-table s l r) i ≡ entry s.entries i
  old_whole i p =
      let e = placed_whole i p in
      let k = walk_tracked s.book s.bound s.capacity (placed s l r) fits in
      tracked_stays s.book s.bound _ _ (right-ended s.book s.bound s.entries f.table i p)
      (rw e at (k.track i (omega (arith, placed-longer))))

  old_front : take (length s.entries) (line-table s l r) ≡ s.entries
  old_front =
      let x = (walk_tracked s.book s.bound s.capacity (placed s l r) fits).extends in
      front s.entries (line-table s l r) (omega (arith, placed-longer, x.longer)) old_whole

-- what an accepted line does to a sound state
pub line : Line
line lim s s' l r ns h e =
    let f = sound_facts lim s h in
    let a = line-accepted s l r lim s' ns e in
    let (i, answer, k) = added lim s s' l r ns f e in
    record {
      old-entries =
          subst (λ (s'' : State). take (length s.entries) s''.entries ≡ s.entries) a.state (old_front lim s l r f a.fits);
      lines = rw answer k.one_line;
      one_answer = ap length answer;
      book = k.same-book;
      bound = k.same-bound;
      capacity = k.same-capacity;
    }
