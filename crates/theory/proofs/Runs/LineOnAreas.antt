-- What a line does to the old entries of a sound area. Assumes nothing.
use mathlib.Core.Path.{◌≡◌, refl, sym, ◌∙◌}
use mathlib.Core.List.{List}
use mathlib.Core.Bool.{true, false≢true}
use Prim.Native.Nat.{ℕ}
use borrow.Author.Tests.{eq-eqb}
use Rattle.model.specs.Limits.{Limits}
use Rattle.model.specs.Step.{State, Answer, refused, accepted, add_line}
use Rattle.model.specs.Area.{state_of}
use Rattle.model.specs.Call.{accept, stepped, call_add}
use Rattle.theory.specs.Run.{add, call, is_accepted, after}
use Rattle.theory.specs.Line.{Lined, LineOnAreas}
use Rattle.theory.proofs.Soundness.Facts.{SoundFacts}
use Rattle.theory.proofs.Soundness.Test.{facts_sound}
use Rattle.theory.proofs.Steps.Line.{line}
use Rattle.theory.proofs.Runs.Simulation.{sound_lives, lives_state, call_lives, follows, accepts}

-- the state after an accepted line, and the numbers that the call answers
lined_at : (lim : Limits) (s : State) (area : List ℕ) (l r : ℕ) → SoundFacts lim s → (a : Answer) → add_line lim s l r ≡ a
    → is_accepted a ≡ true → Lined s (after s a) (stepped lim 1 area a).numbers
unfolding stepped accept
lined_at lim s area l r f (refused n) e h = absurd (false≢true h)
lined_at lim s area l r f (accepted ns s') e h = line lim s s' l r ns (facts_sound lim s f) e

-- the call on a sound area makes that step
pub line_on_areas : LineOnAreas
unfolding call
line_on_areas lim modest area l r h z =
    let s = state_of area lim in
    let v = sound_lives lim area h in
    let took = sym (accepts lim modest s area (add l r) v) ∙ eq-eqb (call_add lim area l r).refusal 0 z in
    let on : call_add lim area l r ≡ stepped lim 1 area (add_line lim s l r) = call_lives lim modest s area (add l r) v in
    rw (lives_state lim modest _ (call_add lim area l r).area (follows lim modest s area (add l r) v).lives, on)
    (lined_at lim s area l r v.facts (add_line lim s l r) refl took)
