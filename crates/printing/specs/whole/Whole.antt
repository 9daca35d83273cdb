-- A whole session on bytes, its steps one after the other, against the session of crate model. Definitions, and statements of
-- what is proved in proofs/.
use Rattle.std.specs.Prelude.{◌≡◌, List, [], ◌∷◌, ◌++◌, ℕ, zero, suc, ◌<◌, ◌≤◌, length, take, Result, Ok, Err}
use Rattle.model.specs.Limits.{office, max_session, session_capacity}
use Rattle.model.specs.Area.{area_length}
use Rattle.model.specs.Session.{Printed, session}
use Rattle.theory.specs.Lengths.{longest_session_report}
use Rattle.refusal.specs.declared.Refusal.{Refusal}
use Rattle.session.specs.declared.steps.Reply.{Reply}
use Rattle.session.specs.declared.steps.Reply.TheVariants.{Ended, Stopped, Answered, NotReported, Reported}
use Rattle.session.specs.steps.Effects.{start, step_at}
use Rattle.session.specs.steps.Lines.{opening_line, lines}

-- What follows an answer, with the position at which the session goes on; nothing where it is over.
unfoldable pub onward : Reply Refusal → (ℕ → Printed) → Printed
onward Ended then = []
onward (Stopped e) then = []
onward (Answered a next) then = then next
onward (NotReported e next) then = then next
onward (Reported n next) then = then next

unfoldable pub after_opening : Result ℕ Refusal → (ℕ → Printed) → Printed
after_opening (Ok at) then = then at
after_opening (Err e) then = []

module _ (input : List ℕ) where
  -- At most k steps from a position on: each prints its line, and gets the area and the output as the last one left them.
  unfoldable pub steps_from : ℕ → ℕ → List ℕ → List ℕ → Printed
  steps_from zero at area out = []
  steps_from (suc k) at area out =
      let s = step_at input area out at in
      lines s.answer s.output ++ onward s.answer (λ next. steps_from k next s.area s.output)

  -- All steps from a position on: no step takes less than a byte, so there are at most as many as the input has bytes.
  unfoldable pub all_steps : ℕ → List ℕ → List ℕ → Printed
  all_steps at area out = steps_from (length input) at area out

  -- The session: the opening's line, and all steps.
  unfoldable pub session_on_bytes : List ℕ → List ℕ → Printed
  session_on_bytes area out =
      let s = start input area in opening_line s.answer ∷ after_opening s.answer (λ at. all_steps at s.area out)

-- STATEMENTS. What the steps give one after the other, with no count of them: the step at a position, and then all steps from the
-- position at which it leaves the session.
abbrev pub OneByOne : Type 0
OneByOne = (input : List ℕ) (at : ℕ) (area out : List ℕ) → let s = step_at input area out at in
    all_steps input at area out ≡ lines s.answer s.output ++ onward s.answer (λ next. all_steps input next s.area s.output)

-- The session on bytes is the session, for every input, whatever the area and the output held before, where the area has the
-- length that the session's capacity needs, and the output that of the longest report.
abbrev pub SessionOnBytes : Type 0
SessionOnBytes = (input area out : List ℕ) → area_length office session_capacity ≤ length area → longest_session_report ≤ length out
    → session_on_bytes input area out ≡ session input

-- A session that is too long may be cut after one byte more than the longest has: it is the same session.
abbrev pub CutTooLong : Type 0
CutTooLong = (input : List ℕ) → session (take (suc max_session) input) ≡ session input

-- The position at which an answer leaves the session, if any, lies behind the position p and within n bytes.
abbrev pub Onward : ℕ → ℕ → Reply Refusal → Type 0
Onward p n Ended = Unit {0}
Onward p n (Stopped e) = Unit {0}
Onward p n (Answered a next) = (p < next) × (next ≤ n)
Onward p n (NotReported e next) = (p < next) × (next ≤ n)
Onward p n (Reported k next) = (p < next) × (next ≤ n)

-- A step goes on behind the position at which it began: so the steps end.
abbrev pub StepsGoOn : Type 0
StepsGoOn = (input : List ℕ) (at : ℕ) (area out : List ℕ) → Onward at (length input) (step_at input area out at).answer
