-- Document 01's numbers for every case of what an opening and a step answer, as a session prints them ("Sessions"), and what they are
-- to be by the calls' outcomes. Assumes nothing: these are definitions.
use Rattle.std.specs.Prelude.{List, [], ◌∷◌, cond, ℕ, ◌-◌, length, get_or, take, drop, eqb, leb, Result, Ok, Err}
use Rattle.leb128.specs.Number.{max_groups, max_number}
use Rattle.leb128.specs.Answer.{read_at}
use Rattle.leb128.specs.declared.Number.{Number}
use Rattle.leb128.specs.declared.NumberError.{NumberError}
use Rattle.leb128.specs.declared.NumberError.TheVariants.{Cut, Invalid}
use Rattle.model.specs.Limits.{office, max_session, session_capacity}
use Rattle.model.specs.Call.{Outcome, call_open, call_report}
use Rattle.model.specs.Session.{Printed}
use Rattle.refusal.specs.declared.Refusal.{Refusal}
use Rattle.refusal.specs.Numbers.{number_of}
use Rattle.step.specs.declared.answer.Accepted.{Accepted}
use Rattle.step.specs.declared.answer.Accepted.TheVariants.{Added, Bound}
use Rattle.calls.specs.Called.{call_step}
use Rattle.session.specs.text.Text.{numbers_in}
use Rattle.session.specs.declared.command.Command.{Command}
use Rattle.session.specs.declared.command.Command.TheVariants.{Ended as NoMore, Take, Report}
use Rattle.session.specs.declared.steps.Reply.{Reply}
use Rattle.session.specs.declared.steps.Reply.TheVariants.{Ended, Stopped, Answered, NotReported, Reported}

-- ---- FOR EVERY CASE: 0 and the answer's numbers, or the refusal alone, by the number of each refusal.
module _ {E : Type 0} (of : E → ℕ) where
  -- Opening answers no numbers.
  unfoldable pub opening_line_by : Result ℕ E → List ℕ
  opening_line_by (Ok at) = 0 ∷ []
  opening_line_by (Err e) = of e ∷ []

  unfoldable pub answer_line_by : Result Accepted E → List ℕ
  answer_line_by (Ok (Added i)) = 0 ∷ i ∷ []
  answer_line_by (Ok (Bound m n)) = 0 ∷ m ∷ n ∷ []
  answer_line_by (Err e) = of e ∷ []

  -- A step prints one line, but for the end of the input. A report's numbers are those that it wrote into the output.
  unfoldable pub lines_by : Reply E → List ℕ → Printed
  lines_by Ended out = []
  lines_by (Stopped e) out = (of e ∷ []) ∷ []
  lines_by (Answered a next) out = answer_line_by a ∷ []
  lines_by (NotReported e next) out = (of e ∷ []) ∷ []
  lines_by (Reported n next) out = (0 ∷ numbers_in (take n out)) ∷ []

-- So for what a session answers.
abbrev pub opening_line : Result ℕ Refusal → List ℕ
opening_line = opening_line_by number_of

abbrev pub answer_line : Result Accepted Refusal → List ℕ
answer_line = answer_line_by number_of

abbrev pub lines : Reply Refusal → List ℕ → Printed
lines = lines_by number_of

-- ---- WHAT THEY ARE TO BE.

-- The refusal of an opening, 0 where there is none: 4 for a session that is too long; the book's length, 1 where it is cut or runs
-- past the end of the input, 2 where it is not valid; then that of opening the book.
module _ (input area : List ℕ) where
  unfoldable pub book_refusal : Result Number NumberError → ℕ
  book_refusal (Ok r) =
      cond (leb r.value (length input - r.next)) (call_open office session_capacity (take r.value (drop r.next input)) area).refusal 1
  book_refusal (Err Cut) = 1
  book_refusal (Err Invalid) = 2

  unfoldable pub start_refusal : ℕ
  start_refusal = cond (leb (length input) max_session) (book_refusal (read_at max_groups max_number input 0)) 4

-- A call's outcome as a line, with these numbers.
unfoldable pub outcome_line : Outcome → List ℕ → List ℕ
outcome_line o ns = cond (eqb o.refusal 0) (0 ∷ ns) (o.refusal ∷ [])

-- The lines of a command on an area and an output. For a report the numbers that it wrote, not their length.
unfoldable pub command_lines : List ℕ → List ℕ → Result Command Refusal → Printed
command_lines area out (Ok NoMore) = []
command_lines area out (Ok (Take step next)) = let o = call_step office step area in outcome_line o o.numbers ∷ []
command_lines area out (Ok (Report next)) = let o = call_report office area out in outcome_line o (numbers_in (take (get_or o.numbers 0 0) o.output)) ∷ []
command_lines area out (Err e) = (number_of e ∷ []) ∷ []
