-- A session on bytes: opening it, and one step of it, by the calls on an area (document 01, "Sessions"). The input is read at
-- positions; a step gets the area and the output as the last one left them. Assumes nothing: these are definitions.
use Rattle.std.specs.Prelude.{List, cond, ℕ, ◌+◌, ◌-◌, length, get_or, take, drop, eqb, leb, Result, Ok, Err}
use Rattle.leb128.specs.Number.{max_groups, max_number}
use Rattle.leb128.specs.Answer.{read_at}
use Rattle.leb128.specs.declared.Number.{Number}
use Rattle.leb128.specs.declared.NumberError.{NumberError}
use Rattle.model.specs.Limits.{office, max_session, session_capacity}
use Rattle.model.specs.Call.{Outcome, call_open, call_report}
use Rattle.refusal.specs.declared.Refusal.{Refusal}
use Rattle.refusal.specs.declared.Refusal.TheVariants.{Cut, OutOfRange}
use Rattle.refusal.specs.Numbers.{refusal_of, refused_number}
use Rattle.calls.specs.Called.{call_step, answer_to}
use Rattle.session.specs.declared.command.Command.{Command}
use Rattle.session.specs.declared.command.Command.TheVariants.{Ended as NoMore, Take, Report}
use Rattle.session.specs.command.Commands.{command_at}
use Rattle.session.specs.declared.steps.Reply.{Reply}
use Rattle.session.specs.declared.steps.Reply.TheVariants.{Ended, Stopped, Answered, NotReported, Reported}

-- ---- OPENING.

-- What opening a session leaves: its answer, the position of the first step, and the area.
pub record Start : Type 0 where
  pub answer : Result ℕ Refusal
  pub area : List ℕ

-- a refusal that leaves the area
unfoldable pub not_begun : List ℕ → Refusal → Start
not_begun area e = record { answer = Err e; area = area }

-- The outcome of opening the book that ends at a position.
unfoldable pub begun : ℕ → Outcome → Start
begun at o = record { answer = cond (eqb o.refusal 0) (Ok at) (Err (refusal_of o.refusal)); area = o.area }

module _ (input area : List ℕ) where
  -- The book of the length that was read: 1 where the length is cut, 2 where it is not valid, 1 where it runs past the end of
  -- the input, before the book is read.
  unfoldable pub open_book : Result Number NumberError → Start
  open_book (Ok r) =
      cond (leb r.value (length input - r.next))
      (begun (r.next + r.value) (call_open office session_capacity (take r.value (drop r.next input)) area)) (not_begun area Cut)
  open_book (Err e) = not_begun area (refused_number e)

  -- Opening: 4 for a session that is too long, and then the book.
  unfoldable pub start : Start
  start = cond (leb (length input) max_session) (open_book (read_at max_groups max_number input 0)) (not_begun area OutOfRange)

-- ---- A STEP.

-- What a step leaves: its answer, the area and the output.
pub record Effect : Type 0 where
  pub answer : Reply Refusal
  pub area : List ℕ
  pub output : List ℕ

-- A report's answer by the outcome of its call: its length, or its refusal. In either case the session goes on.
unfoldable pub reported_by : Outcome → ℕ → Reply Refusal
reported_by o next = cond (eqb o.refusal 0) (Reported (get_or o.numbers 0 0) next) (NotReported (refusal_of o.refusal) next)

module _ (area out : List ℕ) where
  -- an answer that leaves area and output
  unfoldable pub still : Reply Refusal → Effect
  still answer = record { answer = answer; area = area; output = out }

  -- The step that was asked for.
  unfoldable pub perform : Result Command Refusal → Effect
  perform (Ok NoMore) = still Ended
  perform (Ok (Take step next)) = let o = call_step office step area in record { answer = Answered (answer_to step o) next; area = o.area; output = out }
  perform (Ok (Report next)) = let o = call_report office area out in record { answer = reported_by o next; area = o.area; output = o.output }
  perform (Err e) = still (Stopped e)

-- The step at a position.
unfoldable pub step_at : List ℕ → List ℕ → List ℕ → ℕ → Effect
step_at input area out at = perform area out (command_at input at)

-- The position at which the session goes on after an answer, and `over` where it is over.
unfoldable pub next_or : ℕ → Reply Refusal → ℕ
next_or over Ended = over
next_or over (Stopped e) = over
next_or over (Answered a next) = next
next_or over (NotReported e next) = next
next_or over (Reported n next) = next

-- The position of the first step after an opening, and `over` where it was refused.
unfoldable pub first_or : ℕ → Result ℕ Refusal → ℕ
first_or over (Ok at) = at
first_or over (Err e) = over
