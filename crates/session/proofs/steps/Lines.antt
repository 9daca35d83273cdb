-- The lines of an opening's and a step's answer are those of the calls' outcomes. Assumes nothing.
use mathlib.Core.Path.{◌≡◌, refl, ap, sym}
use mathlib.Core.List.{List, [], ◌∷◌}
use mathlib.Core.Bool.{Bool, true, false, cond}
use Prim.Native.Nat.{ℕ, ◌+◌, ◌-◌}
use native.Mathlib.Omega.{arith}
use lib.ListN.{length, get_or, take, drop}
use lib.Dec.{eqb, leb}
use borrow.Author.Tests.{eqb-true}
use Rattle.leb128.specs.Number.{max_groups, max_number}
use Rattle.leb128.specs.Answer.{read_at}
use Rattle.leb128.specs.declared.Number.{Number}
use Rattle.leb128.specs.declared.NumberError.{NumberError}
use Rattle.leb128.specs.declared.NumberError.TheVariants.{Cut, Invalid}
use Rattle.std.specs.Prelude.{Result, Ok, Err}
use Rattle.refusal.specs.declared.Refusal.{Refusal}
use Rattle.refusal.specs.Numbers.{refusal_of}
use Rattle.refusal.specs.declared.Refusal.TheVariants.{Cut as CutShort, OutOfRange}
use Rattle.model.specs.Limits.{office, max_session, session_capacity}
use Rattle.model.specs.Call.{Outcome, call_open, call_add, call_bind, call_report}
use Rattle.theory.proofs.Theorems.{demand_1}
use Rattle.step.specs.declared.answer.Step.{Step}
use Rattle.step.specs.declared.answer.Step.TheVariants.{Add, Bind}
use Rattle.step.specs.answer.Stepped.{accepted_as}
use Rattle.calls.specs.Called.{call_step, answer_to}
use Rattle.session.proofs.steps.Told.{ToldOutcome, step_told, report_told, open_told}
use Rattle.session.specs.text.Text.{numbers_in}
use Rattle.session.specs.declared.command.Command.{Command}
use Rattle.session.specs.declared.command.Command.TheVariants.{Ended as NoMore, Take, Report}
use Rattle.session.specs.declared.steps.Reply.TheVariants.{NotReported, Reported}
use Rattle.session.specs.steps.Effects.{not_begun, begun, open_book, start, still, perform, reported_by}
use Rattle.session.specs.steps.Lines.{opening_line_by, answer_line_by, lines_by, opening_line, answer_line, lines, book_refusal, start_refusal, outcome_line, command_lines}

-- ---- AN OPENING.

module _ (input area : List ℕ) where
  -- by the outcome of opening the book
  begun-line : (at : ℕ) (o : Outcome) → ToldOutcome o → opening_line (begun at o).answer ≡ o.refusal ∷ []
  unfolding begun opening_line_by
  begun-line at o told = go (eqb o.refusal 0) refl
    where
      go : (t : Bool) → eqb o.refusal 0 ≡ t → opening_line (cond t (Ok at) (Err (refusal_of o.refusal))) ≡ o.refusal ∷ []
      go true e = ap (λ n. n ∷ []) (sym (eqb-true o.refusal 0 e))
      go false e = ap (λ n. n ∷ []) (told e)

  book-line : (d : Result Number NumberError) → opening_line (open_book input area d).answer ≡ book_refusal input area d ∷ []
  unfolding open_book book_refusal not_begun opening_line_by
  book-line (Ok r) = go (leb r.value (length input - r.next))
    where
      book : List ℕ
      book = take r.value (drop r.next input)

      go : (t : Bool) → let o = call_open office session_capacity book area in
          opening_line (cond t (begun (r.next + r.value) o) (not_begun area CutShort)).answer ≡ cond t o.refusal 1 ∷ []
      go true = begun-line (r.next + r.value) (call_open office session_capacity book area) (open_told book area)
      go false = refl
  book-line (Err Cut) = refl
  book-line (Err Invalid) = refl

  pub start-line : opening_line (start input area).answer ≡ start_refusal input area ∷ []
  unfolding start start_refusal not_begun opening_line_by
  start-line = go (leb (length input) max_session)
    where
      go : (t : Bool) → let d = read_at max_groups max_number input 0 in
          opening_line (cond t (open_book input area d) (not_begun area OutOfRange)).answer ≡ cond t (book_refusal input area d) 4 ∷ []
      go true = book-line (read_at max_groups max_number input 0)
      go false = refl

-- ---- A STEP.

-- a list of one number, and of two
pub one_number : (ns : List ℕ) → length ns ≡ 1 → get_or ns 0 0 ∷ [] ≡ ns
one_number [] h = absurd (omega arith)
one_number (n ∷ []) h = refl
one_number (n ∷ m ∷ ns) h = absurd (omega arith)

pub two_numbers : (ns : List ℕ) → length ns ≡ 2 → get_or ns 0 0 ∷ get_or ns 1 0 ∷ [] ≡ ns
two_numbers [] h = absurd (omega arith)
two_numbers (n ∷ ns) h = ap (λ xs. n ∷ xs) (one_number ns (omega arith))

-- the line of a step that was taken or refused, by its outcome
taken-line : (step : Step) (o : Outcome) → ToldOutcome o → answer_line (Ok (accepted_as step o.numbers)) ≡ 0 ∷ o.numbers → answer_line (answer_to step o) ≡ outcome_line o o.numbers
unfolding answer_to answer_line_by outcome_line
taken-line step o told h = go (eqb o.refusal 0) refl
  where
    go : (t : Bool) → eqb o.refusal 0 ≡ t → answer_line (cond t (Ok (accepted_as step o.numbers)) (Err (refusal_of o.refusal))) ≡ cond t (0 ∷ o.numbers) (o.refusal ∷ [])
    go true e = h
    go false e = ap (λ n. n ∷ []) (told e)

answer-line : (area : List ℕ) (step : Step) → let o = call_step office step area in answer_line (answer_to step o) ≡ outcome_line o o.numbers
unfolding call_step accepted_as answer_line_by
answer-line area (Add l r) =
    taken-line (Add l r) (call_add office area l r) (step_told area (Add l r)) (ap (λ ns. 0 ∷ ns) (one_number _ (demand_1.adding office area l r).0.as_many))
answer-line area (Bind v t) =
    taken-line (Bind v t) (call_bind office area v t) (step_told area (Bind v t)) (ap (λ ns. 0 ∷ ns) (two_numbers _ (demand_1.fixing office area v t).0.as_many))

pub command_lines_lem : (area out : List ℕ) (c : Result Command Refusal) → let s = perform area out c in lines s.answer s.output ≡ command_lines area out c
unfolding perform still lines_by command_lines reported_by outcome_line
command_lines_lem area out (Ok NoMore) = refl
command_lines_lem area out (Err e) = refl
command_lines_lem area out (Ok (Take step next)) = ap (λ x. x ∷ []) (answer-line area step)
command_lines_lem area out (Ok (Report next)) =
    go (call_report office area out) (report_told area out) (eqb (call_report office area out).refusal 0) refl
  where
    go : (o : Outcome) → ToldOutcome o → (t : Bool) → eqb o.refusal 0 ≡ t → let ns = numbers_in (take (get_or o.numbers 0 0) o.output) in
        lines (cond t (Reported (get_or o.numbers 0 0) next) (NotReported (refusal_of o.refusal) next)) o.output ≡ cond t (0 ∷ ns) (o.refusal ∷ []) ∷ []
    go o told true e = refl
    go o told false e = ap (λ n. (n ∷ []) ∷ []) (told e)
