-- What a turn leaves at each return: a report that is kept, a report that is made, another step. Assumes nothing.
use mathlib.Core.Path.{◌≡◌, refl, ap, sym, ◌∙◌}
use mathlib.Core.List.{List, ◌++◌}
use mathlib.Core.Bool.{Bool, true, false, cond}
use Prim.Native.Nat.{ℕ}
use native.Mathlib.Omega.{arith}
use lib.ListN.{length, drop, length-append}
use lib.Seq.{take_at}
use lib.Dec.{eqb}
use borrow.Author.Tests.{eqb-false}
use Rattle.model.specs.Limits.{office}
use Rattle.model.specs.Call.{Outcome, call_report}
use Rattle.theory.proofs.Theorems.{demand_1}
use Rattle.step.specs.declared.answer.Step.{Step}
use Rattle.step.specs.declared.answer.Step.TheVariants.{Add, Bind}
use Rattle.refusal.specs.declared.Refusal.{Refusal}
use Rattle.refusal.specs.Numbers.{refusal_of}
use Rattle.step.specs.declared.answer.Accepted.{Accepted}
use Rattle.step.specs.answer.Stepped.{accepted_as}
use Rattle.calls.specs.Called.{call_step, answer_to}
use Rattle.session.specs.declared.command.Command.{Command}
use Rattle.session.specs.declared.command.Command.TheVariants.{Ended as NoMore, Take, Report}
use Rattle.session.specs.command.Commands.{command_at}
use Rattle.session.specs.text.Text.{lines_text}
use Rattle.session.specs.declared.steps.Reply.{Reply}
use Rattle.session.specs.declared.steps.Reply.TheVariants.{Answered, NotReported, Reported}
use Rattle.session.specs.steps.Effects.{Effect, still, perform, reported_by, step_at, next_or}
use Rattle.session.proofs.steps.Stepping.{by_command, Takes}
use Rattle.session.specs.steps.Lines.{lines_by, lines}
use Rattle.std.specs.Prelude.{Option, None, Some, Result, Ok, Err}
use Rattle.printing.specs.declared.turns.Shown.{Shown}
use Rattle.printing.specs.declared.turns.Shown.TheVariants.{Line, Report as ShownReport}
use Rattle.printing.specs.turns.Turns.{printed, Front, buffer_of, size_of, KeptReport}
use Rattle.printing.proofs.turns.Again.{report_again}

-- TEXT. The line of an answer goes to the front of a buffer, as module lines has it.
abbrev Puts : Reply Refusal → List ℕ → List ℕ → List ℕ → ℕ → Type 0
Puts answer out buffer end n = let bytes = lines_text (lines answer out) in (n ≡ length bytes) × (end ≡ bytes ++ drop n buffer)

at_front : (buffer end : List ℕ) (n : ℕ) (bytes : List ℕ) → (n ≡ length bytes) × (end ≡ bytes ++ drop n buffer) → Front end n bytes
at_front buffer end n bytes f =
    rw f.1 (omega (arith, f.0, length-append bytes (drop n buffer)), take_at bytes (drop n buffer) n (sym f.0))

-- so it is what the step prints
shows : (s : Effect) {answer : Reply Refusal} {area' out' : List ℕ} → Takes answer area' out' s → (buffer end : List ℕ) (n : ℕ)
    → Puts answer out' buffer end n → Front end n (printed s)
unfolding printed
shows s {answer} {area'} {out'} t buffer end n f =
    rw (← t.0, ← t.1.1) (at_front buffer end n (lines_text (lines answer out')) f)

-- REPORTS. The position of a report is where the session goes on, and no part of what is printed.
module _ (o : Outcome) (next over : ℕ) where
  goes_at : (t : Bool) (accepted : ℕ) (refusal : Refusal) → next_or over (cond t (Reported accepted next) (NotReported refusal next)) ≡ next
  unfolding next_or
  goes_at true accepted refusal = refl
  goes_at false accepted refusal = refl

  pub report_goes_on : next_or over (reported_by o next) ≡ next
  unfolding reported_by
  report_goes_on = goes_at (eqb o.refusal 0) _ _

  line_at : (out : List ℕ) (next' : ℕ) (t : Bool) (accepted : ℕ) (refusal : Refusal)
      → lines (cond t (Reported accepted next) (NotReported refusal next)) out ≡ lines (cond t (Reported accepted next') (NotReported refusal next')) out
  unfolding lines_by
  line_at out next' true accepted refusal = refl
  line_at out next' false accepted refusal = refl

  pub report-line : (out : List ℕ) (next' : ℕ) → lines (reported_by o next) out ≡ lines (reported_by o next') out
  unfolding reported_by
  report-line out next' = line_at out next' (eqb o.refusal 0) _ _

module _ (area out : List ℕ) where
  -- a report leaves the area
  report-area : (next : ℕ) → (perform area out (Ok (Report next))).area ≡ area
  unfolding perform
  report-area next = (demand_1.reporting office area out).1

  -- after a report its text can be kept
  pub keeps_report : (next n : ℕ) (kept : List ℕ) → let s = perform area out (Ok (Report next)) in Front kept n (printed s)
      → KeptReport s.area s.output kept (Some n)
  unfolding perform printed
  keeps_report next n kept f next' =
      rw (report-area next, report_again area out) (refl, rw (report-line (call_report office area out) next' 0 _ next) f)

-- REFUSED STEPS leave the area. The refusal is one.
refused_by : (step : Step) (o : Outcome) {k : Refusal} (t : Bool) → eqb o.refusal 0 ≡ t
    → cond t (Ok (accepted_as step o.numbers)) (Err (refusal_of o.refusal)) ≡ Err k → o.refusal ≡ 0 → ⊥
refused_by step o true e r = cc
refused_by step o false e r = eqb-false o.refusal 0 e

call_leaves : (step : Step) (area : List ℕ) → ((call_step office step area).refusal ≡ 0 → ⊥) → (call_step office step area).area ≡ area
unfolding call_step
call_leaves (Add l r) area h = (demand_1.adding office area l r).0.area-stays h
call_leaves (Bind v t) area h = (demand_1.fixing office area v t).0.area-stays h

-- area and output of the step are these
abbrev Leaves : List ℕ → List ℕ → Effect → Type 0
Leaves area out s = (s.area ≡ area) × (s.output ≡ out)

-- a report answers no step
no_answer : (t : Bool) (length : ℕ) (refusal : Refusal) (next : ℕ) {next' : ℕ} {a : Result Accepted Refusal} → cond t (Reported length next) (NotReported refusal next) ≡ Answered a next' → ⊥
no_answer true length refusal next e = cc
no_answer false length refusal next e = cc

refused_leaves : (area out : List ℕ) (q : Result Command Refusal) {k : Refusal} {next : ℕ} → (perform area out q).answer ≡ Answered (Err k) next → Leaves area out (perform area out q)
unfolding perform still reported_by answer_to
refused_leaves area out (Ok NoMore) e = (refl, refl)
refused_leaves area out (Err r) e = (refl, refl)
refused_leaves area out (Ok (Take step next)) {k} e =
    let o = call_step office step area in
    let refused : cond (eqb o.refusal 0) (Ok (accepted_as step o.numbers)) (Err (refusal_of o.refusal)) ≡ Err k = cc in
    (call_leaves step area (refused_by step o (eqb o.refusal 0) refl refused), refl)
refused_leaves area out (Ok (Report next)) e = absurd (no_answer (eqb (call_report office area out).refusal 0) _ _ next e)

-- THE RETURNS. A turn that leaves area and output, goes on at `next`, shows a text of one of the two buffers, and keeps a report.
abbrev Turned : (area' out' report text : List ℕ) (next : ℕ) (shown : Shown) (kept : Option ℕ) (over : ℕ) (s : Effect) → Type 0
Turned area' out' report text next' shown kept' over s = record {
  area : area' ≡ s.area;
  output : out' ≡ s.output;
  next : next' ≡ next_or over s.answer;
  printed : Front (buffer_of report text shown) (size_of shown) (printed s);
  kept : KeptReport area' out' report kept';
}

module _ (input area out : List ℕ) (at : ℕ) where
  -- by the step s that was asked for
  module _ {q : Result Command Refusal} (e : q ≡ command_at input at) {next : ℕ} (h : q ≡ Ok (Report next)) (report text : List ℕ) where
    -- a report that is kept
    pub report_kept : {kept : Option ℕ} → KeptReport area out report kept → {n : ℕ} → kept ≡ Some n
        → Turned area out report text next (ShownReport n) (Some n) (length input) (step_at input area out at)
    unfolding perform
    report_kept known {n} some =
        let k = rw some at known in
        rw (by_command input area out at e h)
        (record {
          area = sym (demand_1.reporting office area out).1;
          output = sym (k next).0;
          next = sym (report_goes_on (call_report office area out) next (length input));
          printed = (k next).1;
          kept = k;
        })

    -- a report that is made
    pub report_made : {answer : Reply Refusal} {area' out' : List ℕ} → Takes answer area' out' (step_at input area out at)
        → {end : List ℕ} {size : ℕ} → Puts answer out' report end size
        → Turned area' out' end text next (ShownReport size) (Some size) (length input) (step_at input area out at)
    unfolding perform
    report_made t {end} {size} f =
        let asked = by_command input area out at e h in
        let front = shows (step_at input area out at) t report end size f in
        record {
          area = t.1.0;
          output = t.1.1;
          next = rw asked (sym (report_goes_on (call_report office area out) next (length input)));
          printed = front;
          kept = rw (t.1.0, t.1.1, asked) (keeps_report area out next size end (rw asked at front));
        }

  -- any other step
  module _ {answer : Reply Refusal} {area' out' : List ℕ} (t : Takes answer area' out' (step_at input area out at)) (text : List ℕ) {end : List ℕ} {size : ℕ}
      (f : Puts answer out' text end size) {next : ℕ} (g : next ≡ next_or (length input) answer) (report : List ℕ) where
    -- keeps nothing
    pub step_taken : Turned area' out' report end next (Line size) None (length input) (step_at input area out at)
    step_taken = record {
      area = t.1.0;
      output = t.1.1;
      next = g ∙ ap (next_or (length input)) t.0;
      printed = shows (step_at input area out at) t text end size f;
      kept = tt;
    }

    -- refused, it keeps what was kept
    pub step_refused : {k : Refusal} {after : ℕ} → answer ≡ Answered (Err k) after → (kept : Option ℕ) → KeptReport area out report kept
        → Turned area' out' report end next (Line size) kept (length input) (step_at input area out at)
    unfolding step_at
    step_refused h kept k =
        let left = refused_leaves area out (command_at input at) (sym t.0 ∙ h) in
        record {
          area = t.1.0;
          output = t.1.1;
          next = g ∙ ap (next_or (length input)) t.0;
          printed = shows (step_at input area out at) t text end size f;
          kept = rw (t.1.0 ∙ left.0, t.1.1 ∙ left.1) k;
        }
