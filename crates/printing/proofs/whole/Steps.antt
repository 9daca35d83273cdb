-- The steps on bytes print what the session's steps on states print. Assumes nothing.
use mathlib.Core.Path.{◌≡◌, refl, ap, sym, ◌∙◌}
use mathlib.Core.List.{List, [], ◌∷◌, ◌++◌}
use mathlib.Core.Bool.{Bool, true, false, cond}
use Prim.Native.Nat.{ℕ, zero, suc, ◌≤◌, ◌<◌}
use native.Mathlib.Omega.{arith}
use lib.ListN.{length, get_or, take, drop, length-append, length-drop, drop_of_length-le}
use lib.Seq.{take-append_seam}
use lib.Dec.{eqb, ltb}
use borrow.Author.Tests.{ltb-true, ltb-false, le-leb}
use Rattle.leb128.specs.Number.{max_groups, max_number}
use Rattle.leb128.specs.Answer.{read_at}
use Rattle.leb128.specs.declared.Number.{Number}
use Rattle.leb128.specs.declared.NumberError.{NumberError}
use Rattle.std.specs.Prelude.{Result, Ok, Err}
use Rattle.refusal.specs.declared.Refusal.{Refusal}
use Rattle.refusal.specs.Numbers.{refusal_of as named}
use Rattle.model.specs.Limits.{office, session_capacity}
use Rattle.model.specs.Step.{State, Answer, refused, accepted, add_line, bind}
use Rattle.model.specs.Report.{report, report_bytes}
use Rattle.model.specs.BookBytes.{parse_number}
use Rattle.model.specs.Call.{Outcome, accept, guard, over, emit, stepped, call_add, call_bind, call_report}
use Rattle.model.specs.Session as Model
use Rattle.model.specs.Session.{Printed, steps}
use Rattle.theory.specs.Lengths.{longest_session_report}
use Rattle.theory.specs.Run.{Request, add, fix, ask, call, after, next}
use Rattle.theory.proofs.Soundness.Test.{facts_sound}
use Rattle.theory.proofs.Report.Small.{report-small}
use Rattle.theory.proofs.Runs.States.{refusal_of, Numbered, refusal_zero, answer_numbered, next-capacity}
use Rattle.theory.proofs.Runs.Simulation.{Lives, stepped-refusal, call_lives, follows}
use Rattle.theory.proofs.Theorems.{office-modest, lengths, demand_1}
use Rattle.book.proofs.reader.Below.{number_of as read_of, number_read}
use Rattle.step.specs.declared.answer.Step.TheVariants.{Add, Bind}
use Rattle.step.specs.declared.answer.Accepted.{Accepted}
use Rattle.step.specs.declared.answer.Accepted.TheVariants.{Added, Bound}
use Rattle.step.specs.answer.Stepped.{accepted_as}
use Rattle.calls.specs.Called.{call_step, answer_to}
use Rattle.session.specs.text.Text.{numbers_in}
use Rattle.session.proofs.text.Numbers.{numbers_in_lem}
use Rattle.session.proofs.steps.Told.{ToldAnswer, add_told, bind-told}
use Rattle.session.proofs.steps.Lines.{one_number, two_numbers}
use Rattle.session.specs.declared.command.Command.{Command}
use Rattle.session.specs.declared.command.Command.TheVariants.{Take, Report}
use Rattle.session.specs.command.Commands.{or_stopped, with_number, with_two, by_number, command_at}
use Rattle.session.specs.declared.steps.Reply.TheVariants.{Answered}
use Rattle.session.specs.steps.Effects.{Effect, still, perform, reported_by, step_at}
use Rattle.session.specs.steps.Lines.{answer_line_by, lines_by, answer_line, lines}
use Rattle.printing.specs.whole.Whole.{onward, steps_from}
use Rattle.printing.proofs.whole.Progress.{past_end}

-- The area carries the sound state s of the session's capacity, and the output has space for its report.
pub record Carries (s : State) (area out : List ℕ) : Type 0 where
  pub lives : Lives office s area
  pub capacity : s.capacity ≡ session_capacity
  pub room : longest_session_report ≤ length out

-- an accepted step's numbers
stepped-numbers : (count : ℕ) (area ns : List ℕ) (a : Answer) (s : State) → a ≡ accepted ns s → (stepped office count area a).numbers ≡ ns
unfolding stepped accept
stepped-numbers count area ns a s e = rw e

-- a step where there are bytes
some_step : (k : ℕ) (s : State) (bytes : List ℕ) → 0 < length bytes → steps (suc k) s bytes ≡ Model.or_stop (parse_number bytes) (Model.step (steps k) s)
unfolding steps
some_step k s [] h = absurd (omega arith)
some_step k s (x ∷ xs) h = refl

no_step : (k : ℕ) (s : State) → steps k s [] ≡ []
unfolding steps
no_step zero s = refl
no_step (suc k) s = refl

steps-none : (s : State) (bytes : List ℕ) → steps 0 s bytes ≡ []
unfolding steps
steps-none s bytes = refl

module _ (input : List ℕ) (k : ℕ)
    (ih : (at : ℕ) (s : State) (area out : List ℕ) → Carries s area out → steps k s (drop at input) ≡ steps_from input k at area out) where
  -- what a step prints, and the k steps after it
  abbrev shown : Effect → Printed
  shown t = lines t.answer t.output ++ onward t.answer (λ next. steps_from input k next t.area t.output)

  module _ (s : State) (area out : List ℕ) (held : Carries s area out) where
    -- so for what is asked for
    abbrev shows : Result Command Refusal → Printed
    shows q = shown (perform area out q)

    -- an answer of a call: a, for the outcome o, and `accepting` where it accepts
    record OfCall (a : Answer) (o : Outcome) (accepting : Accepted) : Type 0 where
      refusal : o.refusal ≡ refusal_of a
      numbered : Numbered a
      told : ToldAnswer a
      line : (ns : List ℕ) (s' : State) → a ≡ accepted ns s' → answer_line (Ok accepting) ≡ 0 ∷ ns
      after-held : Carries (after s a) o.area out

    same_answer : (a : Answer) (o : Outcome) (accepting : Accepted) (at : ℕ) → OfCall a o accepting
        → let answer = Answered (cond (eqb o.refusal 0) (Ok accepting) (Err (named o.refusal))) at in
        Model.answered s a (λ s'. steps k s' (drop at input)) ≡
        lines answer out ++ onward answer (λ next. steps_from input k next o.area out)
    unfolding Model.answered lines_by answer_line_by onward
    same_answer (refused n) o accepting at h =
        rw (h.refusal, refusal_zero (refused n) h.numbered, h.told) (ap (λ x. (n ∷ []) ∷ x) (ih at s o.area out h.after-held))
    same_answer (accepted ns s') o accepting at h =
        rw (h.refusal, h.line ns s' refl) (ap (λ x. (0 ∷ ns) ∷ x) (ih at s' o.area out h.after-held))

    -- the state after a request is held
    request_held : (q : Request) → Carries (next office s q) (call office area q).area out
    request_held q =
        record {
          lives = (follows office office-modest s area q held.lives).lives;
          capacity = next-capacity office s q held.lives.facts ∙ held.capacity;
          room = held.room;
        }

    -- a line
    same_added : (l r at : ℕ) → Model.answered s (add_line office s l r) (λ s'. steps k s' (drop at input)) ≡
        shows (Ok (Take (Add l r) at))
    unfolding perform call_step answer_to accepted_as call lines_by answer_line_by onward
    same_added l r at =
        let o : Outcome = call_add office area l r in
        let on : o ≡ stepped office 1 area (add_line office s l r) = call_lives office office-modest s area (add l r) held.lives in
        same_answer (add_line office s l r) o (Added (get_or o.numbers 0 0)) at
        (record {
          refusal = ap (λ x. x.refusal) on ∙ stepped-refusal office 1 area (add_line office s l r);
          numbered = answer_numbered office s (add l r);
          told = add_told office s l r;
          line = λ ns s' e. ap (λ xs. 0 ∷ xs)
              (one_number o.numbers (demand_1.adding office area l r).0.as_many ∙ ap (λ x. x.numbers) on ∙
              stepped-numbers 1 area ns (add_line office s l r) s' e);
          after-held = request_held (add l r);
        })

    -- a choice
    same-bound : (v t at : ℕ) → Model.answered s (bind s v t) (λ s'. steps k s' (drop at input)) ≡
        shows (Ok (Take (Bind v t) at))
    unfolding perform call_step answer_to accepted_as call lines_by answer_line_by onward
    same-bound v t at =
        let o : Outcome = call_bind office area v t in
        let on : o ≡ stepped office 2 area (bind s v t) = call_lives office office-modest s area (fix v t) held.lives in
        same_answer (bind s v t) o (Bound (get_or o.numbers 0 0) (get_or o.numbers 1 0)) at
        (record {
          refusal = ap (λ x. x.refusal) on ∙ stepped-refusal office 2 area (bind s v t);
          numbered = answer_numbered office s (fix v t);
          told = bind-told s v t;
          line = λ ns s' e. ap (λ xs. 0 ∷ xs)
              (two_numbers o.numbers (demand_1.fixing office area v t).0.as_many ∙ ap (λ x. x.numbers) on ∙
              stepped-numbers 2 area ns (bind s v t) s' e);
          after-held = request_held (fix v t);
        })

    -- a report fits
    report-fits : length (report_bytes s) ≤ length out
    report-fits =
        omega (arith, lengths.session-report s (facts_sound office s held.lives.facts) held.capacity, held.room)

    -- so it is accepted
    report-outcome : call_report office area out ≡ accept (length (report_bytes s) ∷ []) area (over (report_bytes s) out)
    unfolding call emit guard
    report-outcome =
        call_lives office office-modest s area (ask out) held.lives ∙
        rw (le-leb (length (report_bytes s)) (length out) report-fits)

    -- its numbers stand in the output
    report-numbers : numbers_in (take (length (report_bytes s)) (over (report_bytes s) out)) ≡ report s
    unfolding over report_bytes
    report-numbers =
        ap numbers_in (take-append_seam (report_bytes s) (drop (length (report_bytes s)) out)) ∙
        numbers_in_lem (report s) (report-small office s office-modest held.lives.facts)

    -- the output keeps its length
    report-held : Carries s area (over (report_bytes s) out)
    unfolding over
    report-held =
        record {
          lives = held.lives;
          capacity = held.capacity;
          room = rw (length-append, length-drop) (omega (arith, report-fits, held.room));
        }

    same-report : (at : ℕ) → (0 ∷ report s) ∷ steps k s (drop at input) ≡ shows (Ok (Report at))
    unfolding perform reported_by lines_by onward accept
    same-report at =
        rw (report-outcome, report-numbers) (ap (λ x. (0 ∷ report s) ∷ x) (ih at s area (over (report_bytes s) out) report-held))

    -- NUMBERS. What follows a number.
    same_number : (d : Result Number NumberError) (f : ℕ → List ℕ → Printed) (g : ℕ → ℕ → Result Command Refusal)
        → ((n next : ℕ) → f n (drop next input) ≡ shows (g n next)) → Model.or_stop (read_of input d) f ≡ shows (or_stopped d g)
    unfolding Model.or_stop or_stopped perform still lines_by onward
    same_number (Ok r) f g h = h r.value r.next
    same_number (Err e) f g h = refl

    number_at : (at : ℕ) (f : ℕ → List ℕ → Printed) (g : ℕ → ℕ → Result Command Refusal) → ((n next : ℕ) → f n (drop next input) ≡ shows (g n next))
        → Model.or_stop (parse_number (drop at input)) f ≡ shows (with_number input at g)
    number_at at f g h =
        ap (λ p. Model.or_stop p f) (number_read input at) ∙ same_number (read_at max_groups max_number input at) f g h

    two_at : (at : ℕ) (f : ℕ → ℕ → List ℕ → Printed) (g : ℕ → ℕ → ℕ → Result Command Refusal)
        → ((m n next : ℕ) → f m n (drop next input) ≡ shows (g m n next))
        → Model.or_stop (parse_number (drop at input)) (λ m rest. Model.or_stop (parse_number rest) (f m)) ≡ shows (with_two input at g)
    unfolding with_two
    two_at at f g h = number_at at _ _ (λ m at'. number_at at' (f m) (g m) (h m))

    -- a step by its number
    same_by_number : (n at : ℕ) → Model.step (steps k) s n (drop at input) ≡ shows (by_number input n at)
    unfolding Model.step by_number perform still lines_by onward
    same_by_number zero at = refl
    same_by_number (suc zero) at =
        two_at at (λ l r rest. Model.answered s (add_line office s l r) (λ s'. steps k s' rest)) (λ l r next. Ok (Take (Add l r) next)) same_added
    same_by_number (suc (suc zero)) at =
        two_at at (λ v t rest. Model.answered s (bind s v t) (λ s'. steps k s' rest)) (λ v t next. Ok (Take (Bind v t) next)) same-bound
    same_by_number (suc (suc (suc zero))) at = same-report at
    same_by_number (suc (suc (suc (suc n)))) at = refl

    -- a step, and those after it
    same_more : (at : ℕ) (t : Bool) → ltb at (length input) ≡ t → steps (suc k) s (drop at input) ≡ steps_from input (suc k) at area out
    unfolding steps_from step_at command_at
    same_more at true e =
        let here : 0 < length (drop at input) = rw length-drop (omega (arith, ltb-true at (length input) e)) in
        some_step k s (drop at input) here ∙ rw e (number_at at (Model.step (steps k) s) (by_number input) same_by_number)
    same_more at false e =
        let end : length input ≤ at = ltb-false at (length input) e in
        ap (steps (suc k) s) (drop_of_length-le input end) ∙ no_step (suc k) s ∙ sym (past_end input (suc k) at area out end)

-- The steps from a position on.
pub same-steps : (input : List ℕ) (k at : ℕ) (s : State) (area out : List ℕ) → Carries s area out
    → steps k s (drop at input) ≡ steps_from input k at area out
unfolding steps_from
same-steps input zero at s area out h = steps-none s (drop at input)
same-steps input (suc k) at s area out h = same_more input k (same-steps input k) s area out h at (ltb at (length input)) refl
