-- Every step takes at least a byte, so the steps end. Assumes nothing.
use mathlib.Core.Path.{◌≡◌, refl, ap, sym}
use mathlib.Core.List.{List, [], ◌++◌}
use mathlib.Core.Bool.{Bool, true, false, cond}
use Prim.Native.Nat.{ℕ, zero, suc, ◌+◌, ◌≤◌, ◌<◌}
use native.Mathlib.Omega.{arith}
use lib.ListN.{length}
use lib.Dec.{eqb}
use borrow.Author.Tests.{le-ltb}
use Rattle.model.specs.Limits.{office}
use Rattle.model.specs.Call.{call_report}
use Rattle.model.specs.Session.{Printed}
use Rattle.std.specs.Prelude.{Result, Ok, Err}
use Rattle.refusal.specs.declared.Refusal.{Refusal}
use Rattle.session.specs.declared.command.Command.{Command}
use Rattle.session.specs.declared.command.Command.TheVariants.{Ended as NoMore, Take, Report}
use Rattle.session.specs.command.Commands.{command_at, Behind}
use Rattle.session.proofs.command.Progress.{commands_go_on}
use Rattle.session.specs.declared.steps.Reply.{Reply}
use Rattle.session.specs.declared.steps.Reply.TheVariants.{Ended, Stopped, Answered, NotReported, Reported}
use Rattle.session.specs.steps.Effects.{still, perform, reported_by, step_at, next_or}
use Rattle.session.specs.steps.Lines.{lines_by, lines}
use Rattle.printing.specs.whole.Whole.{Onward, onward, steps_from, all_steps, OneByOne, StepsGoOn}

module _ (p n : ℕ) where
  -- a report's answer goes on at the position given
  goes_answer : (next : ℕ) (refusal : Refusal) (accepted : Reply Refusal) (t : Bool) → (p < next) × (next ≤ n) → Onward p n accepted
      → Onward p n (cond t accepted (NotReported refusal next))
  goes_answer next refusal accepted true h k = k
  goes_answer next refusal accepted false h k = h

  -- a step goes on where what was asked for ends
  goes_performed : (area out : List ℕ) (q : Result Command Refusal) → Behind p n q → Onward p n (perform area out q).answer
  unfolding perform still reported_by
  goes_performed area out (Ok NoMore) h = tt
  goes_performed area out (Err e) h = tt
  goes_performed area out (Ok (Take step next)) h = h
  goes_performed area out (Ok (Report next)) h = goes_answer next _ _ (eqb (call_report office area out).refusal 0) h h

pub steps_go_on : StepsGoOn
unfolding step_at
steps_go_on input at area out = goes_performed at (length input) area out (command_at input at) (commands_go_on input at)

-- THE STEPS END.
module _ (input : List ℕ) where
  -- past the end there is nothing
  pub past_end : (k at : ℕ) (area out : List ℕ) → length input ≤ at → steps_from input k at area out ≡ []
  unfolding steps_from step_at command_at perform still lines_by onward
  past_end zero at area out l = refl
  past_end (suc k) at area out l = rw (le-ltb at (length input) l)

  -- what follows an answer is the same where it is at every position behind
  onward-same : (p n : ℕ) (a : Reply Refusal) (f g : ℕ → Printed) → Onward p n a → ((next : ℕ) → p < next → next ≤ n → f next ≡ g next)
      → onward a f ≡ onward a g
  unfolding onward
  onward-same p n Ended f g o h = refl
  onward-same p n (Stopped m) f g o h = refl
  onward-same p n (Answered a next) f g o h = h next o.0 o.1
  onward-same p n (NotReported m next) f g o h = h next o.0 o.1
  onward-same p n (Reported m next) f g o h = h next o.0 o.1

  -- as many steps as there are bytes left are all
  pub steps_enough : (j k at : ℕ) (area out : List ℕ) → length input ≤ at + j → length input ≤ at + k
      → steps_from input j at area out ≡ steps_from input k at area out
  unfolding steps_from
  steps_enough zero k at area out h g = sym (past_end k at area out (omega arith))
  steps_enough (suc j) zero at area out h g = past_end (suc j) at area out (omega arith)
  steps_enough (suc j) (suc k) at area out h g =
      let s = step_at input area out at in
      ap (λ x. lines s.answer s.output ++ x)
      (onward-same at (length input) s.answer _ _ (steps_go_on input at area out)
      (λ next l r. steps_enough j k next s.area s.output (omega arith) (omega arith)))

pub one_by_one : OneByOne
unfolding all_steps steps_from
one_by_one input at area out =
    steps_enough input (length input) (suc (length input)) at area out (omega arith) (omega arith)

-- so the position at which a step leaves a session lies behind, and the end of the input where the session is over
pub goes_behind : (p n : ℕ) (a : Reply Refusal) → Onward p n a → p < n → (p < next_or n a) × (next_or n a ≤ n)
unfolding next_or
goes_behind p n Ended o h = (h, omega arith)
goes_behind p n (Stopped k) o h = (h, omega arith)
goes_behind p n (Answered a next) o h = o
goes_behind p n (NotReported k next) o h = o
goes_behind p n (Reported k next) o h = o
