-- The calls that take a step on an area, as one (document 01, "Add a line", "Fix a choice", "Turned down"). Assumes nothing:
-- these are definitions.
use Rattle.std.specs.Prelude.{◌≡◌, List, cond, ℕ, eqb, Result, Ok, Err}
use Rattle.model.specs.Limits.{Limits}
use Rattle.model.specs.Call.{Outcome, call_add, call_bind}
use Rattle.step.specs.declared.answer.Step.{Step}
use Rattle.step.specs.declared.answer.Step.TheVariants.{Add, Bind}
use Rattle.step.specs.declared.answer.Accepted.{Accepted}
use Rattle.step.specs.answer.Stepped.{step_numbers, accepted_as}
use Rattle.refusal.specs.declared.Refusal.{Refusal}
use Rattle.refusal.specs.Numbers.{number, refusal_of}

-- The call of a step.
unfoldable pub call_step : Limits → Step → List ℕ → Outcome
call_step lim (Add l r) area = call_add lim area l r
call_step lim (Bind v t) area = call_bind lim area v t

-- The answer to it.
unfoldable pub answer_to : Step → Outcome → Result Accepted Refusal
answer_to step o = cond (eqb o.refusal 0) (Ok (accepted_as step o.numbers)) (Err (refusal_of o.refusal))

-- The answer and the area after it are those of an outcome: the answer, document 01's numbers for it, and every byte.
pub record Called (outcome : Outcome) (step : Step) (a : Result Accepted Refusal) (area : List ℕ) : Type 0 where
  pub answer : a ≡ answer_to step outcome
  pub refusal : number a ≡ outcome.refusal
  pub numbers : step_numbers step a ≡ outcome.numbers
  pub bytes : area ≡ outcome.area
