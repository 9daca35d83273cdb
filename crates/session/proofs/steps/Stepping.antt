-- What a step answers and leaves, and its lines. Assumes nothing.
use Rattle.std.proofs.Common.{◌≡◌, refl, ap, sym, ◌∙◌, List, [], ◌∷◌, ℕ, Result, Ok, Err}
use borrow.Author.Tests.{ne_eqb}
use Rattle.model.specs.Limits.{office}
use Rattle.model.specs.Call.{Outcome, call_report}
use Rattle.theory.proofs.Theorems.{demand_1}
use Rattle.refusal.specs.declared.Refusal.{Refusal}
use Rattle.refusal.specs.Numbers.{number_of, number, counted}
use Rattle.refusal.proofs.Numbers.{none_is_zero, told}
use Rattle.session.specs.declared.command.Command.{Command}
use Rattle.session.specs.command.Commands.{command_at}
use Rattle.session.specs.declared.steps.Reply.{Reply}
use Rattle.session.specs.declared.steps.Reply.TheVariants.{Reported, NotReported}
use Rattle.session.specs.steps.Effects.{Effect, perform, reported_by, step_at}
use Rattle.session.specs.steps.Lines.{lines, command_lines}
use Rattle.session.proofs.steps.Lines.{command_lines_lem}

-- The answer, the area and the output are those of the step s.
abbrev pub Takes : Reply Refusal → List ℕ → List ℕ → Effect → Type 0
Takes r area out s = (r ≡ s.answer) × ((area ≡ s.area) × (out ≡ s.output))

-- a report's answer, by the outcome of its call
module _ (o : Outcome) (next : ℕ) {a : Result ℕ Refusal} (e : number a ≡ o.refusal) where
  pub is_reported : {n : ℕ} → a ≡ Ok n → counted a ∷ [] ≡ o.numbers → Reported n next ≡ reported_by o next
  unfolding reported_by
  is_reported {n} q f =
      let z : 0 ≡ o.refusal = rw q at e in
      let ns : n ∷ [] ≡ o.numbers = rw q at f in
      rw (sym z, sym ns) refl

  pub not_reported : {r : Refusal} → a ≡ Err r → NotReported r next ≡ reported_by o next
  unfolding reported_by
  not_reported {r} q =
      let z : number_of r ≡ o.refusal = rw q at e in
      rw (ne_eqb o.refusal 0 (λ k. none_is_zero r (z ∙ k)), told r o.refusal z) refl

-- a report leaves the area
pub report_area : (area out : List ℕ) → area ≡ (call_report office area out).area
report_area area out = sym (demand_1.reporting office area out).1

module _ (input area out : List ℕ) (at : ℕ) where
  -- by the step that was asked for
  pub by_command : {q q' : Result Command Refusal} → q ≡ command_at input at → q ≡ q' → step_at input area out at ≡ perform area out q'
  unfolding step_at
  by_command e h = ap (perform area out) (sym e ∙ h)

  -- the lines of what it answers and leaves
  pub lines_told : {r : Reply Refusal} {out' : List ℕ} → let s = step_at input area out at in
      r ≡ s.answer → out' ≡ s.output → lines r out' ≡ command_lines area out (command_at input at)
  unfolding step_at
  lines_told e q = rw (e, q) (command_lines_lem area out (command_at input at))
