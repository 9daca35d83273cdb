-- `run` meets its contract: the steps go on from where the opening leads. Assumes nothing.
use Rattle.std.proofs.Common.{arith, ◌≡◌, refl, ◌∙◌, ap, sym, length, ℕ, List}
use Rattle.std.specs.Prelude.{Result, Ok, Err}
use Rattle.refusal.specs.declared.Refusal.{Refusal}
use Rattle.session.specs.steps.Effects.{start, first_or}
use Rattle.session.proofs.fault.Accepted.{accepted_short}
use Rattle.printing.specs.whole.Loop.{standing, after_start, end_from, session_end}
use Rattle.printing.proofs.whole.Loop.{turn_by_turn}
use Rattle.sessions.proofs.Buffers.run.Goals as goal

-- where the opening leads, by its answer
module _ (input area out area' : List ℕ) (left : area' ≡ (start input area).area) where
  leads : {begun : Result ℕ Refusal} → begun ≡ (start input area).answer → after_start input area out ≡ standing (first_or (length input) begun) area' out
  unfolding after_start
  leads answered = rw (answered, left) refl

  -- a refused opening is the end
  ends : {e : Refusal} → Err e ≡ (start input area).answer → standing (length input) area' out ≡ session_end input area out
  unfolding session_end first_or
  ends answered = sym (ap (end_from input) (leads answered) ∙ (turn_by_turn.none input (standing (length input) area' out) (omega arith)).0)

  -- an accepted one goes on at the first step
  goes_on : {first : ℕ} → Ok first ≡ (start input area).answer → end_from input (standing first area' out) ≡ session_end input area out
  unfolding session_end first_or
  goes_on answered = sym (ap (end_from input) (leads answered))

pub steps-requires : goal.steps-requires
steps-requires g c = accepted_short _ _ _ (sym c.open-begun.ensures.answer ∙ c.in-Ok.is)

pub returns-in-Err : goal.returns-in-Err
returns-in-Err g c =
    let left = c.open-begun.ensures in
    ends c.args.input.now c.args.self.now.area c.args.self.now.out c.open-begun.new.area left.area (sym c.in-Err.is ∙ left.answer)

pub returns-in-Ok : goal.returns-in-Ok
returns-in-Ok g c =
    let left = c.open-begun.ensures in
    c.steps.ensures ∙ goes_on c.args.input.now c.args.self.now.area c.args.self.now.out c.open-begun.new.area left.area (sym c.in-Ok.is ∙ left.answer)
