-- What a step asks and gives, whichever it is. Assumes nothing.
use Rattle.std.proofs.Common.{◌≡◌, List, ℕ, arith, Result}
use Rattle.model.specs.Limits.{Limits}
use Rattle.model.specs.Step.{State, add_line, bind}
use Rattle.layout.specs.limits.Rows.{Loaded, loaded_state}
use Rattle.pairs.specs.Index.{Room}
use Rattle.area.specs.load.Ready.{Lent, Ready}
use Rattle.area.proofs.load.Uses.{ready_facts}
use Rattle.refusal.specs.declared.Refusal.{Refusal}
use Rattle.step.specs.declared.answer.Step.{Step}
use Rattle.step.specs.declared.answer.Step.TheVariants.{Add, Bind}
use Rattle.step.specs.declared.answer.Accepted.{Accepted}
use Rattle.step.specs.answer.Stepped.{Gives}
use Rattle.pairs.proofs.Rooms.{room_fewer}
use Rattle.step.specs.take.Taking.{step_of}

-- room for every state is room for the entries of this one
pub ready-room : {lim : Limits} {w : Loaded} {list roots names list' roots' names' lefts rights cells : List ℕ} → Ready lim w list roots names
    → Lent lim list' roots' names' lefts rights cells → Room lefts rights cells w.capacity
unfolding loaded_state
ready-room r l = room_fewer (omega (arith, (ready_facts r).capacity-fits)) l.for_entries

-- the step that is asked for gives the answer
module _ (lim : Limits) (state : State) (a : Result Accepted Refusal) (w : Loaded) {step : Step} where
  pub gives_line : {l r : ℕ} → step ≡ Add l r → Gives lim (Add l r) (add_line lim state l r) a w → Gives lim step (step_of lim step state) a w
  unfolding step_of
  gives_line e g = rw e g

  pub gives_choice : {v t : ℕ} → step ≡ Bind v t → Gives lim (Bind v t) (bind state v t) a w → Gives lim step (step_of lim step state) a w
  unfolding step_of
  gives_choice e g = rw e g
