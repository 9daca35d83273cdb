-- `steps` meets its contract: a turn leads behind its position, and all turns lead to the same end after one of them. Assumes nothing.
use Rattle.std.proofs.Common.{arith, ◌≡◌, ◌∙◌, sym, length, ℕ, ◌<◌, ◌≤◌, List}
use Rattle.session.specs.steps.Effects.{next_or, step_at}
use Rattle.printing.specs.whole.Loop.{Standing, standing, turn, step_from, end_from}
use Rattle.printing.proofs.whole.Progress.{steps_go_on, goes_behind}
use Rattle.printing.proofs.whole.Loop.{turn_by_turn}
use Rattle.sessions.proofs.Buffers.steps.Goals as goal

-- a turn leads behind its position, and not past the end
behind : (input area out : List ℕ) (at next : ℕ) → at < length input → next ≡ next_or (length input) (step_at input area out at).answer
    → (at < next) × (next ≤ length input)
behind input area out at next l e = rw e (goes_behind at (length input) (step_at input area out at).answer (steps_go_on input at area out) l)

-- all turns lead to the same end after one of them
turned_on : (input area out area' out' : List ℕ) (at next : ℕ) (end : Standing) → at < length input
    → let s = step_at input area out at in area' ≡ s.area → out' ≡ s.output → next ≡ next_or (length input) s.answer
    → end_from input (standing at area out) ≡ end → end_from input (standing next area' out') ≡ end
unfolding turn step_from
turned_on input area out area' out' at next end l a o n e = rw (a, o, n) (sym (turn_by_turn.one input (standing at area out) l).0 ∙ e)

pub loop-at-smaller : goal.loop-at-smaller
loop-at-smaller g c =
    let on = behind c.args.input.now c.loop-at.self.area c.loop-at.self.out c.loop-at.at c.take_turn-turn.result.next c.loop-at-test.true c.take_turn-turn.ensures.next in
    omega (arith, on.0, on.1, c.loop-at-test.true)

pub loop-at-preserved : goal.loop-at-preserved
loop-at-preserved g c =
    let left = c.take_turn-turn.ensures in
    let end = end_from c.args.input.now (standing c.args.first c.args.self.now.area c.args.self.now.out) in
    record {
      kept = left.kept;
      leads = turned_on c.args.input.now c.loop-at.self.area c.loop-at.self.out c.take_turn-turn.new.area c.take_turn-turn.new.out c.loop-at.at c.take_turn-turn.result.next end c.loop-at-test.true left.area left.output left.next c.loop-at.invariant.leads;
    }

pub returns : goal.returns
returns g c =
    sym (turn_by_turn.none c.args.input.now (standing c.loop-at.at c.loop-at.self.area c.loop-at.self.out) c.loop-at-test.false).0 ∙ c.loop-at.invariant.leads
