-- `command::command_at` meets its contract: the end of the input, the number at the position, and the step of that number
-- (proofs/command/Reading.antt). Assumes nothing.
use Rattle.std.proofs.Common.{◌∙◌}
use Rattle.std.proofs.lemmas.Result.{err_from_is_err_and}
use Rattle.session.specs.command.Commands.{or_stopped}
use Rattle.session.proofs.command.Reading.{ended, by_step}
use Rattle.session.proofs.command.Numbers.{told}
use Rattle.session.proofs.command.command_at.Goals as goal

pub returns-then-input-at : goal.returns-then-input-at
returns-then-input-at c = told _ _ (ended _ _ c.if-input-at.true)

pub returns-in_err-number : goal.returns-in_err-number
unfolding or_stopped
returns-in_err-number c =
    let p = err_from_is_err_and c.from_residual.result c.from_residual.ensures.1 in
    rw (p.1, p.2) (told _ _ (by_step _ _ c.if-input-at.false c.in_err-number.ensures.answer))

pub returns : goal.returns
unfolding or_stopped
returns c = told _ _ (c.by_number.ensures ∙ by_step _ _ c.if-input-at.false c.in_ok-number.ensures.answer)
