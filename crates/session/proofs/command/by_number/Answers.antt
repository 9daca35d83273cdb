-- `command::by_number` meets its contract: a report, an unknown step, or a step by its two numbers (proofs/command/Reading.antt). Assumes
-- nothing.
use Rattle.std.proofs.Common.{arith, sym, ◌∙◌}
use Rattle.std.proofs.lemmas.Result.{err_from_is_err_and}
use Rattle.session.specs.command.Commands.{or_stopped}
use Rattle.session.proofs.command.Reading.{two_line, two_choice, unknown, reports, by_first, by_both}
use Rattle.session.proofs.command.by_number.Goals as goal

pub returns-then-n-eq3 : goal.returns-then-n-eq3
returns-then-n-eq3 c = reports _ _ _ c.if-n-eq3.true

pub returns-then-n-eq0 : goal.returns-then-n-eq0
returns-then-n-eq0 c = unknown _ _ _ (λ e. omega arith) (λ e. omega arith) (λ e. omega arith)

pub returns-then-n-gt3 : goal.returns-then-n-gt3
returns-then-n-gt3 c = unknown _ _ _ (λ e. omega arith) (λ e. omega arith) (λ e. omega arith)

pub returns-in_err-first : goal.returns-in_err-first
unfolding or_stopped
returns-in_err-first c =
    let p = err_from_is_err_and c.from_residual.result c.from_residual.ensures.1 in
    rw (p.1, p.2) (by_first _ _ _ (omega arith) (omega arith) c.in_err-first.ensures.answer)

pub returns-in_err-second : goal.returns-in_err-second
unfolding or_stopped
returns-in_err-second c =
    let p = err_from_is_err_and c.from_residual-in_err-second.result c.from_residual-in_err-second.ensures.1 in
    rw (p.1, p.2) (by_both _ _ _ (omega arith) (omega arith) c.in_ok-first.ensures.answer c.in_err-second.ensures.answer)

pub returns-then-n-eq1 : goal.returns-then-n-eq1
unfolding or_stopped
returns-then-n-eq1 c =
    sym (two_line c.if-n-eq1.true) ∙ by_both _ _ _ (omega arith) (omega arith) c.in_ok-first.ensures.answer c.in_ok-second.ensures.answer

pub returns-else-n-eq1 : goal.returns-else-n-eq1
unfolding or_stopped
returns-else-n-eq1 c =
    sym (two_choice c.if-n-eq1.false) ∙ by_both _ _ _ (omega arith) (omega arith) c.in_ok-first.ensures.answer c.in_ok-second.ensures.answer
