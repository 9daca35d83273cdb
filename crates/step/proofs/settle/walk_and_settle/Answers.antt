-- `settle::walk_and_settle` meets its contract: the walk is full, or what it leaves is settled. Assumes nothing.
use Rattle.std.proofs.Common.{arith}
use Rattle.std.proofs.lemmas.Result.{err_from_is_err_and}
use Rattle.step.proofs.settle.Walked.{walked_full, ranges, walked_settled}
use Rattle.step.proofs.settle.walk_and_settle.Goals as goal

pub returns-in_err-w-clause-settled : goal.returns-in_err-w-clause-settled
returns-in_err-w-clause-settled c =
    let e = err_from_is_err_and c.from_residual.result c.from_residual.ensures.1 in
    rw (e.1, e.2) (walked_full c.args.h c.in_err-w.ensures.walked)

-- the numbers of the answer lie in their ranges
pub overflow_cast-result : goal.overflow_cast-result
overflow_cast-result c = let r = ranges c.args.h c.in_ok-w.ensures.walked c.requires in omega arith

pub overflow_sub-result : goal.overflow_sub-result
overflow_sub-result c = omega (arith, (ranges c.args.h c.in_ok-w.ensures.walked c.requires).longer)

pub returns-clause-settled : goal.returns-clause-settled
returns-clause-settled c =
    let lent = c.lookup.ensures in
    walked_settled c.args.h c.in_ok-w.ensures.walked (rw (lent.lefts, lent.rights, lent.cells) at c.settle.ensures)
