-- `add_line::add_line` meets its contract: each test decides its refusal, and past them the line's entries stand in the slices.
-- Assumes nothing.
use Rattle.std.proofs.Common.{arith}
use Rattle.std.proofs.lemmas.Result.{err_from_is_err_and}
use Rattle.step.proofs.add_line.Answers.{left-refused, right-refused, lines-refused, grow_given, full_refused, count_fits, line_added}
use Rattle.step.proofs.add_line.add_line.Goals as goal

pub returns-then-h-l-clause-added : goal.returns-then-h-l-clause-added
returns-then-h-l-clause-added c = left-refused _ _ _ _ c.if-h-l.true

pub returns-then-h-r-clause-added : goal.returns-then-h-r-clause-added
returns-then-h-r-clause-added c = right-refused _ _ _ _ c.if-h-l.false c.if-h-r.true

pub returns-then-lim-k-clause-added : goal.returns-then-lim-k-clause-added
returns-then-lim-k-clause-added c = lines-refused _ _ _ _ c.if-h-l.false c.if-h-r.false c.if-lim-k.true

pub grow-requires : goal.grow-requires
grow-requires c = grow_given c.requires.room c.if-h-l.false c.if-h-r.false c.requires.given

pub returns-in_err-g-clause-added : goal.returns-in_err-g-clause-added
returns-in_err-g-clause-added c =
    let e = err_from_is_err_and c.from_residual.result c.from_residual.ensures.1 in
    rw (e.1, e.2) (full_refused c.requires.room c.if-h-l.false c.if-h-r.false c.if-lim-k.false c.in_err-g.ensures.grown _ _)

pub overflow_cast-result : goal.overflow_cast-result
overflow_cast-result c =
    omega (arith, count_fits c.requires.room c.if-h-l.false c.if-h-r.false c.if-lim-k.false c.in_ok-g.ensures.grown c.requires.given)

pub returns-clause-added : goal.returns-clause-added
returns-clause-added c = line_added c.requires.room c.if-h-l.false c.if-h-r.false c.if-lim-k.false c.in_ok-g.ensures.grown
