-- `write::number_lines` meets its contract: each line's class has a mark, which gives its number. Assumes nothing.
use Rattle.std.proofs.Common.{sym, ap, subst, length, arith}
use Rattle.report.proofs.write.Tables.{Marks, lines-marked}
use Rattle.report.proofs.write.Heads.{few-lines, few-classes, head_put}
use Rattle.report.proofs.write.number_lines.Goals as goal

pub overflow_cast-head : goal.overflow_cast-head
overflow_cast-head c =
    let given = c.requires.given_state.holds in
    omega (arith, few-lines given.0, ap length given.1)

pub renumber-requires-clause-by_index : goal.renumber-requires-clause-by_index
renumber-requires-clause-by_index c =
    let given = c.requires.given_state.holds in
    subst (Marks _ _) (sym given.1) (lines-marked given.0)

pub overflow_cast-head-2 : goal.overflow_cast-head-2
overflow_cast-head-2 c =
    let given = c.requires.given_state.holds in
    omega (arith, few-classes given.0, given.2)

pub returns : goal.returns
returns c = λ s t e f. head_put t c.args.lines.now c.args.count e f c.args.head.now _ c.requires.lines_in_bounds c.renumber.ensures
