-- `numbers_of` meets its contract: a variable's row is one number, any other its symbol, its count and its arguments.
-- Assumes nothing.
use Rattle.std.proofs.Common.{sym, ◌*◌, get_or-drop, add-zero}
use Rattle.model.specs.Area.{term_words}
use Rattle.runs.proofs.Over.{tail_all}
use Rattle.book.proofs.encode.Terms.{row-variable, row-applied}
use Rattle.book.proofs.write.numbers_of.Goals as goal

pub returns-then-row-eq0-clause-numbers : goal.returns-then-row-eq0-clause-numbers
returns-then-row-eq0-clause-numbers c =
    let row = tail_all c.args.rows.now (term_words * c.args.t) in
    rw row (sym (row-variable _ _ c.requires (rw (row, get_or-drop, add-zero) at c.if-row-eq0.true)))

pub returns-clause-numbers : goal.returns-clause-numbers
returns-clause-numbers c =
    let row = tail_all c.args.rows.now (term_words * c.args.t) in
    rw (row, get_or-drop) (sym (row-applied _ _ c.requires (rw (row, get_or-drop, add-zero) at c.if-row-eq0.false)))
