-- `fault::book_fault` is safe: a book is read to its end at most. Assumes nothing.
use Rattle.std.proofs.Common.{rules}
use Rattle.session.proofs.fault.Cases.{within_book}
use Rattle.session.proofs.fault.book_fault.Goals as goal

pub overflow_add-result : goal.overflow_add-result
overflow_add-result c = search (rules, within_book c.args.input.now c.args.at c.args.size c.read_to.ensures)
