-- `fault::opening_fault` meets what `book_fault` requires: a number ends within the bytes. Assumes nothing.
use Rattle.std.proofs.Common.{sym, ◌∙◌}
use Rattle.session.proofs.text.Numbers.{number_ahead}
use Rattle.session.proofs.fault.opening_fault.Goals as goal

pub book_fault-requires : goal.book_fault-requires
book_fault-requires c = (number_ahead _ _ (sym c.in-Ok.is ∙ c.read.ensures.answer)).1
