-- What holds after `t` terms.
use Rattle.std.proofs.Common.{length}
use Rattle.book.proofs.decode.Book.{Read}
use Rattle.book.proofs.decode.read_terms.Given as goal

abbrev pub invariant-loop-t : goal.invariant-loop-t
invariant-loop-t l = Read l.bytes l.fn.at l.count (length l.initial.rows) l.rows l.next l.t
