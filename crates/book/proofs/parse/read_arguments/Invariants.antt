-- What holds after `i` arguments.
use Rattle.book.proofs.decode.Arguments.{Read}
use Rattle.book.proofs.parse.read_arguments.Given as goal

abbrev pub invariant-loop-i : goal.invariant-loop-i
invariant-loop-i l = Read l.bytes l.fn.at.next l.t l.fn.at.count l.initial.rows l.rows l.next l.i
