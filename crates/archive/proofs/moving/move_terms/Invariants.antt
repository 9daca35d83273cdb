-- The first `i` terms are moved.
use Rattle.std.proofs.Common.{length}
use Rattle.archive.proofs.moving.Terms.{TermsMoved}
use Rattle.archive.proofs.moving.move_terms.Given as goal

abbrev pub invariant-loop-i : goal.invariant-loop-i
invariant-loop-i l = TermsMoved l.rows (length l.source) l.source l.target (length l.fn.moved) l.moved l.lower l.bytes l.i
