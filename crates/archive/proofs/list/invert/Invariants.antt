-- The first `i` numbers have their places.
use Rattle.archive.proofs.list.Inverting.{Placed}
use Rattle.archive.proofs.list.invert.Given as goal

abbrev pub invariant-loop-i : goal.invariant-loop-i
invariant-loop-i l = Placed l.listed l.i l.places
