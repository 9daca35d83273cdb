-- After `i` entries those have their same-as.
use Rattle.table.proofs.same_as.Settling.{Settling}
use Rattle.table.proofs.same_as.settle.Given as goal

abbrev pub invariant-loop-i : goal.invariant-loop-i
invariant-loop-i l = Settling l.fn.entries l.index.lefts.now l.index.rights.now l.index.cells.now l.m l.entries l.i
