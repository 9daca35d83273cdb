-- After `i` entries their names are indexed.
use Rattle.table.proofs.index.Indexing.{Indexing}
use Rattle.pairs.specs.Lent.{SameSlices}
use Rattle.table.proofs.index.index.Given as goal

abbrev pub invariant-loop-i : goal.invariant-loop-i
invariant-loop-i l = record {
  indexing : Indexing l.fn.names l.fn.entries l.fn.index.lefts.now l.fn.index.rights.now l.fn.index.cells.now l.m l.index.lefts.now l.index.rights.now l.index.cells.now l.i;
  same : SameSlices l.fn.index l.index;
}
