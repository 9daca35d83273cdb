-- After `j` pairs the slices hold the table with those.
use Rattle.table.specs.visit.Visiting.{arguments_at}
use Rattle.table.proofs.visit.PlacingAll.{PlacingAll}
use Rattle.pairs.specs.Lent.{SameSlices}
use Rattle.table.proofs.visit.place_all.Given as goal

abbrev pub invariant-loop-j : goal.invariant-loop-j
invariant-loop-j l =
    record {
      placing : PlacingAll l.terms.names.now l.fn.entries l.fn.index.lefts.now l.fn.index.rights.now l.fn.index.cells.now l.capacity l.m (arguments_at l.terms.rows.now l.l) (arguments_at l.terms.rows.now l.r) l.entries l.index.lefts.now l.index.rights.now l.index.cells.now l.numbers l.count l.j;
      same : SameSlices l.fn.index l.index;
    }
