-- After `i` visits the slices hold the table that a walk of as many steps makes. The measure is what is left of the capacity.
use Rattle.std.proofs.Common.{◌-◌}
use Rattle.table.proofs.saturate.Walking.{Walking}
use Rattle.pairs.specs.Lent.{SameSlices}
use Rattle.table.proofs.saturate.walk.Given as goal

abbrev pub invariant-loop-i : goal.invariant-loop-i
invariant-loop-i l =
    record {
      walking : Walking l.terms.rows.now l.terms.roots.now l.terms.names.now l.fn.entries l.fn.index.lefts.now l.fn.index.rights.now l.fn.index.cells.now l.capacity l.m l.entries l.index.lefts.now l.index.rights.now l.index.cells.now l.w l.i;
      same : SameSlices l.fn.index l.index;
    }

abbrev pub decreases-loop-i : goal.decreases-loop-i
decreases-loop-i l = l.capacity - l.i
