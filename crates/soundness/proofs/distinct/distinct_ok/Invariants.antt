-- `distinct::distinct_ok`: the pairs of the entries before `i` are pushed, and each had its first place there.
use Rattle.layout.specs.limits.Rows.{table_of}
use Rattle.soundness.proofs.rows.Loops.{Passed}
use Rattle.soundness.proofs.distinct.Places.{Filled}
use Rattle.soundness.proofs.distinct.Own.{own_place}
use Rattle.pairs.specs.Lent.{SameSlices}
use Rattle.soundness.proofs.distinct.distinct_ok.Given as goal

abbrev pub invariant-loop-i : goal.invariant-loop-i
invariant-loop-i l =
    record {
      same : SameSlices l.fn.index l.index;
      filled : Filled (λ t. t) (table_of l.entries l.m) l.index.lefts.now l.index.rights.now l.index.cells.now l.i;
      own : Passed (own_place (λ t. t) (table_of l.entries l.m)) l.i;
    }
