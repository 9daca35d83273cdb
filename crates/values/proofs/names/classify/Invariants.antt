-- The terms so far have their classes, and the pairs are the halves of the hashes of their keys.
use Rattle.pairs.specs.Lent.{SameSlices}
use Rattle.values.proofs.names.Classifying.{Classifying}
use Rattle.values.proofs.names.classify.Given as goal

abbrev pub invariant-loop-k : goal.invariant-loop-k
invariant-loop-k l =
    record {
      same : SameSlices l.fn.index l.index;
      classifying : Classifying l.terms.rows.now l.terms.bindings.now l.list l.terms.n l.initial.classes l.classes l.index.lefts.now l.index.rights.now l.index.cells.now l.k;
    }
