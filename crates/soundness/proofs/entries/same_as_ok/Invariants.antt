-- `entries::same_as_ok`: the names of the entries before `i` are pushed, their same-as is right, and where `apart` stands each is the
-- first with its names.
use Rattle.std.proofs.Common.{◌≡◌, true}
use Rattle.model.specs.Term.{Book, Bindings}
use Rattle.model.specs.Table.{entry}
use Rattle.layout.specs.limits.Rows.{at, table_of}
use Rattle.soundness.specs.kinds.Known.{Named}
use Rattle.soundness.specs.entries.SameAsTest.{same_as_right}
use Rattle.soundness.proofs.rows.Loops.{Passed}
use Rattle.soundness.proofs.distinct.Places.{Filled}
use Rattle.soundness.proofs.distinct.Own.{own_place}
use Rattle.pairs.specs.Lent.{SameSlices}
use Rattle.soundness.proofs.entries.same_as_ok.Given as goal

abbrev pub invariant-loop-i : goal.invariant-loop-i
invariant-loop-i l =
    record {
      same : SameSlices l.fn.index l.index;
      filled : Filled (at l.names) (table_of l.entries l.m) l.index.lefts.now l.index.rights.now l.index.cells.now l.i;
      right : (b : Book) (β : Bindings) → Named b β l.names l.entries l.m
          → Passed (λ j. same_as_right b β (table_of l.entries l.m) (entry (table_of l.entries l.m) j)) l.i;
      own : l.apart ≡ true → Passed (own_place (at l.names) (table_of l.entries l.m)) l.i;
    }
