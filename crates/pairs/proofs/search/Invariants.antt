-- What is known of the cell that the search has come to; and the number of cells behind it, since each link goes to later ones.
use Rattle.std.proofs.Common.{◌-◌}
use Rattle.pairs.specs.Index.{cells_of}
use Rattle.pairs.proofs.Descent.{Sought}
use Rattle.pairs.proofs.search.Given as goal

abbrev pub invariant-loop-link : goal.invariant-loop-link
invariant-loop-link l = Sought l.lefts l.rights l.cells l.count l.a l.b l.cell l.way

abbrev pub decreases-loop-link : goal.decreases-loop-link
decreases-loop-link l = cells_of l.count - l.cell
