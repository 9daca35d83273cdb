-- The measure of the two walks is the count of terms that are to be met, twice, and one more for a walk of parts; behind i turns of
-- its loop the parts before the i-th are walked.
use Rattle.std.proofs.Common.{◌+◌, ◌*◌}
use Rattle.values.specs.order.Marking.{marked}
use Rattle.values.proofs.order.Outcomes.{Between}
use Rattle.values.proofs.order.+walk_arguments_walk_term.Given as goal

abbrev pub decreases-walk_arguments : goal.decreases-walk_arguments
decreases-walk_arguments l = 2 * marked l.marks.now l.terms.now.n 0 + 1

abbrev pub decreases-walk_term : goal.decreases-walk_term
decreases-walk_term l = 2 * marked l.marks.now l.terms.now.n 0

abbrev pub invariant-walk_arguments-loop-i : goal.invariant-walk_arguments-loop-i
invariant-walk_arguments-loop-i l = Between l.terms.rows.now l.terms.bindings.now l.terms.n l.t l.fn.marks l.marks l.list l.place l.i
