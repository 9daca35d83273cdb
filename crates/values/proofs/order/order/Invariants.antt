-- No term is in progress, and those so far are finished.
use Rattle.values.specs.term.Terms.{book, bound}
use Rattle.values.proofs.order.Orders.{Upto}
use Rattle.values.proofs.order.order.Given as goal

abbrev pub invariant-loop-t : goal.invariant-loop-t
invariant-loop-t l = Upto (book l.terms) (bound l.terms) l.marks l.list l.done l.t
