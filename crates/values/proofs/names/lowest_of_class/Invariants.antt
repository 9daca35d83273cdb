-- Each term so far has the lowest of its class, which stands at the place of the class too.
use Rattle.values.proofs.names.Lowest.{Numbering}
use Rattle.values.proofs.names.lowest_of_class.Given as goal

abbrev pub invariant-loop-t : goal.invariant-loop-t
invariant-loop-t l = Numbering l.classes l.n l.initial.firsts l.initial.names l.firsts l.names l.t
