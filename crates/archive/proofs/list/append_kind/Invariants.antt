-- The first `t` terms of the kind are listed.
use Rattle.archive.proofs.list.OfKind.{Kept}
use Rattle.archive.proofs.list.append_kind.Given as goal

abbrev pub invariant-loop-t : goal.invariant-loop-t
invariant-loop-t l = Kept l.rows l.variables l.n l.start l.fn.listed l.listed l.next l.t
