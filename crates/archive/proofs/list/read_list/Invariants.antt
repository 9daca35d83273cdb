-- The first numbers are read.
use Rattle.archive.proofs.list.Numbers.{Read}
use Rattle.archive.proofs.list.read_list.Given as goal

abbrev pub invariant-loop-place : goal.invariant-loop-place
invariant-loop-place l = Read l.list l.n l.listed l.next l.place-index
