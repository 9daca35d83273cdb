-- The first `j` arguments are moved.
use Rattle.archive.proofs.moving.Arguments.{ArgumentsMoved}
use Rattle.archive.proofs.moving.move_arguments.Given as goal

abbrev pub invariant-loop-j : goal.invariant-loop-j
invariant-loop-j l = ArgumentsMoved l.arguments l.target l.fn.moved l.limit l.moved l.lower l.bytes l.j
