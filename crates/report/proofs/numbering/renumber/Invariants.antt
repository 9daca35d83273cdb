-- The loop of `numbering::renumber`: the numbers of the entries so far stand at the front.
use Rattle.std.proofs.Common.{◌≡◌, ◌++◌, map, take, drop}
use Rattle.report.specs.numbering.Numbering.{new_number}
use Rattle.report.proofs.numbering.renumber.Given as goal

abbrev pub invariant-loop-j : goal.invariant-loop-j
invariant-loop-j l = l.out ≡ map (new_number l.entries l.numbers) (take l.j l.items) ++ drop l.j l.fn.out
