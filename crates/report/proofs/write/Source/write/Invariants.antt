-- The loop of `write::Source::write`: behind the numbers before the entries, the first `n` entries are laid over `out`.
use Rattle.model.specs.Step.{State}
use Rattle.runs.proofs.Over.{Laid}
use Rattle.report.specs.write.Source.{Shows}
use Rattle.report.proofs.write.Writing.{bytes_before}
use Rattle.report.proofs.write.Source.write.Given as goal

abbrev pub invariant-loop-n : goal.invariant-loop-n
invariant-loop-n l = (s : State) → Shows s l.self → Laid l.fn.out 0 (bytes_before s l.n) l.out l.at
