-- The bytes of the words so far are laid over `out`. Assumes nothing.
use Rattle.std.proofs.Common.{take}
use Rattle.model.specs.Report.{number_bytes}
use Rattle.runs.proofs.Over.{Laid}
use Rattle.runs.proofs.put_run.Given as goal

abbrev pub invariant-loop-w : goal.invariant-loop-w
invariant-loop-w l = Laid l.initial.out l.at (number_bytes (take l.w-index l.words)) l.out l.next
