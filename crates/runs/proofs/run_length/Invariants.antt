-- The sum is the length of the bytes of the words so far. Assumes nothing.
use Rattle.std.proofs.Common.{◌≡◌, length, take}
use Rattle.model.specs.Report.{number_bytes}
use Rattle.runs.proofs.run_length.Given as goal

abbrev pub invariant-loop-w : goal.invariant-loop-w
invariant-loop-w l = l.sum ≡ length (number_bytes (take l.w-index l.words))
