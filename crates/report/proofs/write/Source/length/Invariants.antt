-- The loop of `write::Source::length`: the sum is the length of the numbers before the entries and of the first `n` entries.
use Rattle.std.proofs.Common.{◌≡◌, ◌+◌, length}
use Rattle.model.specs.Step.{State}
use Rattle.report.specs.write.Source.{Shows}
use Rattle.report.proofs.write.Bytes.{head_bytes, rows_bytes}
use Rattle.report.proofs.write.Source.length.Given as goal

abbrev pub invariant-loop-n : goal.invariant-loop-n
invariant-loop-n l = (s : State) → Shows s l.self → l.sum ≡ length (head_bytes s) + length (rows_bytes s l.n)
