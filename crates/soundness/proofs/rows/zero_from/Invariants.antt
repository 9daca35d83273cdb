-- `rows::zero_from`: the words before `w`, and those from there on, are 0 where all are.
use Rattle.std.proofs.Common.{◌≡◌, ◌&&◌}
use Rattle.soundness.specs.rows.RowTests.{zero_from}
use Rattle.soundness.proofs.rows.zero_from.Given as goal

abbrev pub invariant-loop-w : goal.invariant-loop-w
invariant-loop-w l = l.zero && zero_from l.w-items l.w-index ≡ zero_from l.w-items 0
