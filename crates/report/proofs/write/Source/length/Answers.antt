-- `write::Source::length` meets its contract: the sum grows by one entry after the other. Assumes nothing.
use Rattle.std.proofs.Common.{arith}
use Rattle.report.proofs.write.Given.{given_le}
use Rattle.report.proofs.write.Lengths.{sum-none, sum_more, sum_fits, sum-all}
use Rattle.report.proofs.write.Source.length.Goals as goal

pub loop-n-init : goal.loop-n-init
loop-n-init c = λ s shows. sum-none s _ _ shows.1 c.run_length-sum.ensures

pub overflow_add-sum : goal.overflow_add-sum
overflow_add-sum c =
    omega (arith, given_le c.args.self _ _ (λ s shows. sum_fits shows.0 _ _ (c.loop-n.invariant s shows) c.loop-n-test.true _ (c.entry_length-sum.ensures s shows)))

pub loop-n-preserved : goal.loop-n-preserved
loop-n-preserved c = λ s shows. sum_more shows.0 _ _ (c.loop-n.invariant s shows) c.loop-n-test.true _ (c.entry_length-sum.ensures s shows)

pub returns : goal.returns
returns c = λ s shows. sum-all shows.0 _ _ (c.loop-n.invariant s shows) (omega arith)
