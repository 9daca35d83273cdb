-- `write::Source::emit` meets its contract: an output that is too short, or one that the report was written to. Assumes nothing.
use Rattle.std.proofs.Common.{arith}
use Rattle.runs.proofs.Emitted.{emit_short, emit_whole}
use Rattle.report.proofs.write.Bytes.{report-few}
use Rattle.report.proofs.write.Given.{given_le}
use Rattle.report.proofs.write.Source.emit.Goals as goal

pub returns-then-out-length : goal.returns-then-out-length
returns-then-out-length c = λ s shows. emit_short _ _ _ (rw (c.length.ensures s shows) at c.if-out-length.true)

pub overflow_cast-result : goal.overflow_cast-result
overflow_cast-result c =
    omega (arith, given_le c.args.self c.write-count.result 100000 (λ s shows. omega (arith, report-few shows.0.tabled, (c.write-count.ensures s shows).0)))

pub returns : goal.returns
returns c = λ s shows.
    let w = c.write-count.ensures s shows in
    emit_whole _ _ _ (rw (c.length.ensures s shows) at c.if-out-length.false) _ _ w.0 w.1
