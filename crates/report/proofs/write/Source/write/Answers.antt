-- `write::Source::write` meets its contract: each entry is laid behind what was written. Assumes nothing.
use Rattle.std.proofs.Common.{◌+◌, ap, length, arith}
use Rattle.report.proofs.write.Rows.{within}
use Rattle.report.proofs.write.Bytes.{rows_short}
use Rattle.report.proofs.write.Given.{given_le, given_head}
use Rattle.report.proofs.write.Writing.{head_laid, written_fits, entry_room, entry_laid, report_laid}
use Rattle.report.proofs.write.Source.write.Goals as goal

pub put_run-at-requires : goal.put_run-at-requires
put_run-at-requires c = (
  given_head c.args.self,
  given_le c.args.self _ _ (λ s shows. rw shows.1 (omega (arith, rows_short s 0, c.requires s shows))),
)

pub loop-n-init : goal.loop-n-init
loop-n-init c = λ s shows. head_laid s _ _ _ _ shows.1 (c.put_run-at.ensures.next, c.put_run-at.ensures.bytes)

pub slice_bounds-write_entry-count : goal.slice_bounds-write_entry-count
slice_bounds-write_entry-count c =
    omega (arith, given_le c.args.self _ _ (λ s shows. written_fits s c.args.out.now _ _ _ (c.requires s shows) (c.loop-n.invariant s shows)))

pub slice_bounds-write_entry-start : goal.slice_bounds-write_entry-start
slice_bounds-write_entry-start c =
    omega (arith, given_le c.args.self _ _ (λ s shows. written_fits s c.args.out.now _ _ _ (c.requires s shows) (c.loop-n.invariant s shows)))

pub write_entry-at-requires-clause-room : goal.write_entry-at-requires-clause-room
write_entry-at-requires-clause-room c = λ s shows.
    entry_room s c.args.out.now _ _ _ (c.requires s shows) (c.loop-n.invariant s shows) (omega arith) (within shows.0 _ c.loop-n-test.true)

pub overflow_add-at : goal.overflow_add-at
overflow_add-at c =
    omega (
      arith,
      given_le c.args.self (c.loop-n.at + c.write_entry-at.result) (length c.args.out.now) (λ s shows.
          written_fits s c.args.out.now _ _ _ (c.requires s shows)
          (entry_laid s c.args.out.now _ _ _ (c.requires s shows) (c.loop-n.invariant s shows) (omega arith) (within shows.0 _ c.loop-n-test.true) _ _ (c.write_entry-at.ensures s shows))),
    )

pub loop-n-preserved : goal.loop-n-preserved
loop-n-preserved c = λ s shows.
    entry_laid s c.args.out.now _ _ _ (c.requires s shows) (c.loop-n.invariant s shows) (omega arith) (within shows.0 _ c.loop-n-test.true) _ _ (c.write_entry-at.ensures s shows)

pub returns : goal.returns
returns c = λ s shows.
    report_laid s c.args.out.now _ _ _ (c.requires s shows) (c.loop-n.invariant s shows) (omega (arith, ap length shows.0.is-order))
