-- `write_both` meets its contract: either output is too short, or both are written to. Assumes nothing.
use Rattle.std.proofs.Common.{length, arith}
use Rattle.runs.proofs.Over.{laid_front}
use Rattle.runs.proofs.Numbers.{length-numbers}
use Rattle.book.proofs.encode.Terms.{encodable-terms}
use Rattle.archive.proofs.storing.Both.{first_short, second_short, both_whole}
use Rattle.archive.proofs.storing.write_both.Goals as goal

pub returns-then-out-bytes : goal.returns-then-out-bytes
returns-then-out-bytes c = first_short _ _ _ _ (rw c.requires.2 at c.if-out-bytes.true)

pub returns-then-list-run_length : goal.returns-then-list-run_length
returns-then-list-run_length c = second_short _ _ _ _ (rw c.run_length.ensures at c.if-list-run_length.true)

pub overflow_cast-result-2 : goal.overflow_cast-result-2
overflow_cast-result-2 c =
    let n = length c.args.listed.now in
    omega (arith, c.put_run-behind.ensures.next, length-numbers c.args.listed.now, encodable-terms c.args.rows.now n c.requires.0)

pub returns : goal.returns
returns c =
    let encode = c.encode-count.ensures in
    let put = c.put_run-behind.ensures in
    let list = laid_front _ _ _ _ (put.next, put.bytes) in
    both_whole _ _ _ _ (rw c.requires.2 at c.if-out-bytes.false)
    (rw c.run_length.ensures at c.if-list-run_length.false) _ _ _ _ encode.count encode.bytes list.0 list.1
