-- Each word's bytes are laid behind those before it. Assumes nothing.
use Rattle.std.proofs.Common.{arith, ◌+◌}
use Rattle.runs.proofs.Over.{laid_none, laid_more, laid-length}
use Rattle.runs.proofs.Numbers.{numbers-none, numbers-more, length-numbers-more, numbers-grow, small-word}
use Rattle.runs.proofs.put_run.Goals as goal

pub loop-w-init : goal.loop-w-init
loop-w-init c = rw numbers-none (laid_none _ _)

pub put_number-next-requires : goal.put_number-next-requires
put_number-next-requires c =
    let words = c.args.words.now in
    let i = c.loop-w.w-index in
    let more = length-numbers-more words i (omega arith) in
    let grows = numbers-grow words (i + 1) in
    let same = laid-length c.args.out.now c.args.at _ _ _ (omega arith) c.loop-w.invariant in
    (small-word words i c.requires.0 (omega arith), omega arith)

pub loop-w-preserved : goal.loop-w-preserved
loop-w-preserved c =
    let words = c.args.words.now in
    let i = c.loop-w.w-index in
    let grows = numbers-grow words i in
    rw (numbers-more words i (omega arith))
    (laid_more c.args.out.now c.args.at _ _ _ (omega arith) c.loop-w.invariant _ _ _ (c.put_number-next.ensures.next, c.put_number-next.ensures.bytes))
