-- Each word in its turn is laid behind those before it. Assumes nothing.
use Rattle.std.proofs.Common.{arith}
use Rattle.layout.proofs.words.Runs.{lays_none, lays_more}
use Rattle.layout.proofs.words.store.Goals as goal

pub loop-i-init : goal.loop-i-init
loop-i-init c = lays_none _ _

pub loop-i-preserved : goal.loop-i-preserved
loop-i-preserved c =
    rw (c.put_word.ensures, c.loop-i.invariant) (lays_more c.args.area.now c.args.start c.args.words.now c.loop-i.i (omega arith) (omega arith))
