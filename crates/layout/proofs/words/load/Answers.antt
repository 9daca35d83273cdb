-- Each place in its turn holds its word. Assumes nothing.
use Rattle.std.proofs.Common.{arith}
use Rattle.model.specs.Area.{word}
use Rattle.layout.proofs.words.Runs.{loads_none, loads_more}
use Rattle.layout.proofs.words.load.Goals as goal

pub loop-i-init : goal.loop-i-init
loop-i-init c = loads_none _ _ _

pub loop-i-preserved : goal.loop-i-preserved
unfolding word
loop-i-preserved c =
    rw (c.loop-i.invariant, c.word_at.ensures) (loads_more c.args.area.now c.args.start c.args.words.now c.loop-i.i (omega arith))
