-- Each turn writes the lowest of one term more.
use Rattle.values.proofs.names.Lowest.{numbering_more, numbered}
use Rattle.values.proofs.names.lowest_of_class.Goals as goal

pub loop-t-preserved : goal.loop-t-preserved
loop-t-preserved c = numbering_more c.loop-t.invariant c.loop-t-test.true c.seen_or-low.ensures

pub returns : goal.returns
returns c = numbered c.loop-t.invariant c.loop-t-test.false
