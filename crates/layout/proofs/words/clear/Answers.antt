-- The part is filled with zeros. Assumes nothing.
use Rattle.std.proofs.Common.{arith}
use Rattle.layout.proofs.words.Runs.{clears}
use Rattle.layout.proofs.words.clear.Goals as goal

pub returns : goal.returns
returns c = clears _ _ _ _ _ c.requires.1 (omega arith) (c.fill.ensures.after (λ y e. e))
