-- The length is a sum of multiples. Assumes nothing.
use Rattle.std.proofs.Common.{arith}
use Rattle.model.specs.Area.{area_length}
use Rattle.layout.proofs.offsets.needed_length.Goals as goal

pub returns : goal.returns
unfolding area_length
returns c = omega arith
