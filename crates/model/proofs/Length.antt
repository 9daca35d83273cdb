-- The needed length of an area is at most 1,048,576 bytes at every capacity of the office (document 01, "Areas"). Assumes
-- nothing.
use native.Mathlib.Omega.{arith}
use Rattle.model.specs.Area.{area_length, NeededLength}

pub needed-length : NeededLength
unfolding area_length
needed-length capacity h = omega arith
