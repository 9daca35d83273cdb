-- What the offered functions answer beyond the calls of `model`. Assumes nothing: these are definitions.
use Rattle.std.specs.Prelude.{cond, ◌&&◌, ℕ, leb, Option, Some, None}
use Rattle.model.specs.Limits.{office}
use Rattle.model.specs.Area.{area_length}

-- The needed length of an area; none for a capacity out of range.
unfoldable pub length_of : ℕ → Option ℕ
length_of capacity = cond (leb 1 capacity && leb capacity office.max_capacity) (Some (area_length office capacity)) None

-- And 0 for a capacity out of range.
unfoldable pub needed_length : ℕ → ℕ
needed_length capacity = cond (leb 1 capacity && leb capacity office.max_capacity) (area_length office capacity) 0
