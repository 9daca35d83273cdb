-- Words laid into an area. Assumes nothing: these are definitions.
use Rattle.std.specs.Prelude.{List, ◌++◌, ℕ, ◌+◌, ◌*◌, ◌-◌, length, take, drop, replicate}
use Rattle.model.specs.Lists.{concat_map}
use Rattle.model.specs.Area.{word_size, to_bytes}

-- The area with the words at word `start`, and everything else as it was.
unfoldable pub laid : List ℕ → ℕ → List ℕ → List ℕ
laid area start words =
    take (word_size * start) area ++ (concat_map (to_bytes word_size) words ++ drop (word_size * (start + length words)) area)

-- The area with zeros from byte a up to byte e, and everything else as it was.
unfoldable pub cleared : List ℕ → ℕ → ℕ → List ℕ
cleared area a e = take a area ++ (replicate (e - a) 0 ++ drop e area)
