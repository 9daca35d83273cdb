-- Words that are numbers, and bytes laid over a slice. Assumes nothing: these are definitions.
use Rattle.std.specs.Prelude.{List, ◌++◌, ℕ, ◌+◌, length, take, drop, T, leb}
use Rattle.leb128.specs.Number.{max_number}
use Rattle.model.specs.Lists.{all}

-- No word is above the limit of a number.
unfoldable pub small_words : List ℕ → Type 0
small_words words = T (all (λ w. leb w max_number) words)

-- The list with the bytes from place `at` on, and everything else as it was.
unfoldable pub over_at : List ℕ → ℕ → List ℕ → List ℕ
over_at out at bytes = take at out ++ (bytes ++ drop (at + length bytes) out)
