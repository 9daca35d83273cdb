-- The reader's answer, a `Result`, against the definitions, and document 01's numbers for each of its cases
-- (document 01, "Turned down", rows 1 and 2). Assumes nothing: these are definitions.
use Rattle.std.specs.Prelude.{List, [], ◌∷◌, ℕ, ◌-◌, length, drop, Result, Ok, Err}
use Rattle.leb128.specs.Number.{Read, number, cut, invalid, read}
use Rattle.leb128.specs.declared.Number.{Number}
use Rattle.leb128.specs.declared.NumberError.{NumberError}
use Rattle.leb128.specs.declared.NumberError.TheVariants.{Cut, Invalid}

-- A number and the position after it, as the reader's answer.
abbrev pub number_before : ℕ → ℕ → Result Number NumberError
number_before n next = Ok (record { value = n; next = next })

-- A reading as the reader's answer, where `size` is the length of all the bytes: the next position is where the rest begins.
unfoldable pub placed : ℕ → Read → Result Number NumberError
placed size (number n rest) = number_before n (size - length rest)
placed size cut = Err Cut
placed size invalid = Err Invalid

-- The number at a position; past the end there is none, and the bytes end too early.
unfoldable pub read_at : ℕ → ℕ → List ℕ → ℕ → Result Number NumberError
read_at k limit bytes at = placed (length bytes) (read k limit (drop at bytes))

-- Document 01's number of a refused number.
unfoldable pub number_of : NumberError → ℕ
number_of Cut = 1
number_of Invalid = 2

-- The reader's answer as document 01's numbers, for each of its cases: 0, the number and the position after it; or the refusal
-- and zeros for all else.
unfoldable pub numbers : Result Number NumberError → List ℕ
numbers (Ok r) = 0 ∷ r.value ∷ r.next ∷ []
numbers (Err e) = number_of e ∷ 0 ∷ 0 ∷ []

-- What these numbers are to be, by what was read.
unfoldable pub read_numbers : ℕ → Read → List ℕ
read_numbers size (number n rest) = 0 ∷ n ∷ (size - length rest) ∷ []
read_numbers size cut = 1 ∷ 0 ∷ 0 ∷ []
read_numbers size invalid = 2 ∷ 0 ∷ 0 ∷ []

-- The numbers that reading at a position answers.
unfoldable pub numbers_at : ℕ → ℕ → List ℕ → ℕ → List ℕ
numbers_at k limit bytes at = read_numbers (length bytes) (read k limit (drop at bytes))
