-- Numbers in groups of seven bits, lowest group first: unsigned LEB128 in its shortest form (document 01, "Bytes").
-- The number of groups and the largest value are parameters, `k` and `limit`; `max_groups` and `max_number` are this product's.
-- Assumes nothing: these are definitions.
use Rattle.std.specs.Prelude.{List, [], ◌∷◌, true, false, cond, ◌&&◌, ℕ, zero, suc, ◌+◌, ◌*◌, ◌-◌, ◌/◌, ◌%◌, length, eqb, ltb, leb}

-- a number takes at most this many bytes
abbrev pub max_groups : ℕ
max_groups = 3

-- the largest number
abbrev pub max_number : ℕ
max_number = 65535

-- The bytes of n in at most k groups: each byte but the last has 80 (hexadecimal) set.
unfoldable pub write : ℕ → ℕ → List ℕ
write zero n = []
write (suc k) n = elim (ltb n 128) [ true ↦ n ∷ [] | false ↦ (128 + n % 128) ∷ write k (n / 128) ]

-- What stands at the front of some bytes: a number and the bytes after it, an early end, or no valid number.
pub data Read : Type 0 where
  number : ℕ → List ℕ → Read
  cut : Read
  invalid : Read

-- A byte with 80 set, before what was read behind it. Where that is 0, the form is not the shortest.
unfoldable pub prepend : ℕ → Read → Read
prepend low (number high rest) = cond (eqb high 0) invalid (number (low + 128 * high) rest)
prepend low cut = cut
prepend low invalid = invalid

-- A number in at most k groups. Where no group is left, the byte before it had 80 set: that is invalid, whatever follows.
unfoldable pub read_groups : ℕ → List ℕ → Read
read_groups zero bytes = invalid
read_groups (suc k) [] = cut
read_groups (suc k) (x ∷ xs) = cond (ltb x 128) (number x xs) (prepend (x - 128) (read_groups k xs))

unfoldable pub at_most : ℕ → Read → Read
at_most limit (number n rest) = cond (leb n limit) (number n rest) invalid
at_most limit cut = cut
at_most limit invalid = invalid

-- A number in at most k groups, not above the limit.
unfoldable pub read : ℕ → ℕ → List ℕ → Read
read k limit bytes = at_most limit (read_groups k bytes)

-- What the writer puts at the front of `room` bytes: the number's bytes, or nothing where the number is above the limit
-- or its bytes do not fit.
unfoldable pub write_within : ℕ → ℕ → ℕ → ℕ → List ℕ
write_within k limit room n = cond (leb n limit && leb (length (write k n)) room) (write k n) []
