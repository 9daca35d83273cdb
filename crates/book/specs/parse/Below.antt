-- A number below a limit, and what its reader answers. Assumes nothing: these are definitions.
use Rattle.std.specs.Prelude.{List, ℕ, ◌-◌, length, drop, ltb, Result, Ok, Err}
use Rattle.leb128.specs.declared.Number.{Number}
use Rattle.refusal.specs.declared.Refusal.{Refusal}
use Rattle.refusal.specs.Numbers.{refusal_of}
use Rattle.model.specs.BookBytes.{Parsed, parsed, unparsed, and_then, need, parse_number}

-- A number below the limit (else the refusal k): refusals 1, 2 and k.
unfoldable pub parse_below : ℕ → ℕ → List ℕ → Parsed ℕ
parse_below limit k bytes = and_then (parse_number bytes) (λ n rest. need (ltb n limit) k (parsed n rest))

-- The answer to an outcome, case by case, where `size` is the length of all the bytes: the number and the position where the
-- bytes after it begin, or the refusal.
unfoldable pub part_of : ℕ → Parsed ℕ → Result Number Refusal
part_of size (parsed n rest) = Ok (record { value = n; next = size - length rest })
part_of size (unparsed k) = Err (refusal_of k)

-- The answer to a number below the limit (else the refusal k) at a position of the bytes.
unfoldable pub part_at : List ℕ → ℕ → ℕ → ℕ → Result Number Refusal
part_at bytes at limit k = part_of (length bytes) (parse_below limit k (drop at bytes))
