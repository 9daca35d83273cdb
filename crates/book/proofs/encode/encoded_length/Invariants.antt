-- The sum is the length of the bytes of the number of terms and of the first `t` terms, at most 30 for each.
use Rattle.std.proofs.Common.{◌≡◌, ◌≤◌, ◌+◌, ◌*◌, length}
use Rattle.leb128.specs.Number.{max_groups}
use Rattle.model.specs.Area.{term_words}
use Rattle.book.specs.encode.Encoding.{terms_bytes}
use Rattle.book.proofs.encode.encoded_length.Given as goal

abbrev pub invariant-loop-t : goal.invariant-loop-t
invariant-loop-t l =
    (l.sum ≡ l.initial.sum + length (terms_bytes l.rows l.t)) × (length (terms_bytes l.rows l.t) ≤ max_groups * term_words * l.t)
