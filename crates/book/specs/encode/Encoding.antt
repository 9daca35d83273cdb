-- Which rows can be encoded, and what the encoder's parts give: the bytes of a term and of the first terms. Assumes nothing:
-- these are definitions.
use Rattle.std.specs.Prelude.{List, Bool, ◌&&◌, ℕ, ◌+◌, ◌*◌, ◌≤◌, length, get_or, leb}
use Rattle.leb128.specs.Number.{max_number}
use Rattle.model.specs.Limits.{max_arity}
use Rattle.model.specs.Lists.{all, from, concat_map}
use Rattle.model.specs.Area.{term_words}
use Rattle.model.specs.Report.{number_bytes}
use Rattle.model.specs.BookBytes.{node_numbers}
use Rattle.layout.specs.limits.Rows.{node_of, book_of}

-- Rows that can be encoded: there are n, each with at most maxArity arguments, and no number is above the limit.
unfoldable pub encodable : List ℕ → ℕ → Bool
encodable rows n =
    leb (term_words * n) (length rows) && leb n max_number && all (λ t. leb (get_or rows (term_words * t + 1) 0) max_arity) (from 0 n) &&
    all (λ w. leb w max_number) rows

-- Row t can be encoded: the rows reach behind it, and it has at most maxArity arguments.
pub record RowFits (rows : List ℕ) (t : ℕ) : Type 0 where
  pub within : term_words * t + term_words ≤ length rows
  pub few : get_or rows (term_words * t + 1) 0 ≤ max_arity

-- The bytes of the term in row t.
unfoldable pub term_bytes : List ℕ → ℕ → List ℕ
term_bytes rows t = number_bytes (node_numbers (node_of rows t))

-- The bytes of the terms in the first t rows.
unfoldable pub terms_bytes : List ℕ → ℕ → List ℕ
terms_bytes rows t = number_bytes (concat_map node_numbers (book_of rows t))
