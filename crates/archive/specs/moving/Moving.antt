-- Which rows can be moved, and the book that they then hold. Assumes nothing: these are definitions.
use Rattle.std.specs.Prelude.{List, ℕ, ◌+◌, ◌*◌, ◌≤◌, ◌<◌, length, get_or}
use Rattle.model.specs.Limits.{max_arity}
use Rattle.model.specs.Term.{arguments, Book}
use Rattle.model.specs.Area.{term_words}
use Rattle.model.specs.Archive.{moved}
use Rattle.layout.specs.limits.Rows.{at, node_of, book_of}

-- Row t can be moved: the rows reach behind it, it has at most maxArity arguments, and each has a new number.
pub record RowMoves (rows : List ℕ) (t : ℕ) (target : List ℕ) : Type 0 where
  pub within : term_words * t + term_words ≤ length rows
  pub few : at rows (term_words * t + 1) ≤ max_arity
  pub terms : (j : ℕ) → j < length (arguments (node_of rows t)) → get_or (arguments (node_of rows t)) j 0 < length target

-- The first n rows can be moved: `source` names rows among them.
pub record RowsMove (rows : List ℕ) (n : ℕ) (source target : List ℕ) : Type 0 where
  pub row : (t : ℕ) → t < n → RowMoves rows t target
  pub as_many : n ≤ length source
  pub sources : (i : ℕ) → i < n → at source i < n

-- The book in the first n rows, moved.
unfoldable pub moved_book : List ℕ → ℕ → List ℕ → List ℕ → Book
moved_book rows n source target = moved (at source) (at target) (book_of rows n)
