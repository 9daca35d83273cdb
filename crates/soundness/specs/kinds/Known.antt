-- What is known of a loaded table whose entries are tested: names and roots are computed already. The book and its bindings are
-- those of which this is known: no test reads the bindings. Assumes nothing: these are definitions.
use Rattle.std.specs.Prelude.{◌≡◌, List, Bool, ℕ, ◌+◌, ◌*◌, ◌≤◌, ◌<◌, length, T}
use Rattle.model.specs.Limits.{max_arity}
use Rattle.model.specs.Term.{Book, Bindings, deref, name}
use Rattle.model.specs.Area.{term_words, entry_row_words}
use Rattle.theory.specs.Values.{proper}
use Rattle.layout.specs.limits.Rows.{at, book_of}
use Rattle.soundness.specs.rows.RowTests.{entry_rows_ok}

-- The names of the book's terms, and m rows of entries over these terms.
pub record Named (b : Book) (β : Bindings) (names entries : List ℕ) (m : ℕ) : Type 0 where
  pub names_fit : length b ≤ length names
  pub is_name : (t : ℕ) → t < length b → at names t ≡ name b β t
  pub entries_fit : entry_row_words * m ≤ length entries
  pub entry-rows : T (entry_rows_ok entries m (length b))

-- The rows of the book besides: it obeys the rules of terms, and has no value that contains itself.
pub record RowsKnown (b : Book) (β : Bindings) (rows names entries : List ℕ) (m : ℕ) : Type 0 where
  pub is-proper : T (proper b β)
  pub is-book : b ≡ book_of rows (length b)
  pub rows_fit : term_words * length b ≤ length rows
  pub few-arguments : (t : ℕ) → t < length b → at rows (term_words * t + 1) ≤ max_arity
  pub named : Named b β names entries m

-- And what each term stands for.
pub record Known (b : Book) (β : Bindings) (rows roots names entries : List ℕ) (m : ℕ) : Type 0 where
  pub held : RowsKnown b β rows names entries m
  pub roots_fit : length b ≤ length roots
  pub is-root : (t : ℕ) → t < length b → at roots t ≡ deref b β (length b) t

-- The numbers of a list are terms of the book.
abbrev pub Terms : Book → List ℕ → Type 0
Terms b ts = (j : ℕ) → j < length ts → at ts j < length b

-- Something is known of some book and bindings.
pub record GivenBook (P : Book → Bindings → Type 0) : Type 0 where
  pub book : Book
  pub bound : Bindings
  pub known : P book bound

-- The answer is that of a test, whatever the book and the bindings are of which this is known.
abbrev pub TestAnswers : (Book → Bindings → Type 0) → (Book → Bindings → Bool) → Bool → Type 0
TestAnswers P test r = (b : Book) (β : Bindings) → P b β → r ≡ test b β
