-- What rows of words hold: the terms, the bindings and the entries of a state that is loaded into arrays, one array for each
-- kind of row (docs/LAYOUT.md). Assumes nothing: these are definitions.
use Rattle.std.specs.Prelude.{◌≡◌, List, ◌∷◌, ◌++◌, map, cond, ℕ, ◌+◌, ◌*◌, ◌-◌, ◌≤◌, ◌<◌, length, get_or, take, drop, T, eqb}
use Rattle.std.proofs.Math.Option.{Option, none, some}
use Rattle.model.specs.Limits.{Limits, max_arity}
use Rattle.model.specs.Lists.{from}
use Rattle.model.specs.Term.{Node, var, app, Book, Bindings}
use Rattle.model.specs.Table.{Kind, hole, common, Entry, Table}
use Rattle.model.specs.Step.{State}
use Rattle.model.specs.Area.{term_words, entry_row_words, terms_ok}

-- The word at place i; 0 past the end.
abbrev pub at : List ℕ → ℕ → ℕ
at words i = get_or words i 0

-- The term in row t, and the book in the first n rows.
unfoldable pub node_of : List ℕ → ℕ → Node
node_of rows t =
    let i = term_words * t in cond (eqb (at rows i) 0) var (app (at rows i - 1) (take (at rows (i + 1)) (drop (i + 2) rows)))

unfoldable pub book_of : List ℕ → ℕ → Book
book_of rows n = map (node_of rows) (from 0 n)

-- The binding in word t, and the first n of them.
unfoldable pub binding_of : List ℕ → ℕ → Option ℕ
binding_of bindings t = cond (eqb (at bindings t) 0) none (some (at bindings t - 1))

unfoldable pub bound_of : List ℕ → ℕ → Bindings
bound_of bindings n = map (binding_of bindings) (from 0 n)

-- The first n rows and words hold a book that obeys the rules of terms, with variables bound to terms.
pub record GoodTerms (rows bindings : List ℕ) (n : ℕ) : Type 0 where
  pub rows_fit : term_words * n ≤ length rows
  pub words_fit : n ≤ length bindings
  pub few-arguments : (t : ℕ) → t < n → at rows (term_words * t + 1) ≤ max_arity
  pub rules : T (terms_ok (book_of rows n) (bound_of bindings n))

-- The kind from word i on, the entry in row i, and the table in the first m rows.
unfoldable pub kind_of : List ℕ → ℕ → Kind
kind_of entries i = cond (eqb (at entries i) 0) hole (common (at entries (i + 1)) (take (at entries (i + 2)) (drop (i + 3) entries)))

unfoldable pub loaded_entry : List ℕ → ℕ → Entry
loaded_entry entries i =
    let j = entry_row_words * i in
    record { left = at entries j; right = at entries (j + 1); kind = kind_of entries (j + 2); same_as = at entries (j + entry_row_words - 1) }

unfoldable pub table_of : List ℕ → ℕ → Table
table_of entries m = map (loaded_entry entries) (from 0 m)

-- A state as it is loaded: its numbers, and a list of words for each kind of row, unused places behind the used ones.
pub record Loaded : Type 0 where
  pub capacity : ℕ
  pub terms : ℕ
  pub entries : ℕ
  pub lines : ℕ
  pub term_rows : List ℕ
  pub binding_words : List ℕ
  pub line_words : List ℕ
  pub entry_rows : List ℕ

-- Each part has the length that the limits and the capacity give it.
pub record Sized (lim : Limits) (w : Loaded) : Type 0 where
  pub terms-long : length w.term_rows ≡ term_words * lim.max_terms
  pub bindings-long : length w.binding_words ≡ lim.max_terms
  pub lines_long : length w.line_words ≡ lim.max_lines
  pub entries-long : length w.entry_rows ≡ entry_row_words * w.capacity

-- The words in the order of the area.
unfoldable pub loaded_words : Loaded → List ℕ
loaded_words w =
    w.capacity ∷ w.terms ∷ w.entries ∷ w.lines ∷ w.term_rows ++ (w.binding_words ++ (w.line_words ++ w.entry_rows))

unfoldable pub loaded_state : Loaded → State
loaded_state w =
    record {
      book = book_of w.term_rows w.terms;
      bound = bound_of w.binding_words w.terms;
      entries = table_of w.entry_rows w.entries;
      lines = take w.lines w.line_words;
      capacity = w.capacity;
    }
