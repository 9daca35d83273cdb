-- The slices into which an area's words are loaded. Assumes nothing: these are definitions.
use Rattle.std.specs.Prelude.{◌≡◌, List, ℕ, ◌*◌, ◌≤◌, length}
use Rattle.model.specs.Limits.{Limits}
use Rattle.model.specs.Area.{term_words, entry_row_words, word}
use Rattle.layout.specs.limits.Rows.{Loaded}
use Rattle.layout.specs.declared.header.Header.{Header}

-- Each slice has the words of its part, for an area of this capacity.
pub record Sizes (lim : Limits) (capacity : ℕ) (rows bindings lines entries : List ℕ) : Type 0 where
  pub rows_size : length rows ≡ term_words * lim.max_terms
  pub bindings_size : length bindings ≡ lim.max_terms
  pub lines_size : length lines ≡ lim.max_lines
  pub entries_size : length entries ≡ entry_row_words * capacity

-- The slices hold the words of the loaded state.
pub record Words (w : Loaded) (rows bindings lines entries : List ℕ) : Type 0 where
  pub is-rows : rows ≡ w.term_rows
  pub is-bindings : bindings ≡ w.binding_words
  pub is-lines : lines ≡ w.line_words
  pub is-entries : entries ≡ w.entry_rows

-- The rows and words that the numbers of a loaded state count lie in its lists.
pub record Used (w : Loaded) : Type 0 where
  pub terms_fit : term_words * w.terms ≤ length w.term_rows
  pub bindings_fit : w.terms ≤ length w.binding_words
  pub lines_fit : w.lines ≤ length w.line_words
  pub entries_fit : entry_row_words * w.entries ≤ length w.entry_rows

-- The header of an area: its first words.
unfoldable pub header_of : List ℕ → Header
header_of area = record { capacity = word area 0; terms = word area 1; entries = word area 2; lines = word area 3 }
