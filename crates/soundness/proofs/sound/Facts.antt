-- The tests of the header and of the rows as facts, to reason with. Assumes nothing: these are definitions.
use Rattle.std.proofs.Common.{◌≡◌, List, ℕ, ◌+◌, ◌*◌, ◌≤◌, ◌<◌, length, take, drop, T, ltb}
use Rattle.model.specs.Limits.{Limits, max_arity}
use Rattle.model.specs.Lists.{all}
use Rattle.model.specs.Area.{term_words, entry_row_words, area_length, node_words, entry_words, binding_ok, word}
use Rattle.layout.specs.limits.Rows.{Loaded, at, node_of, book_of, binding_of, loaded_entry}
use Rattle.soundness.specs.rows.RowTests.{zero_from, node_in_range}

-- The header's numbers lie in their ranges, and the area is long enough.
pub record HeaderFacts (lim : Limits) (area : List ℕ) : Type 0 where
  pub some_capacity : 1 ≤ word area 0
  pub capacity-fits : word area 0 ≤ lim.max_capacity
  pub few-terms : word area 1 ≤ lim.max_terms
  pub few-entries : word area 2 ≤ word area 0
  pub few-lines : word area 3 ≤ lim.max_lines
  pub long : area_length lim (word area 0) ≤ length area

-- Row t is the row of its term, in range.
pub record TermRow (rows : List ℕ) (t : ℕ) : Type 0 where
  pub count : at rows (term_words * t + 1) ≤ max_arity
  pub row : take term_words (drop (term_words * t) rows) ≡ node_words (node_of rows t)
  pub in_range_lem : T (node_in_range t (node_of rows t))

-- Row i is the row of its entry, over n terms.
pub record EntryRow (entries : List ℕ) (n i : ℕ) : Type 0 where
  pub count : at entries (entry_row_words * i + 4) ≤ max_arity
  pub row : take entry_row_words (drop (entry_row_words * i) entries) ≡ entry_words (loaded_entry entries i)
  pub left : T (ltb (at entries (entry_row_words * i)) n)
  pub right : T (ltb (at entries (entry_row_words * i + 1)) n)

-- What the rows obey: the used ones, and those behind them.
pub record RowFacts (w : Loaded) : Type 0 where
  pub term-row : (t : ℕ) → t < w.terms → TermRow w.term_rows t
  pub no_more-terms : T (zero_from w.term_rows (term_words * w.terms))
  pub binding : (t : ℕ) → t < w.terms → T (binding_ok (book_of w.term_rows w.terms) (node_of w.term_rows t) (binding_of w.binding_words t))
  pub no_more-bindings : T (zero_from w.binding_words w.terms)
  pub line : T (all (λ i. ltb i w.entries) (take w.lines w.line_words))
  pub no_more-lines : T (zero_from w.line_words w.lines)
  pub entry_row : (i : ℕ) → i < w.entries → EntryRow w.entry_rows w.terms i
  pub no_more-entries : T (zero_from w.entry_rows (entry_row_words * w.entries))
