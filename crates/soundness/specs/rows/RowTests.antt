-- The tests of loaded rows that look at words alone: every number lies in its range, every unused place is 0, the terms obey
-- the rules of terms, and only variables are bound (document 01, "Areas"). Assumes nothing: these are definitions.
use Rattle.std.specs.Prelude.{List, Bool, true, ◌&&◌, ℕ, ◌+◌, ◌*◌, take, drop, eqb, ltb, leb}
use Rattle.model.specs.Limits.{max_arity, max_symbol}
use Rattle.model.specs.Lists.{all, from, eq_numbers}
use Rattle.model.specs.Term.{Node, var, app}
use Rattle.model.specs.Area.{term_words, entry_row_words, node_words, entry_words, binding_ok}
use Rattle.layout.specs.limits.Rows.{at, node_of, book_of, binding_of, loaded_entry}

-- Every word from place i on is 0.
unfoldable pub zero_from : List ℕ → ℕ → Bool
zero_from words i = all (eqb 0) (drop i words)

-- The symbol and the arguments of node n, as term t, lie in their ranges.
unfoldable pub node_in_range : ℕ → Node → Bool
node_in_range t var = true
node_in_range t (app s args) = leb s max_symbol && all (λ a. ltb a t) args

-- Row t is the row of its term, unused places 0, and its numbers lie in their ranges.
unfoldable pub term_row_ok : List ℕ → ℕ → Bool
term_row_ok rows t =
    leb (at rows (term_words * t + 1)) max_arity &&
    eq_numbers (take term_words (drop (term_words * t) rows)) (node_words (node_of rows t)) && node_in_range t (node_of rows t)

-- The rows of n terms.
unfoldable pub term_rows_ok : List ℕ → ℕ → Bool
term_rows_ok rows n = all (term_row_ok rows) (from 0 n) && zero_from rows (term_words * n)

-- The bindings of n terms: only variables are bound, and to terms.
unfoldable pub bindings_ok : List ℕ → List ℕ → ℕ → Bool
bindings_ok rows bindings n =
    all (λ t. binding_ok (book_of rows n) (node_of rows t) (binding_of bindings t)) (from 0 n) && zero_from bindings n

-- The entries of k lines, of m that there are.
unfoldable pub lines_ok : List ℕ → ℕ → ℕ → Bool
lines_ok lines k m = all (λ i. ltb i m) (take k lines) && zero_from lines k

-- Row i is the row of its entry, unused places 0, its kind 0 or 1, and its sides are terms, of n that there are.
unfoldable pub entry_row_ok : List ℕ → ℕ → ℕ → Bool
entry_row_ok entries n i =
    leb (at entries (entry_row_words * i + 4)) max_arity &&
    eq_numbers (take entry_row_words (drop (entry_row_words * i) entries)) (entry_words (loaded_entry entries i)) &&
    ltb (at entries (entry_row_words * i)) n && ltb (at entries (entry_row_words * i + 1)) n

-- The rows of m entries, over n terms.
unfoldable pub entry_rows_ok : List ℕ → ℕ → ℕ → Bool
entry_rows_ok entries m n = all (entry_row_ok entries n) (from 0 m) && zero_from entries (entry_row_words * m)
