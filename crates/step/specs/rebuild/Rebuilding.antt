-- A table under bindings that have changed: what rebuilding it asks (document 01, "Fix a choice", "The pair table"). Assumes nothing:
-- this is a definition.
use Rattle.std.specs.Prelude.{◌≡◌, List, ℕ, ◌*◌, ◌<◌, length, T}
use Rattle.model.specs.Term.{acyclic}
use Rattle.model.specs.Table.{entry}
use Rattle.model.specs.Area.{entry_row_words}
use Rattle.layout.specs.limits.Rows.{book_of, bound_of, table_of, GoodTerms}
use Rattle.layout.specs.declared.header.Header.{Header}
use Rattle.pairs.specs.Index as Pairs
use Rattle.values.specs.evaluate.Valued.{ValueRoom}
use Rattle.table.specs.place.Stands.{HoldsTable}

-- Rows and words whose values do not contain themselves, and a table over their terms; its same-as and kinds may be those of other
-- bindings.
pub record ToRebuild (h : Header) (rows bindings list roots names entries lefts rights cells : List ℕ) : Type 0 where
  pub good : GoodTerms rows bindings h.terms
  pub no_cycle : T (acyclic (book_of rows h.terms) (bound_of bindings h.terms))
  pub table : HoldsTable entries (table_of entries h.entries)
  pub left-term : (i : ℕ) → i < h.entries → (entry (table_of entries h.entries) i).left < h.terms
  pub right-term : (i : ℕ) → i < h.entries → (entry (table_of entries h.entries) i).right < h.terms
  pub long : length entries ≡ entry_row_words * h.capacity
  pub for_terms : ValueRoom list roots names lefts rights cells h.terms
  pub for_entries : Pairs.Room lefts rights cells h.capacity
