-- Setting same-as of a table in slices: what it asks. Assumes nothing: these are definitions.
use Rattle.std.specs.Prelude.{◌≡◌, List, ℕ, length}
use Rattle.model.specs.Term.{Book, Bindings}
use Rattle.model.specs.Table.{Table}
use Rattle.table.specs.place.Stands.{HoldsTable}
use Rattle.table.specs.index.Indexing.{IsIndexed}
use Rattle.pairs.specs.declared.Lookup.{Lookup}

-- An indexed table of m entries whose same-as is to be set.
pub record ToSettle (entries lefts rights cells : List ℕ) (m : ℕ) (b : Book) (β : Bindings) (es : Table) : Type 0 where
  pub count : m ≡ length es
  pub held : HoldsTable entries es
  pub is-indexed : IsIndexed lefts rights cells m b β es

-- The same, of an index lent to be read.
abbrev pub ToSettleIn : List ℕ → Lookup → ℕ → Book → Bindings → Table → Type 0
ToSettleIn entries x = ToSettle entries x.lefts.now x.rights.now x.cells.now
