-- The index of a table in slices: what building it asks, and what the slices are after it. Assumes nothing: these are definitions.
use Rattle.std.specs.Prelude.{◌≡◌, List, ℕ, ◌<◌, length}
use Rattle.model.specs.Term.{Book, Bindings}
use Rattle.model.specs.Table.{Table, entry}
use Rattle.pairs.specs.Index.{Indexed}
use Rattle.pairs.specs.Index.{Room}
use Rattle.soundness.specs.kinds.Sides.{SideNames}
use Rattle.table.specs.place.Stands.{HoldsTable, KnownNames}
use Rattle.pairs.specs.declared.Index.{Index}

-- A table of m entries whose index is to be built, and built: the names of its sides are indexed.
pub record ToIndex (names entries lefts rights cells : List ℕ) (m : ℕ) (b : Book) (β : Bindings) (es : Table) : Type 0 where
  pub known : KnownNames names b β
  pub count : m ≡ length es
  pub held : HoldsTable entries es
  pub left-term : (i : ℕ) → i < length es → (entry es i).left < length b
  pub right-term : (i : ℕ) → i < length es → (entry es i).right < length b
  pub room : Room lefts rights cells m

pub record IsIndexed (lefts rights cells : List ℕ) (m : ℕ) (b : Book) (β : Bindings) (es : Table) : Type 0 where
  pub indexed : Indexed lefts rights cells m
  pub names : SideNames b β es lefts rights

-- The same, of what the index lends.
abbrev pub ToIndexIn : List ℕ → List ℕ → Index → ℕ → Book → Bindings → Table → Type 0
ToIndexIn names entries x = ToIndex names entries x.lefts.now x.rights.now x.cells.now

abbrev pub IsIndexedIn : Index → ℕ → Book → Bindings → Table → Type 0
IsIndexedIn x = IsIndexed x.lefts.now x.rights.now x.cells.now
