-- A pair table in slices of words. The book, its bindings and the table are those of which this is known: no function takes the
-- bindings. Assumes nothing: these are definitions.
use Rattle.std.specs.Prelude.{◌≡◌, List, [], ℕ, ◌*◌, ◌≤◌, ◌<◌, length}
use Rattle.refusal.specs.declared.Refusal.{Refusal}
use Rattle.refusal.specs.declared.Refusal.TheVariants.{Full}
use Rattle.model.specs.Lists.{concat_map, padded}
use Rattle.model.specs.Term.{Book, Bindings}
use Rattle.model.specs.Table.{Table, entry}
use Rattle.model.specs.Area.{entry_row_words, entry_words}
use Rattle.pairs.specs.Index.{Indexed}
use Rattle.soundness.specs.kinds.Known.{Named, Known}
use Rattle.pairs.specs.Index.{Room}
use Rattle.soundness.specs.kinds.Sides.{SideNames}

-- Rows that hold a table: the rows of its entries, each of one width, and zeros behind them.
pub record HoldsTable (entries : List ℕ) (es : Table) : Type 0 where
  pub words : entries ≡ padded (length entries) (concat_map entry_words es)
  pub fits : entry_row_words * length es ≤ length entries
  pub wide : (i : ℕ) → i < length es → length (entry_words (entry es i)) ≡ entry_row_words

-- What is known of the names of terms, and of all that belongs to terms, where no entry is read.
abbrev pub KnownNames : List ℕ → Book → Bindings → Type 0
KnownNames names b β = Named b β names [] 0

abbrev pub KnownTerms : List ℕ → List ℕ → List ℕ → Book → Bindings → Type 0
KnownTerms rows roots names b β = Known b β rows roots names [] 0

-- A table of m entries stands in the slices: the rows of the capacity hold it, and the names of its sides are indexed.
pub record Stands (entries lefts rights cells : List ℕ) (capacity m : ℕ) (b : Book) (β : Bindings) (es : Table) : Type 0 where
  pub count : m ≡ length es
  pub held : HoldsTable entries es
  pub long : length entries ≡ entry_row_words * capacity
  pub room : Room lefts rights cells capacity
  pub indexed : Indexed lefts rights cells m
  pub names : SideNames b β es lefts rights

-- A step of the table leads to this one, which is within the capacity: it stands in the slices.
pub record Reaches (entries lefts rights cells : List ℕ) (capacity m : ℕ) (b : Book) (β : Bindings) (es : Table) : Type 0 where
  pub within : length es ≤ capacity
  pub stands : Stands entries lefts rights cells capacity m b β es

-- A step of the table leads to this one, which needs more entries than the capacity: the step is refused.
pub record IsFull (capacity : ℕ) (e : Refusal) (es : Table) : Type 0 where
  pub full : e ≡ Full
  pub beyond : capacity < length es

-- Something is known of some book, bindings and table.
pub record GivenTable (P : Book → Bindings → Table → Type 0) : Type 0 where
  pub book : Book
  pub bound : Bindings
  pub table : Table
  pub known : P book bound table

-- Whatever the book, the bindings and the table are of which P is known, so is Q.
abbrev pub Whatever : (Book → Bindings → Table → Type 0) → (Book → Bindings → Table → Type 0) → Type 0
Whatever P Q = (b : Book) (β : Bindings) (es : Table) → P b β es → Q b β es
