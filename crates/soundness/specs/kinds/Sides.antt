-- The names of the two sides of a table's entries. Assumes nothing: these are definitions.
use Rattle.std.specs.Prelude.{◌≡◌, List, ℕ, ◌<◌, length, get_or}
use Rattle.model.specs.Term.{Book, Bindings, name}
use Rattle.model.specs.Table.{Table, entry}

-- The sides of a table's entries are terms, and two lists hold their names.
pub record SideNames (b : Book) (β : Bindings) (es : Table) (lefts rights : List ℕ) : Type 0 where
  pub left-term : (i : ℕ) → i < length es → (entry es i).left < length b
  pub right-term : (i : ℕ) → i < length es → (entry es i).right < length b
  pub left-name : (i : ℕ) → i < length es → get_or lefts i 0 ≡ name b β (entry es i).left
  pub right-name : (i : ℕ) → i < length es → get_or rights i 0 ≡ name b β (entry es i).right
