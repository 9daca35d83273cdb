-- The tests of an entry's kind (document 01, "Areas"). Assumes nothing: these are definitions.
use Rattle.std.specs.Prelude.{Bool, ◌&&◌, ℕ, length, ltb}
use Rattle.model.specs.Term.{Book, Bindings, root}
use Rattle.model.specs.Table.{Entry, Table, entry, holds}
use Rattle.model.specs.Area.{kind_ok}

module _ (b : Book) (β : Bindings) (es : Table) where
  -- Entry i exists and has the values of l and r.
  unfoldable pub argument_right : ℕ → ℕ → ℕ → Bool
  argument_right i l r = ltb i (length es) && holds b β l r (entry es i)

  -- The kind is right for what the two sides stand for.
  unfoldable pub kind_right : Entry → Bool
  kind_right e = kind_ok b β es e.kind (root b β e.left) (root b β e.right)
