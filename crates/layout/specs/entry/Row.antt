-- An entry as a struct, and as words (docs/LAYOUT.md; document 01, "The pair table": an entry's fields). Assumes nothing: this is a
-- definition.
use Rattle.std.specs.Prelude.{List, ◌∷◌, [], ◌++◌, ℕ}
use Rattle.layout.specs.declared.entry.Entry.{Entry}

unfoldable pub row_of : Entry → List ℕ
row_of e = e.left ∷ e.right ∷ e.kind ∷ e.symbol ∷ e.count ∷ e.arguments ++ e.same_as ∷ []
