-- The header as a struct, and as words (docs/LAYOUT.md). Assumes nothing: this is a definition.
use Rattle.std.specs.Prelude.{List, [], ◌∷◌, ℕ}
use Rattle.layout.specs.declared.header.Header.{Header}

unfoldable pub words_of : Header → List ℕ
words_of h = h.capacity ∷ h.terms ∷ h.entries ∷ h.lines ∷ []
