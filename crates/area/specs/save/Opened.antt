-- The words of an area just opened. Assumes nothing: these are definitions.
use Rattle.std.specs.Prelude.{List, ◌∷◌, ◌++◌, ℕ, ◌+◌, ◌*◌, replicate}
use Rattle.model.specs.Limits.{Limits}
use Rattle.model.specs.Area.{entry_row_words}

-- The header, the term rows, and zeros for the bindings, the lines and the entries.
unfoldable pub opened_words : Limits → ℕ → ℕ → List ℕ → List ℕ
opened_words lim capacity terms rows =
    capacity ∷ terms ∷ 0 ∷ 0 ∷ rows ++ replicate (lim.max_terms + lim.max_lines + entry_row_words * capacity) 0
