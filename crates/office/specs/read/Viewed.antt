-- What is left of a sound area that was read, with the office's limits. Assumes nothing: these are definitions.
use Rattle.std.specs.Prelude.{List, ℕ, ◌*◌, take}
use Rattle.model.specs.Limits.{office}
use Rattle.model.specs.Area.{entry_row_words, word}
use Rattle.layout.specs.header.Held.{held}
use Rattle.area.specs.load.Loading.{header_of}
use Rattle.area.specs.load.Ready.{ReadFrom}

-- The slices hold the rows of the terms, the lines, the rows of the entries and the names of the area's state, which is sound,
-- whatever its other parts are.
pub record Viewed (area rows names lines entries : List ℕ) : Type 0 where
  pub bindings : List ℕ
  pub list : List ℕ
  pub roots : List ℕ
  pub read : ReadFrom office area (held (header_of area) rows bindings lines (take (entry_row_words * word area 0) entries)) list roots names
