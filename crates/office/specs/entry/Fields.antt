-- The numbers that reading an entry answers: its row, zeros where it is refused. Assumes nothing: this is a definition.
use Rattle.std.specs.Prelude.{List, ℕ, replicate, Result, Ok, Err}
use Rattle.model.specs.Area.{entry_row_words}
use Rattle.refusal.specs.declared.Refusal.{Refusal}
use Rattle.layout.specs.declared.entry.Entry.{Entry}
use Rattle.layout.specs.entry.Row.{row_of}

abbrev pub fields_of : Result Entry Refusal → List ℕ
fields_of (Ok e) = row_of e
fields_of (Err r) = replicate entry_row_words 0
