-- The numbers of bytes that storing answers, the book's and the list's: 0 where it is refused. Assumes nothing: these are definitions.
use Rattle.std.specs.Prelude.{ℕ, Result, Ok, Err}
use Rattle.refusal.specs.declared.Refusal.{Refusal}
use Rattle.archive.specs.declared.storing.Written.{Written}

abbrev pub book_written : Result Written Refusal → ℕ
book_written (Ok w) = w.book
book_written (Err e) = 0

abbrev pub list_written : Result Written Refusal → ℕ
list_written (Ok w) = w.list
list_written (Err e) = 0
