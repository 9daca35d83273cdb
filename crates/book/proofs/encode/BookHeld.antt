-- Rows that hold a book can be written. Assumes nothing.
use Rattle.std.proofs.Common.{◌≡◌, List, ℕ, ◌+◌, ◌*◌, ◌≤◌, arith, length, T}
use Rattle.leb128.specs.Number.{max_groups}
use Rattle.model.specs.Limits.{office}
use Rattle.model.specs.Term.{Book, Bindings}
use Rattle.model.specs.Area.{term_words}
use Rattle.model.specs.BookBytes.{book_bytes}
use Rattle.theory.proofs.Soundness.Facts.{Formed}
use Rattle.layout.specs.limits.Rows.{book_of}
use Rattle.book.specs.decode.Rows.{book_rows}
use Rattle.book.specs.encode.Encoding.{encodable}
use Rattle.book.proofs.encode.RowsBook.{rows-book, rows-encodable, book-bytes}

-- The rows, of `size` words, hold a book of so many terms that obeys the rules, with zeros behind it.
pub record BookHeld (size : ℕ) (rows : List ℕ) (terms : ℕ) (b : Book) (β : Bindings) : Type 0 where
  pub formed : Formed b β
  pub few : length b ≤ office.max_terms
  pub room : term_words * length b ≤ size
  pub as_many : terms ≡ length b
  pub written : rows ≡ book_rows size b

module _ {size : ℕ} {rows : List ℕ} {terms : ℕ} {b : Book} {β : Bindings} (d : BookHeld size rows terms b β) where
  -- they can be encoded
  pub held-encodable : T (encodable rows terms)
  held-encodable = rw (d.written, d.as_many) (rows-encodable size b d.formed d.room (omega (arith, d.few)))

  -- they hold the book
  pub held-book : book_of rows terms ≡ b
  held-book = rw (d.written, d.as_many) (rows-book size b d.formed d.room)

  -- its bytes are few
  pub held-few : length (book_bytes (book_of rows terms)) ≤ max_groups * (1 + term_words * office.max_terms)
  held-few = rw held-book (omega (arith, book-bytes size b d.formed d.room, d.few))
