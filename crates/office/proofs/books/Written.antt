-- Writing the book of an area: what was read of it holds the book, and what is emitted of it is the outcome of the call. Assumes
-- nothing.
use Rattle.std.proofs.Common.{◌≡◌, ◌∙◌, List, [], true, false, ℕ, ◌*◌, arith}
use Rattle.model.specs.Limits.{office}
use Rattle.model.specs.Area.{term_words, word, sound, state_of}
use Rattle.model.specs.BookBytes.{book_bytes}
use Rattle.model.specs.Call.{emit, call_write}
use Rattle.layout.specs.limits.Rows.{book_of}
use Rattle.runs.specs.Emits.{Writes}
use Rattle.runs.proofs.Emitted.{tested_seven, tested_written}
use Rattle.book.specs.decode.Rows.{book_rows}
use Rattle.book.proofs.encode.BookHeld.{BookHeld, held-book}
use Rattle.area.proofs.load.Uses.{read_facts, read-rows, read-terms}
use Rattle.office.specs.read.Viewed.{Viewed}

-- An area that is not sound.
pub book_seven : (area out : List ℕ) → sound office area ≡ false → Writes (call_write office area out) 7 0 out
unfolding call_write
book_seven area out e = tested_seven _ area out e

-- An area that is, and what was read of it.
module _ {area rows names lines entries : List ℕ} (h : Viewed area rows names lines entries) where
  -- the rows hold its book
  pub read_held : (terms : ℕ) → terms ≡ word area 1 → BookHeld (term_words * office.max_terms) rows terms (state_of area office).book (state_of area office).bound
  unfolding book_rows
  read_held terms as_many =
      let r = h.read in
      record {
        formed = (read_facts r).formed;
        few = (read_facts r).few-terms;
        room = omega (arith, (read_facts r).few-terms);
        as_many = as_many ∙ read-terms r;
        written = read-rows r;
      }

  -- and what is emitted of them is written
  pub written-book : (terms : ℕ) → terms ≡ word area 1 → sound office area ≡ true → (out : List ℕ) {refusal written : ℕ} {out' : List ℕ}
      → Writes (emit (book_bytes (book_of rows terms)) [] out) refusal written out' → Writes (call_write office area out) refusal written out'
  unfolding call_write
  written-book terms as_many e out w = tested_written _ area out e (rw (← held-book (read_held terms as_many)) w)
