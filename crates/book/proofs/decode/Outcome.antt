-- A decoder's outcome, from its refusal. Assumes nothing.
use Rattle.std.proofs.Common.{◌≡◌, refl, List, ℕ}
use Rattle.model.specs.Limits.{Limits}
use Rattle.model.specs.Term.{Book}
use Rattle.model.specs.BookBytes.{Parsed, parsed, unparsed, parse_book}
use Rattle.theory.proofs.Book.Opening.{Positive, book_positive}
use Rattle.book.specs.decode.Rows.{decoded_refusal, decoded_book}

-- without a refusal it has a book
pub outcome_decoded : (p : Parsed Book) → Positive p → decoded_refusal p ≡ 0 → (rest : List ℕ) × (p ≡ parsed (decoded_book p) rest)
unfolding decoded_refusal decoded_book
outcome_decoded (parsed b rest) h g = (rest, refl)
outcome_decoded (unparsed n) h g = absurd (rw g at h)

-- with a refusal it is that refusal
pub outcome-refused : (p : Parsed Book) → (decoded_refusal p ≡ 0 → ⊥) → p ≡ unparsed (decoded_refusal p)
unfolding decoded_refusal
outcome-refused (parsed b rest) h = absurd (h refl)
outcome-refused (unparsed n) h = refl

-- of a book's bytes
pub decoded : (lim : Limits) (bytes : List ℕ) → decoded_refusal (parse_book lim bytes) ≡ 0
    → (rest : List ℕ) × (parse_book lim bytes ≡ parsed (decoded_book (parse_book lim bytes)) rest)
decoded lim bytes h = outcome_decoded (parse_book lim bytes) (book_positive lim bytes) h

pub not_decoded : (lim : Limits) (bytes : List ℕ) → (decoded_refusal (parse_book lim bytes) ≡ 0 → ⊥)
    → parse_book lim bytes ≡ unparsed (decoded_refusal (parse_book lim bytes))
not_decoded lim bytes h = outcome-refused (parse_book lim bytes) h
