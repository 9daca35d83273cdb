-- Where the opening of a session is refused: the position of the part that is (docs/SPEC.md, "Sessions", on standard error).
-- Definitions, samples by computation, and statements of what is proved in proofs/fault/.
use Rattle.std.specs.Prelude.{◌≡◌, refl, List, [], ◌∷◌, map, cond, ℕ, ◌+◌, ◌-◌, ◌≤◌, ◌<◌, length, take, drop, leb, Result, Ok, Err}
use Rattle.leb128.specs.Number.{max_groups, max_number}
use Rattle.leb128.specs.Answer.{number_before, placed, read_at}
use Rattle.leb128.specs.declared.Number.{Number}
use Rattle.leb128.specs.declared.NumberError.{NumberError}
use Rattle.leb128.specs.declared.NumberError.TheVariants.{Cut, Invalid}
use Rattle.model.specs.Limits.{office, max_session, session_capacity}
use Rattle.model.specs.Area.{area_length}
use Rattle.model.specs.Computing.{computation}
use Rattle.refusal.specs.declared.Refusal.{Refusal}
use Rattle.refusal.specs.Numbers.{number_of}
use Rattle.book.specs.unread.Unread.{or_left, unread_terms, unread_book, read_to, RefusedAt}
use Rattle.session.specs.steps.Effects.{start}

-- By the length that was read: 0 where it is cut, not valid, or runs past the end of the input; else the position up to which the
-- book is read.
unfoldable pub book_fault : List ℕ → Result Number NumberError → ℕ
book_fault input (Ok r) = cond (leb r.value (length input - r.next)) (r.next + read_to office (take r.value (drop r.next input))) 0
book_fault input (Err e) = 0

-- The longest session's length where the input is longer; else by the number at its front.
unfoldable pub opening_fault : List ℕ → ℕ
opening_fault input = cond (leb (length input) max_session) (book_fault input (read_at max_groups max_number input 0)) max_session

-- In order: a length that is cut, one past the end, one not in shortest form; a term, bytes after the last term, the number of terms; and
-- two openings that are accepted, the second of a book of length 0.
pub fault_samples :
    map opening_fault
    ([] ∷ (5 ∷ 0 ∷ []) ∷ (128 ∷ 0 ∷ []) ∷ (4 ∷ 1 ∷ 1 ∷ 1 ∷ 0 ∷ []) ∷ (2 ∷ 0 ∷ 5 ∷ []) ∷ (3 ∷ 129 ∷ 8 ∷ 0 ∷ []) ∷ (1 ∷ 0 ∷ 5 ∷ []) ∷ (0 ∷ 5 ∷ []) ∷ []) ≡
    0 ∷ 0 ∷ 0 ∷ 2 ∷ 2 ∷ 1 ∷ 2 ∷ 1 ∷ []
unfolding computation placed read_at or_left unread_terms unread_book read_to book_fault opening_fault
fault_samples = refl

-- STATEMENTS. Of an opening that is accepted it is where the steps begin, the end of the book.
abbrev pub AcceptedFault : Type 0
AcceptedFault = (input area : List ℕ) (p : ℕ) → (start input area).answer ≡ Ok p → opening_fault input ≡ p

-- And of one that is refused with k, the part that is refused begins there: the first byte too many; the book's length, at the front,
-- where it is cut, not valid or past the end of the input; or the part of the book that is refused with k.
abbrev book_length : List ℕ → Result Number NumberError
book_length input = read_at max_groups max_number input 0

pub data FaultAt (input : List ℕ) (k : ℕ) : Type 0 where
  too_long : max_session < length input → k ≡ 4 → opening_fault input ≡ max_session → FaultAt input k
  length_cut : book_length input ≡ Err Cut → k ≡ 1 → opening_fault input ≡ 0 → FaultAt input k
  length-invalid : book_length input ≡ Err Invalid → k ≡ 2 → opening_fault input ≡ 0 → FaultAt input k
  length_past_end : (n at : ℕ) → book_length input ≡ number_before n at → length input - at < n → k ≡ 1 → opening_fault input ≡ 0 → FaultAt input k
  book-refused : (n at : ℕ) → book_length input ≡ number_before n at → n ≤ length input - at → RefusedAt office (take n (drop at input)) k
      → opening_fault input ≡ at + read_to office (take n (drop at input)) → FaultAt input k

-- The area has the length that the session's capacity needs.
abbrev pub RefusedFault : Type 0
RefusedFault = (input area : List ℕ) (e : Refusal) → area_length office session_capacity ≤ length area → (start input area).answer ≡ Err e
    → FaultAt input (number_of e)
