-- An opening that is refused is refused where its fault is, part by part; and a fault is within the longest session. Assumes nothing.
use mathlib.Core.Path.{◌≡◌, refl, sym, ap, ◌∙◌}
use mathlib.Core.List.{List}
use mathlib.Core.Bool.{Bool, true, false, cond}
use Prim.Native.Nat.{ℕ, ◌+◌, ◌-◌, ◌≤◌}
use native.Mathlib.Omega.{arith}
use lib.ListN.{length, take, drop, length-take, length-drop}
use lib.Dec.{eqb, leb}
use borrow.Author.Tests.{le-leb, leb-true, leb-false}
use Rattle.leb128.specs.Number.{max_groups, max_number}
use Rattle.leb128.specs.Answer.{number_before, read_at}
use Rattle.leb128.specs.declared.Number.{Number}
use Rattle.leb128.specs.declared.NumberError.{NumberError}
use Rattle.leb128.specs.declared.NumberError.TheVariants.{Cut, Invalid}
use Rattle.std.specs.Prelude.{Result, Ok, Err}
use Rattle.refusal.specs.declared.Refusal.{Refusal}
use Rattle.refusal.specs.Numbers.{number_of, refusal_of}
use Rattle.refusal.specs.declared.Refusal.TheVariants.{Cut as CutShort, OutOfRange}
use Rattle.model.specs.Limits.{office, max_session, session_capacity}
use Rattle.model.specs.Term.{Book}
use Rattle.model.specs.BookBytes.{Parsed, parsed, unparsed, parse_book}
use Rattle.model.specs.Area.{area_length}
use Rattle.model.specs.Call.{accept, refuse, open_parsed, call_open}
use Rattle.theory.proofs.Book.Opening.{RefusedBy, of_book, book-refused as book_range, opens_by_book}
use Rattle.book.specs.unread.Unread.{unread_book, read_to}
use Rattle.book.proofs.unread.Unread.{refused-there}
use Rattle.session.specs.steps.Effects.{not_begun, begun, open_book, start}
use Rattle.session.specs.fault.Fault.{book_fault, opening_fault, FaultAt, too_long, length_cut, length-invalid, length_past_end, book-refused, RefusedFault}
use Rattle.session.proofs.text.Numbers.{number_ahead}
use Rattle.session.proofs.steps.Told.{book_told}
use Rattle.session.proofs.fault.Accepted.{not-begun}

-- of one refusal there is one number
same-refusal : {j k : Refusal} → ◌≡◌ {A = Result ℕ Refusal} (Err j) (Err k) → number_of j ≡ number_of k
same-refusal {j} {k} e = let same : j ≡ k = cc in ap number_of same

module _ (area : List ℕ) (room : area_length office session_capacity ≤ length area) (k : Refusal) where
  -- a book whose opening is refused is one that does not parse
  unopened : (at : ℕ) (p : Parsed Book) → RefusedBy of_book p → (begun at (open_parsed office session_capacity area p)).answer ≡ Err k
      → p ≡ unparsed (number_of k)
  unfolding begun open_parsed accept refuse
  unopened at (parsed b rest) q = λ h. absurd (not-begun (sym h))
  unopened at (unparsed n) q = go (eqb n 0)
    where
      go : (t : Bool) → cond t (Ok at) (Err (refusal_of n)) ≡ Err k → ◌≡◌ {A = Parsed Book} (unparsed n) (unparsed (number_of k))
      go true h = absurd (not-begun (sym h))
      go false h = ap unparsed (sym (book_told n q) ∙ same-refusal h)

  module _ (input : List ℕ) where
    -- by the length that was read
    module _ (short : length input ≤ max_session) where
      by_book : (d : Result Number NumberError) → read_at max_groups max_number input 0 ≡ d → opening_fault input ≡ book_fault input d
      unfolding opening_fault
      by_book d e = rw (le-leb (length input) max_session short, e)

      book_faulted : (d : Result Number NumberError) → read_at max_groups max_number input 0 ≡ d → (open_book input area d).answer ≡ Err k
          → FaultAt input (number_of k)
      unfolding open_book not_begun book_fault
      book_faulted (Ok r) e = go (leb r.value (length input - r.next)) refl
        where
          n : ℕ
          n = r.value

          at : ℕ
          at = r.next

          go : (t : Bool) → leb n (length input - at) ≡ t → let book = take n (drop at input) in
              (cond t (begun (at + n) (call_open office session_capacity book area)) (not_begun area CutShort)).answer ≡ Err k → FaultAt input (number_of k)
          go true fits h =
              let book = take n (drop at input) in
              let p = unopened (at + n) (parse_book office book) (book_range office book) (rw (opens_by_book office session_capacity book area (omega arith, omega arith, room)) at h) in
              let q : opening_fault input ≡ at + read_to office book = by_book (Ok r) e ∙ rw fits in
              book-refused n at e (leb-true n (length input - at) fits) (refused-there office book (number_of k) p) q
          go false fits h =
              let q : opening_fault input ≡ 0 = by_book (Ok r) e ∙ rw fits in
              length_past_end n at e (leb-false n (length input - at) fits) (sym (same-refusal h)) q
      book_faulted (Err Cut) e = λ h. length_cut e (sym (same-refusal h)) (by_book (Err Cut) e)
      book_faulted (Err Invalid) e = λ h. length-invalid e (sym (same-refusal h)) (by_book (Err Invalid) e)

    -- a session that is too long
    long_faulted : leb (length input) max_session ≡ false → opening_fault input ≡ max_session
    unfolding opening_fault
    long_faulted e = rw e

    opening_faulted : (start input area).answer ≡ Err k → FaultAt input (number_of k)
    unfolding start not_begun
    opening_faulted = go (leb (length input) max_session) refl
      where
        go : (t : Bool) → leb (length input) max_session ≡ t → let d = read_at max_groups max_number input 0 in
            (cond t (open_book input area d) (not_begun area OutOfRange)).answer ≡ Err k → FaultAt input (number_of k)
        go true e h = book_faulted (leb-true (length input) max_session e) (read_at max_groups max_number input 0) refl h
        go false e h = too_long (leb-false (length input) max_session e) (sym (same-refusal h)) (long_faulted e)

pub refused_fault : RefusedFault
refused_fault input area k room = opening_faulted area room k input

-- HOW FAR a fault can be.
module _ (input : List ℕ) where
  book-within : (n at : ℕ) → at ≤ length input → book_fault input (number_before n at) ≤ length input
  unfolding book_fault read_to
  book-within n at h = go (leb n (length input - at))
    where
      book : List ℕ
      book = take n (drop at input)

      short : length book ≤ length input - at
      short = rw (length-take, length-drop) (omega arith)

      go : (t : Bool) → cond t (at + (length book - length (unread_book office book))) 0 ≤ length input
      go true = omega (arith, h, short)
      go false = omega arith

  length-within : (d : Result Number NumberError) → read_at max_groups max_number input 0 ≡ d → book_fault input d ≤ length input
  unfolding book_fault
  length-within (Ok r) e = book-within r.value r.next (number_ahead input 0 (sym e)).1
  length-within (Err x) e = omega arith

  opening-within : opening_fault input ≤ max_session
  unfolding opening_fault
  opening-within = go (leb (length input) max_session) refl
    where
      go : (t : Bool) → leb (length input) max_session ≡ t
          → cond t (book_fault input (read_at max_groups max_number input 0)) max_session ≤ max_session
      go true e = omega (arith, length-within (read_at max_groups max_number input 0) refl, leb-true (length input) max_session e)
      go false e = omega arith

pub fault_within : (input : List ℕ) {r : ℕ} → r ≡ opening_fault input → r ≤ max_session
fault_within input e = omega (arith, e, opening-within input)
