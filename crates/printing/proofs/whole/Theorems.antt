-- The statements of specs/whole/Whole.antt, proved: the session on bytes is the session. Assumes nothing.
use mathlib.Core.Path.{◌≡◌, refl, ap, sym, ◌∙◌}
use mathlib.Core.List.{List, [], ◌∷◌}
use mathlib.Core.Bool.{Bool, true, false, not, cond}
use Prim.Native.Nat.{ℕ, suc, ◌+◌, ◌-◌, ◌≤◌, ◌<◌}
use native.Mathlib.Omega.{arith}
use lib.ListN.{length, take, drop, length-drop}
use lib.Seq.{drop-drop, take_all, length-take-le}
use lib.Dec.{T, eqb, leb}
use borrow.Author.Tests.{lt-leb, leb-true, leb-false}
use Rattle.leb128.specs.Number.{max_groups, max_number}
use Rattle.leb128.specs.Answer.{read_at}
use Rattle.leb128.specs.declared.Number.{Number}
use Rattle.leb128.specs.declared.NumberError.{NumberError}
use Rattle.leb128.specs.declared.NumberError.TheVariants.{Cut, Invalid}
use Rattle.std.specs.Prelude.{Result, Ok, Err}
use Rattle.refusal.specs.declared.Refusal.TheVariants.{Cut as CutShort, OutOfRange}
use Rattle.model.specs.Limits.{office, max_session, session_capacity}
use Rattle.model.specs.Term.{Book}
use Rattle.model.specs.Step.{State, opened}
use Rattle.model.specs.BookBytes.{Parsed, parsed, unparsed, parse_number, parse_book}
use Rattle.model.specs.Area.{area_length, area_bytes}
use Rattle.model.specs.Call.{refuse, accept, over, open_parsed}
use Rattle.model.specs.Session as Model
use Rattle.model.specs.Session.{Printed, begin, with_length, session}
use Rattle.theory.specs.Lengths.{longest_session_report}
use Rattle.theory.proofs.Soundness.Facts.{SoundFacts}
use Rattle.theory.proofs.Area.Bytes.{over_carries}
use Rattle.theory.proofs.Book.Round.{opened-sound}
use Rattle.theory.proofs.Book.Opening.{book-refused, book_positive, opens_by_book}
use Rattle.book.proofs.reader.Below.{number_of as read_of, number_read}
use Rattle.session.proofs.steps.Told.{book_told}
use Rattle.session.specs.steps.Effects.{Start, not_begun, begun, open_book, start}
use Rattle.session.specs.steps.Lines.{opening_line_by, opening_line}
use Rattle.printing.specs.whole.Whole.{after_opening, all_steps, session_on_bytes, SessionOnBytes, CutTooLong}
use Rattle.printing.proofs.whole.Progress.{steps_enough}
use Rattle.printing.proofs.whole.Steps.{Carries, same-steps}
pub use Rattle.printing.proofs.whole.Progress.{steps_go_on, one_by_one}

-- a refusal is not 0
positive_refusal : (n : ℕ) → T (not (eqb n 0)) → eqb n 0 ≡ false
positive_refusal n h = go (eqb n 0) h
  where
    go : (t : Bool) → T (not t) → t ≡ false
    go true h = absurd h
    go false h = refl

module _ (input area out : List ℕ) (long : area_length office session_capacity ≤ length area) (room : longest_session_report ≤ length out) where
  -- what an opening prints, and the steps after it
  abbrev shown : Start → Printed
  shown t = opening_line t.answer ∷ after_opening t.answer (λ at. all_steps input at t.area out)

  -- by what the book's bytes give
  same-parsed : (book : List ℕ) (at : ℕ) (p : Parsed Book) → parse_book office book ≡ p
      → begin p (drop at input) ≡ shown (begun at (open_parsed office session_capacity area p))
  unfolding begin begun open_parsed accept refuse opening_line_by after_opening all_steps opened
  same-parsed book at (parsed b rest) e =
      let s : State = opened b session_capacity in
      let f : SoundFacts office s = opened-sound office book b rest session_capacity (omega arith) (omega arith) e in
      let held : Carries s (over (area_bytes office s) area) out =
      record { lives = record { facts = f; carries = over_carries office s area f long }; capacity = refl; room = room } in
      ap (λ x. (0 ∷ []) ∷ x)
      (same-steps input (length (drop at input)) at s (over (area_bytes office s) area) out held ∙
      steps_enough input (length (drop at input)) (length input) at _ out (omega (arith, length-drop at input)) (omega arith))
  same-parsed book at (unparsed n) e =
      rw (positive_refusal n (rw e at (book_positive office book)), book_told n (rw e at (book-refused office book))) refl

  -- by the length that was read
  same-book : (d : Result Number NumberError) → Model.or_stop (read_of input d) with_length ≡ shown (open_book input area d)
  unfolding Model.or_stop with_length open_book not_begun opening_line_by after_opening
  same-book (Ok r) =
      let book : List ℕ = take n (drop at input) in
      rw (length-drop, drop-drop, opens_by_book office session_capacity book area (omega arith, omega arith, long)) (go (leb n (length input - at)))
    where
      n : ℕ
      n = r.value

      at : ℕ
      at = r.next

      go : (t : Bool) → cond t (begin (parse_book office (take n (drop at input))) (drop (at + n) input)) ((1 ∷ []) ∷ []) ≡
          shown (cond t (begun (at + n) (open_parsed office session_capacity area (parse_book office (take n (drop at input))))) (not_begun area CutShort))
      go true = same-parsed (take n (drop at input)) (at + n) (parse_book office (take n (drop at input))) refl
      go false = refl
  same-book (Err Cut) = refl
  same-book (Err Invalid) = refl

pub session_on_bytes_lem : SessionOnBytes
unfolding session_on_bytes session start not_begun opening_line_by after_opening
session_on_bytes_lem input area out long room = sym (go (leb (length input) max_session))
  where
    go : (t : Bool) → cond t (Model.or_stop (parse_number input) with_length) ((4 ∷ []) ∷ []) ≡
        shown input area out long room (cond t (open_book input area (read_at max_groups max_number input 0)) (not_begun area OutOfRange))
    go true =
        ap (λ p. Model.or_stop p with_length) (number_read input 0) ∙
        same-book input area out long room (read_at max_groups max_number input 0)
    go false = refl

-- a session that is too long prints 4
too_long : (input : List ℕ) → max_session < length input → session input ≡ (4 ∷ []) ∷ []
unfolding session
too_long input h = rw (lt-leb (length input) max_session h)

pub cut_too_long : CutTooLong
cut_too_long input = go (leb (length input) max_session) refl
  where
    go : (t : Bool) → leb (length input) max_session ≡ t → session (take (suc max_session) input) ≡ session input
    go true e = ap session (take_all (suc max_session) input (omega (arith, leb-true (length input) max_session e)))
    go false e =
        let long : max_session < length input = leb-false (length input) max_session e in
        let cut : length (take (suc max_session) input) ≡ suc max_session = length-take-le (suc max_session) input long in
        too_long (take (suc max_session) input) (omega (arith, cut)) ∙ sym (too_long input long)
