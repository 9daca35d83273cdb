-- The fault of an opening that is accepted is where the steps begin. Assumes nothing.
use mathlib.Core.Path.{◌≡◌, refl, ap, ◌∙◌}
use mathlib.Core.List.{List}
use mathlib.Core.Bool.{Bool, true, false, cond}
use Prim.Native.Nat.{ℕ, ◌+◌, ◌-◌, ◌≤◌}
use native.Mathlib.Omega.{arith}
use lib.ListN.{length, take, drop, length-take, length-drop}
use lib.Dec.{eqb, leb}
use borrow.Author.Tests.{eqb-true, leb-true}
use Rattle.leb128.specs.Number.{max_groups, max_number}
use Rattle.leb128.specs.Answer.{read_at}
use Rattle.leb128.specs.declared.Number.{Number}
use Rattle.leb128.specs.declared.NumberError.{NumberError}
use Rattle.std.specs.Prelude.{Result, Ok, Err}
use Rattle.refusal.specs.declared.Refusal.{Refusal}
use Rattle.refusal.specs.Numbers.{refusal_of}
use Rattle.refusal.specs.declared.Refusal.TheVariants.{Cut, OutOfRange}
use Rattle.model.specs.Limits.{office, max_session, session_capacity}
use Rattle.model.specs.Call.{Outcome, call_open}
use Rattle.theory.proofs.Book.Opening.{opens}
use Rattle.book.specs.unread.Unread.{read_to}
use Rattle.book.proofs.unread.Unread.{accepted-is-read}
use Rattle.session.specs.steps.Effects.{not_begun, begun, open_book, start}
use Rattle.session.specs.fault.Fault.{book_fault, opening_fault, AcceptedFault}

-- a refusal is not a position
pub not-begun : {e : Refusal} {p : ℕ} → ◌≡◌ {A = Result ℕ Refusal} (Err e) (Ok p) → ⊥
not-begun e = cc

-- an opening that is accepted is one whose call answers 0
begun-at : (at p : ℕ) (o : Outcome) → (begun at o).answer ≡ Ok p → (o.refusal ≡ 0) × (at ≡ p)
unfolding begun
begun-at at p o = go (eqb o.refusal 0) refl
  where
    go : (t : Bool) → eqb o.refusal 0 ≡ t → cond t (Ok at) (Err (refusal_of o.refusal)) ≡ Ok p → (o.refusal ≡ 0) × (at ≡ p)
    go true e h = (eqb-true o.refusal 0 e, cc)
    go false e h = absurd (not-begun h)

module _ (input area : List ℕ) (p : ℕ) where
  -- by the length that was read
  book-accepted : (d : Result Number NumberError) → (open_book input area d).answer ≡ Ok p → book_fault input d ≡ p
  unfolding open_book book_fault not_begun
  book-accepted (Ok r) = go (leb r.value (length input - r.next)) refl
    where
      n : ℕ
      n = r.value

      at : ℕ
      at = r.next

      go : (t : Bool) → leb n (length input - at) ≡ t → let book = take n (drop at input) in
          (cond t (begun (at + n) (call_open office session_capacity book area)) (not_begun area Cut)).answer ≡ Ok p
          → cond t (at + read_to office book) 0 ≡ p
      go true fits h =
          let book = take n (drop at input) in
          let b = begun-at (at + n) p (call_open office session_capacity book area) h in
          let o = opens office session_capacity book area b.0 in
          let fits' = leb-true n (length input - at) fits in
          let long : length book ≡ n = rw (length-take, length-drop) (omega arith) in
          ap (λ k. at + k) (accepted-is-read office book o.terms o.rest o.parses ∙ long) ∙ b.1
      go false fits h = absurd (not-begun h)
  book-accepted (Err e) = λ h. absurd (not-begun h)

  opening-accepted : (start input area).answer ≡ Ok p → opening_fault input ≡ p
  unfolding start opening_fault not_begun
  opening-accepted = go (leb (length input) max_session)
    where
      go : (t : Bool) → let d = read_at max_groups max_number input 0 in
          (cond t (open_book input area d) (not_begun area OutOfRange)).answer ≡ Ok p → cond t (book_fault input d) max_session ≡ p
      go true h = book-accepted (read_at max_groups max_number input 0) h
      go false h = absurd (not-begun h)

pub accepted_fault : AcceptedFault
accepted_fault = opening-accepted

-- such a session is not too long
pub accepted_short : (input area : List ℕ) (p : ℕ) → (start input area).answer ≡ Ok p → length input ≤ max_session
unfolding start not_begun
accepted_short input area p = go (leb (length input) max_session) refl
  where
    go : (t : Bool) → leb (length input) max_session ≡ t
        → (cond t (open_book input area (read_at max_groups max_number input 0)) (not_begun area OutOfRange)).answer ≡ Ok p → length input ≤ max_session
    go true e h = leb-true (length input) max_session e
    go false e h = absurd (not-begun h)
