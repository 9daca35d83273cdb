-- What opening answers and leaves at each return. Assumes nothing.
use Rattle.std.proofs.Common.{◌≡◌, refl, ap, sym, ◌∙◌, List, [], ◌∷◌, ℕ, ◌+◌, ◌-◌, ◌≤◌, ◌<◌, arith, length, take, drop, Result, Ok, Err, le-leb}
use borrow.Author.Tests.{lt-leb, ne_eqb}
use Rattle.leb128.specs.Number.{max_groups, max_number}
use Rattle.leb128.specs.Answer.{read_at}
use Rattle.leb128.specs.declared.Number.{Number}
use Rattle.leb128.specs.declared.NumberError.{NumberError}
use Rattle.model.specs.Limits.{office, max_session, session_capacity}
use Rattle.model.specs.Call.{Outcome, call_open}
use Rattle.refusal.specs.declared.Refusal.{Refusal}
use Rattle.refusal.specs.declared.Refusal.TheVariants.{Cut, OutOfRange}
use Rattle.refusal.specs.Numbers.{number_of, refused_number}
use Rattle.refusal.proofs.Numbers.{none_is_zero, told as told_by}
use Rattle.session.specs.steps.Effects.{Start, not_begun, begun, open_book, start}
use Rattle.session.specs.steps.Lines.{opening_line, start_refusal}
use Rattle.session.proofs.steps.Lines.{start-line}

-- the answer and the area are those of the opening s
abbrev pub Opens : Result ℕ Refusal → List ℕ → Start → Type 0
Opens r end s = (r ≡ s.answer) × (end ≡ s.area)

-- by what the call of the book answers
begun_accepted : (at : ℕ) (o : Outcome) {end : List ℕ} → 0 ≡ o.refusal → end ≡ o.area → Opens (Ok at) end (begun at o)
unfolding begun
begun_accepted at o e a = rw (sym e) (refl, a)

begun_refused : (at : ℕ) (o : Outcome) {end : List ℕ} (r : Refusal) → number_of r ≡ o.refusal → end ≡ o.area → Opens (Err r) end (begun at o)
unfolding begun
begun_refused at o r e a = rw (ne_eqb o.refusal 0 (λ z. none_is_zero r (e ∙ z)), told_by r o.refusal e) (refl, a)

module _ (input area : List ℕ) where
  -- all that is promised of an opening
  abbrev pub Told : Result ℕ Refusal → List ℕ → Type 0
  Told r end = let s = start input area in let refusal = start_refusal input area in record { answer : r ≡ s.answer; area : end ≡ s.area; numbers : opening_line r ≡ refusal ∷ [] }

  told : {r : Result ℕ Refusal} {end : List ℕ} → Opens r end (start input area) → Told r end
  told o = record { answer = o.0; area = o.1; numbers = ap opening_line o.0 ∙ start-line input area }

  -- a session that is too long
  pub too_long : max_session < length input → Told (Err OutOfRange) area
  unfolding start not_begun
  too_long h = told (rw (lt-leb (length input) max_session h) (refl, refl))

  -- any other is decided by the number at its front
  module _ (short : length input ≤ max_session) where
    by_length : {d : Result Number NumberError} → d ≡ read_at max_groups max_number input 0 → start input area ≡ open_book input area d
    unfolding start
    by_length e = rw (le-leb (length input) max_session short, ← e) refl

    -- which is none
    pub no_length : {e : NumberError} → Err e ≡ read_at max_groups max_number input 0 → Told (Err (refused_number e)) area
    unfolding open_book not_begun
    no_length e = told (rw (by_length e) (refl, refl))

    module _ {x : Number} (e : Ok x ≡ read_at max_groups max_number input 0) where
      -- or is past the end
      pub past_end : length input - x.next < x.value → Told (Err Cut) area
      unfolding open_book not_begun
      past_end h = told (rw (by_length e, lt-leb x.value (length input - x.next) h) (refl, refl))

      -- or is that of the book
      module _ (fits : x.value ≤ length input - x.next) where
        abbrev pub outcome : Outcome
        outcome = call_open office session_capacity (take (x.next + x.value - x.next) (drop x.next input)) area

        by_book : start input area ≡ begun (x.next + x.value) outcome
        unfolding open_book
        by_book =
            let n : x.next + x.value - x.next ≡ x.value = omega arith in
            rw (by_length e, le-leb x.value (length input - x.next) fits, n) refl

        pub refused : {end : List ℕ} (r : Refusal) → number_of r ≡ outcome.refusal → end ≡ outcome.area → Told (Err r) end
        refused r q a = told (rw by_book (begun_refused (x.next + x.value) outcome r q a))

        pub accepted : {end : List ℕ} → 0 ≡ outcome.refusal → end ≡ outcome.area → Told (Ok (x.next + x.value)) end
        accepted q a = told (rw by_book (begun_accepted (x.next + x.value) outcome q a))
