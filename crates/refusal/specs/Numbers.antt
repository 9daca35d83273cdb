-- Document 01's numbers of the refusals ("Turned down"), for each of them, and back. Assumes nothing: these are definitions.
use Rattle.std.specs.Prelude.{◌≡◌, cond, ℕ, eqb, Result, Ok, Err}
use Rattle.leb128.specs.declared.NumberError.{NumberError}
use Rattle.leb128.specs.declared.NumberError.TheVariants.{Cut as NumberCut, Invalid}
use Rattle.refusal.specs.declared.Refusal.{Refusal}
use Rattle.refusal.specs.declared.Refusal.TheVariants.{Cut, BadNumber, LeftOver, OutOfRange, NotLower, NotSound, NamesNothing, NotFree, Occurs, Full, TooManyLines, TooShort, NamedTwice}

abbrev pub number_of : Refusal → ℕ
number_of Cut = 1
number_of BadNumber = 2
number_of LeftOver = 3
number_of OutOfRange = 4
number_of NotLower = 5
number_of NotSound = 7
number_of NamesNothing = 8
number_of NotFree = 9
number_of Occurs = 10
number_of Full = 11
number_of TooManyLines = 12
number_of TooShort = 13
number_of NamedTwice = 14

-- The refusal that has a number. For a number that none has it does not matter which.
unfoldable pub refusal_of : ℕ → Refusal
refusal_of n =
    cond (eqb n 1) Cut (cond (eqb n 2) BadNumber (cond (eqb n 3) LeftOver (cond (eqb n 4) OutOfRange (cond (eqb n 5) NotLower
    (cond (eqb n 7) NotSound (cond (eqb n 8) NamesNothing (cond (eqb n 9) NotFree (cond (eqb n 10) Occurs (cond (eqb n 11) Full
    (cond (eqb n 12) TooManyLines (cond (eqb n 13) TooShort NamedTwice)))))))))))

-- The refusal of a number that is none.
abbrev pub refused_number : NumberError → Refusal
refused_number NumberCut = Cut
refused_number Invalid = BadNumber

-- The number of an answer, by the number of each refusal: 0 where nothing is refused.
abbrev pub number_by : {A E : Type 0} → (E → ℕ) → Result A E → ℕ
number_by of (Ok x) = 0
number_by of (Err e) = of e

abbrev pub number : {A : Type 0} → Result A Refusal → ℕ
number answer = number_by number_of answer

-- The count of an answer that has one: 0 where it is refused.
abbrev pub counted : Result ℕ Refusal → ℕ
counted (Ok n) = n
counted (Err r) = 0

-- STATEMENTS, proved in proofs/. The two ways are inverse on the refusals, so that a number tells its refusal; and none has 0.
abbrev pub NumbersTell : Type 0
NumbersTell = (r : Refusal) → refusal_of (number_of r) ≡ r

abbrev pub NoneIsZero : Type 0
NoneIsZero = (r : Refusal) → number_of r ≡ 0 → ⊥
