-- The numbers of the refusals tell them (specs/Numbers.antt). Assumes nothing.
use Rattle.std.proofs.Common.{arith, ◌≡◌, refl, ℕ}
use Rattle.refusal.specs.declared.Refusal.{Refusal}
use Rattle.refusal.specs.declared.Refusal.TheVariants.{Cut, BadNumber, LeftOver, OutOfRange, NotLower, NotSound, NamesNothing, NotFree, Occurs, Full, TooManyLines, TooShort, NamedTwice}
use Rattle.refusal.specs.Numbers.{number_of, refusal_of, NumbersTell, NoneIsZero}

pub numbers_tell : NumbersTell
unfolding refusal_of
numbers_tell Cut = refl
numbers_tell BadNumber = refl
numbers_tell LeftOver = refl
numbers_tell OutOfRange = refl
numbers_tell NotLower = refl
numbers_tell NotSound = refl
numbers_tell NamesNothing = refl
numbers_tell NotFree = refl
numbers_tell Occurs = refl
numbers_tell Full = refl
numbers_tell TooManyLines = refl
numbers_tell TooShort = refl
numbers_tell NamedTwice = refl

pub none_is_zero : NoneIsZero
none_is_zero Cut e = omega arith
none_is_zero BadNumber e = omega arith
none_is_zero LeftOver e = omega arith
none_is_zero OutOfRange e = omega arith
none_is_zero NotLower e = omega arith
none_is_zero NotSound e = omega arith
none_is_zero NamesNothing e = omega arith
none_is_zero NotFree e = omega arith
none_is_zero Occurs e = omega arith
none_is_zero Full e = omega arith
none_is_zero TooManyLines e = omega arith
none_is_zero TooShort e = omega arith
none_is_zero NamedTwice e = omega arith

-- The refusal whose number is n is the one that n tells.
pub told : (r : Refusal) (n : ℕ) → number_of r ≡ n → refusal_of n ≡ r
told r n e = rw (← e) (numbers_tell r)
