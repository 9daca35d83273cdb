-- The digits of a number are those that std prints. How many there are. Assumes nothing.
use Rattle.std.proofs.Common.{◌≡◌, ap, sym, ◌∙◌, [], ◌∷◌, ◌++◌, ℕ, zero, suc, ◌+◌, ◌*◌, ◌^◌, ◌/◌, ◌%◌, ◌≤◌, ◌<◌, arith, length}
use Rattle.std.proofs.Math.Nat.{pow-suc}
use Rattle.std.proofs.lemmas.List.{length-append}
use Rattle.leb128.proofs.Groups.{by_test}
use Rattle.std.proofs.lemmas.Fmt.{AppendsLastDigit, decimal_from_appends, length-decimal-le}
use Rattle.std.specs.Fmt.{decimal as printed}
use borrow.Author.Tests.{lt-ltb, le-ltb}
use Rattle.session.specs.text.Text.{zero_digit, digits, max_digits, decimal}

-- the numbers of 32 bits
abbrev pub Word : ℕ → Type 0
Word n = n < 4294967296

last_behind : AppendsLastDigit digits
unfolding digits
last_behind = record { one = λ k n h. rw (lt-ltb n 10 h); more = λ k n h. rw (le-ltb n 10 h) }

pub decimal-printed : (n : ℕ) → Word n → decimal n ≡ printed n
unfolding decimal
decimal-printed n w =
    decimal_from_appends digits last_behind max_digits n (omega arith) (length-decimal-le max_digits n (omega arith) (omega arith) (omega arith))

-- a tenth is below a power less
tenth : (k n : ℕ) → n < 10 ^ suc k → n / 10 < 10 ^ k
tenth k n h = let e : 10 ^ suc k ≡ 10 ^ k * 10 = pow-suc 10 k in omega arith

-- places that are not needed change nothing
pub digits_enough : (k n : ℕ) → n < 10 ^ suc k → digits (suc (suc k)) n ≡ digits (suc k) n
digits_enough zero n h = last_behind.one 1 n h ∙ sym (last_behind.one 0 n h)
digits_enough (suc k) n h =
    by_test n 10 (λ b. last_behind.one (suc (suc k)) n b ∙ sym (last_behind.one (suc k) n b))
    (λ b. last_behind.more (suc (suc k)) n b ∙ ap (λ xs. xs ++ (zero_digit + n % 10) ∷ []) (digits_enough k (n / 10) (tenth (suc k) n h)) ∙
    sym (last_behind.more (suc k) n b))

-- a number below a power of ten has at most as many digits
pub digits_short : (k j n : ℕ) → n < 10 ^ suc j → length (digits k n) ≤ suc j
unfolding digits
digits_short zero j n h = omega arith
digits_short (suc k) zero n h = rw (last_behind.one k n h) (omega arith)
digits_short (suc k) (suc j) n h =
    by_test n 10 (λ b. rw (last_behind.one k n b) (omega arith))
    (λ b. rw (last_behind.more k n b, length-append) (omega (arith, digits_short k j (n / 10) (tenth (suc j) n h))))

-- how many digits a number of 32 bits, and one of 16 bits, have
pub decimal_short : (n : ℕ) → Word n → length (decimal n) ≤ max_digits
unfolding decimal
decimal_short n w = digits_short max_digits 9 n (omega arith)

pub small_short : (n : ℕ) → n < 100000 → length (decimal n) ≤ 5
unfolding decimal
small_short n w = digits_short max_digits 4 n (omega arith)
