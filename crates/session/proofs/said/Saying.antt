-- The line of a position and a refusal, part by part: which refusals have no words, how long words are, and the whole line. Assumes
-- nothing.
use mathlib.Core.Path.{◌≡◌}
use mathlib.Core.List.{List, [], ◌∷◌, ◌++◌}
use mathlib.Core.Bool.{Bool, true, false, cond}
use Prim.Native.Nat.{ℕ, ◌≤◌}
use native.Mathlib.Omega.{arith}
use borrow.Author.Tests.{ne_eqb}
use lib.ListN.{length, drop}
use lib.Dec.{eqb}
use Rattle.session.specs.declared.text.Writer.{Writer}
use Rattle.session.specs.text.Writing.{Room, Puts}
use Rattle.session.proofs.text.Puts.{puts_more, puts_front}
use Rattle.session.specs.text.Text.{line_feed, max_digits, decimal}
use Rattle.session.specs.said.Said.{ascii, words, longest_words, said_line, said_most}
use Rattle.session.proofs.text.Digits.{Word, decimal_short}

-- a number that is none of those that have words
abbrev Not : ℕ → ℕ → Type 0
Not k n = k ≡ n → ⊥

pub no_words : (k : ℕ) → Not k 1 → Not k 2 → Not k 3 → Not k 4 → Not k 5 → Not k 8 → words k ≡ []
unfolding words
no_words k a b c d e f = rw (ne_eqb k 1 a, ne_eqb k 2 b, ne_eqb k 3 c, ne_eqb k 4 d, ne_eqb k 5 e, ne_eqb k 8 f)

either_short : (t : Bool) (xs ys : List ℕ) (n : ℕ) → length xs ≤ n → length ys ≤ n → length (cond t xs ys) ≤ n
either_short true xs ys n h l = h
either_short false xs ys n h l = l

pub words_short : (k : ℕ) → length (words k) ≤ longest_words
unfolding words ascii
words_short k =
    either_short (eqb k 1) _ _ longest_words (omega arith)
    (either_short (eqb k 2) _ _ longest_words (omega arith)
    (either_short (eqb k 3) _ _ longest_words (omega arith)
    (either_short (eqb k 4) _ _ longest_words (omega arith)
    (either_short (eqb k 5) _ _ longest_words (omega arith)
    (either_short (eqb k 8) _ _ longest_words (omega arith) (omega arith))))))

-- THE LINE, part by part.
pub said_front : (position k : ℕ) → Word position → Word k → {w w₁ w₂ w₃ w₄ w₅ w₆ w₇ : Writer} → w.at ≡ 0 → Room w said_most
    → Puts w w₁ (ascii "sessions: byte ") → Puts w₁ w₂ (decimal position) → Puts w₂ w₃ (ascii ": refused with ") → Puts w₃ w₄ (decimal k)
    → Puts w₄ w₅ (ascii ": ") → Puts w₅ w₆ (words k) → Puts w₆ w₇ (line_feed ∷ [])
    → (w₇.at ≡ length (said_line position k)) × (w₇.text.now ≡ said_line position k ++ drop w₇.at w.text.now)
unfolding said_line ascii
said_front position k wp wk {w} {w₁} {w₂} {w₃} {w₄} {w₅} {w₆} {w₇} e room p₁ p₂ p₃ p₄ p₅ p₆ p₇ =
    let d : length (decimal position) ≤ max_digits = decimal_short position wp in
    let d' : length (decimal k) ≤ max_digits = decimal_short k wk in
    let s : length (words k) ≤ longest_words = words_short k in
    let r₁ : Room w₁ 129 = omega (arith, p₁.next, p₁.kept) in
    let r₂ : Room w₂ 119 = omega (arith, p₂.next, p₂.kept) in
    let r₃ : Room w₃ 104 = omega (arith, p₃.next, p₃.kept) in
    let r₄ : Room w₄ 94 = omega (arith, p₄.next, p₄.kept) in
    let r₅ : Room w₅ 92 = omega (arith, p₅.next, p₅.kept) in
    puts_front e
    (puts_more (omega arith) p₁
    (puts_more (omega arith) p₂
    (puts_more (omega arith) p₃
    (puts_more (omega arith) p₄
    (puts_more (omega arith) p₅
    (puts_more (omega arith) p₆ p₇))))))
