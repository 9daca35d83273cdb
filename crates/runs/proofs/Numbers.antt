-- Numbers as bytes: one number more, and bounds on the length. Assumes nothing.
use Rattle.std.proofs.Common.{◌≡◌, refl, ap, List, [], ◌∷◌, ◌++◌, append-nil, ℕ, ◌+◌, ◌*◌, ◌-◌, ◌≤◌, ◌<◌, zero-le, min, add-one, arith, length, get_or, take, drop, length-append, length-drop, length-take, take-append-drop, take-suc, get_or-take, get_or-drop, leb, leb→le}
use Rattle.leb128.specs.Number.{max_groups, max_number, write}
use Rattle.leb128.proofs.Laws.{writes_bytes}
use Rattle.model.specs.Lists.{concat_map}
use Rattle.model.specs.Report.{number_bytes}
use Rattle.theory.proofs.Lists.Laws.{concat_map-append, all-at, all_intro}
use Rattle.runs.specs.Runs.{small_words}

-- the bytes of numbers put together
pub numbers-append : (ms ns : List ℕ) → number_bytes (ms ++ ns) ≡ number_bytes ms ++ number_bytes ns
unfolding number_bytes
numbers-append ms ns = concat_map-append (write max_groups) ms ns

-- the bytes of a single number
numbers-one : (n : ℕ) → number_bytes (n ∷ []) ≡ write max_groups n
unfolding number_bytes concat_map
numbers-one n = append-nil (write max_groups n)

-- a number in front
pub numbers-first : (n : ℕ) (ns : List ℕ) → number_bytes (n ∷ ns) ≡ write max_groups n ++ number_bytes ns
unfolding number_bytes concat_map
numbers-first n ns = refl

-- a number takes at most three bytes
pub length-write : (n : ℕ) → length (write max_groups n) ≤ max_groups
length-write n = (writes_bytes max_groups n).1

-- a number takes at most three bytes
pub length-numbers : (ns : List ℕ) → length (number_bytes ns) ≤ max_groups * length ns
unfolding number_bytes concat_map
length-numbers [] = zero-le
length-numbers (n ∷ ns) = rw length-append (omega (arith, length-write n, length-numbers ns))

-- a word of small words is within the limit
pub small-word : (words : List ℕ) (i : ℕ) → small_words words → i < length words → get_or words i 0 ≤ max_number
unfolding small_words
small-word words i h l = leb→le (get_or words i 0) max_number (all-at (λ w. leb w max_number) words 0 h i l)

-- a part of small words is small words
pub small_part : (rows : List ℕ) (start n : ℕ) → small_words rows → small_words (take n (drop start rows))
unfolding small_words
small_part rows start n h =
    all_intro (λ w. leb w max_number) (take n (drop start rows)) 0 (λ i l.
    let few : i < min n (length rows - start) = rw (length-take, length-drop) at l in
    rw (get_or-take n (drop start rows) i 0 (omega arith), get_or-drop) (all-at (λ w. leb w max_number) rows 0 h (start + i) (omega arith)))

-- no words have no bytes
pub numbers-none : number_bytes [] ≡ []
unfolding number_bytes concat_map
numbers-none = refl

module _ (words : List ℕ) (i : ℕ) where
  -- one word more
  pub numbers-more : i < length words → number_bytes (take (i + 1) words) ≡ number_bytes (take i words) ++ write max_groups (get_or words i 0)
  numbers-more l = rw (add-one, take-suc words i 0 l, numbers-append, numbers-one)

  pub length-numbers-more : i < length words
      → length (number_bytes (take (i + 1) words)) ≡ length (number_bytes (take i words)) + length (write max_groups (get_or words i 0))
  length-numbers-more l = rw (numbers-more l, length-append)

  -- the first i words take at most 3 * i bytes, and no more than all
  pub length-part : length (number_bytes (take i words)) ≤ max_groups * i
  length-part = omega (arith, length-numbers (take i words), length-take i words)

  pub numbers-grow : length (number_bytes (take i words)) ≤ length (number_bytes words)
  numbers-grow =
      let whole = ap (λ ns. length (number_bytes ns)) (take-append-drop i words) in
      omega (arith, rw (numbers-append, length-append) at whole)
