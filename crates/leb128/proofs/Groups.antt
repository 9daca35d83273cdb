-- One group at a time: what the definitions of reading and writing say where the test of a byte or a number is known.
-- Assumes nothing.
use mathlib.Core.Path.{◌≡◌, refl}
use mathlib.Core.List.{List, [], ◌∷◌}
use mathlib.Core.Bool.{Bool, true, false}
use Prim.Native.Nat.{ℕ, suc, ◌+◌, ◌*◌, ◌-◌, ◌/◌, ◌%◌, ◌≤◌, ◌<◌}
use native.Mathlib.Numerals.{add-one}
use native.Mathlib.Omega.{arith}
use borrow.Author.Tests.{ltb-true, ltb-false, lt-ltb, le-ltb, le-leb, lt-leb, ne_eqb}
use lib.Dec.{ltb}
use lib.ListN.{length, get_or, drop, length-drop, drop_of_length-le}
use lib.Seq.{drop-cons}
use Rattle.leb128.specs.Number.{number, cut, invalid, write, prepend, read_groups, at_most}
use Rattle.leb128.specs.Answer.{number_before, placed}

-- A fact by cases on a test of two numbers.
pub by_test : {A : Type 0} (a b : ℕ) → (a < b → A) → (b ≤ a → A) → A
by_test {A} a b f g = go (ltb a b) refl
  where
    go : (t : Bool) → ltb a b ≡ t → A
    go true e = f (ltb-true a b e)
    go false e = g (ltb-false a b e)

module _ (k n : ℕ) where
  -- a number below 128 is one byte
  pub write_last : n < 128 → write (suc k) n ≡ n ∷ []
  unfolding write
  write_last h = rw (lt-ltb n 128 h, write)

  -- any other is its lowest group with 80 set, and the rest
  pub write-more : 128 ≤ n → write (suc k) n ≡ (128 + n % 128) ∷ write k (n / 128)
  unfolding write
  write-more h = rw (le-ltb n 128 h, write)

module _ (k x : ℕ) (xs : List ℕ) where
  -- a byte below 128 is the last
  pub read_last : x < 128 → read_groups (suc k) (x ∷ xs) ≡ number x xs
  unfolding read_groups
  read_last h = rw (lt-ltb x 128 h)

  -- any other stands before the rest
  pub read_more : 128 ≤ x → read_groups (suc k) (x ∷ xs) ≡ prepend (x - 128) (read_groups k xs)
  unfolding read_groups
  read_more h = rw (le-ltb x 128 h)

module _ (low high : ℕ) (rest : List ℕ) where
  -- before 0 no byte may stand
  pub prepend_zero : high ≡ 0 → prepend low (number high rest) ≡ invalid
  unfolding prepend
  prepend_zero h = rw h

  -- before any other it is the lowest group
  pub prepend-more : (high ≡ 0 → ⊥) → prepend low (number high rest) ≡ number (low + 128 * high) rest
  unfolding prepend
  prepend-more h = rw (ne_eqb high 0 h)

module _ (limit n : ℕ) (rest : List ℕ) where
  -- a number up to the limit stays
  pub within : n ≤ limit → at_most limit (number n rest) ≡ number n rest
  unfolding at_most
  within h = rw (le-leb n limit h)

  -- one above it is refused
  pub above : limit < n → at_most limit (number n rest) ≡ invalid
  unfolding at_most
  above h = rw (lt-leb n limit h)

module _ (k : ℕ) (s : List ℕ) (i : ℕ) where
  -- past the end the bytes end too early
  pub group_cut : length s ≤ i → read_groups (suc k) (drop i s) ≡ cut
  unfolding read_groups
  group_cut h = rw (drop_of_length-le s h)

  -- a byte below 128 at position i is the number
  pub group_last : i < length s → get_or s i 0 < 128 → read_groups (suc k) (drop i s) ≡ number (get_or s i 0) (drop (i + 1) s)
  group_last h b = rw (add-one, drop-cons s i 0 h) (read_last k _ _ b)

  -- any other byte there stands before what follows
  pub group_more : i < length s → 128 ≤ get_or s i 0 → read_groups (suc k) (drop i s) ≡ prepend (get_or s i 0 - 128) (read_groups k (drop (i + 1) s))
  group_more h b = rw (add-one, drop-cons s i 0 h) (read_more k _ _ b)

-- a number whose last byte stands at i ends at i + 1
pub placed-next : (s : List ℕ) (i n : ℕ) → i < length s → placed (length s) (number n (drop (i + 1) s)) ≡ number_before n (i + 1)
unfolding placed
placed-next s i n h =
    let e : length s - length (drop (i + 1) s) ≡ i + 1 = rw (length-drop (i + 1) s) (omega arith) in
    rw e
