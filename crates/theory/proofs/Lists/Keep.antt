-- The elements that pass a test, in their order; of n numbers from k on, they rise. Assumes nothing.
use mathlib.Core.Path.{◌≡◌, refl, ap}
use mathlib.Core.List.{List, [], ◌∷◌, ◌++◌}
use mathlib.Core.Bool.{Bool, true, false, not, cond}
use Prim.Native.Nat.{ℕ, zero, suc, ◌+◌, ◌≤◌, ◌<◌}
use native.Mathlib.Nat.{zero-add, le_of_suc-le-suc, not-suc-le-zero}
use native.Mathlib.Omega.{arith}
use lib.ListN.{length, get_or}
use lib.Dec.{T}
use Rattle.model.specs.Lists.{keep, from}
use Rattle.theory.proofs.Lists.Laws.{true_T, from-append}

module _ {A : Type 0} (p : A → Bool) where
  -- each of them passes
  pub keep-holds : (xs : List A) (d : A) (i : ℕ) → i < length (keep p xs) → T (p (get_or (keep p xs) i d))
  unfolding keep
  keep-holds [] d i l = absurd (not-suc-le-zero l)
  keep-holds (x ∷ xs) d i l = go (keep-holds xs d) (p x) refl i l
    where
      go : ((i : ℕ) → i < length (keep p xs) → T (p (get_or (keep p xs) i d)))
          → (b : Bool) → p x ≡ b → (i : ℕ) → i < length (cond b (x ∷ keep p xs) (keep p xs)) → T (p (get_or (cond b (x ∷ keep p xs) (keep p xs)) i d))
      go h true e zero l = true_T (p x) e
      go h true e (suc i) l = h i (le_of_suc-le-suc l)
      go h false e i l = h i l

  -- those that pass and those that do not are all
  pub keep-count : (xs : List A) → length (keep p xs) + length (keep (λ x. not (p x)) xs) ≡ length xs
  unfolding keep
  keep-count [] = refl
  keep-count (x ∷ xs) = go (keep-count xs) (p x)
    where
      go : length (keep p xs) + length (keep (λ x. not (p x)) xs) ≡ length xs → (b : Bool) → length (cond b (x ∷ keep p xs) (keep p xs)) +
          length (cond (not b) (x ∷ keep (λ x. not (p x)) xs) (keep (λ x. not (p x)) xs)) ≡ suc (length xs)
      go h true = omega arith
      go h false = omega arith

-- of numbers from k on
module _ (p : ℕ → Bool) where
  pub keep_range : (k n i : ℕ) → i < length (keep p (from k n)) → (k ≤ get_or (keep p (from k n)) i 0) × (get_or (keep p (from k n)) i 0 < k + n)
  unfolding keep from
  keep_range k zero i l = absurd (not-suc-le-zero l)
  keep_range k (suc n) i l =
      go (λ i l. let r = keep_range (suc k) n i l in (omega (arith, r.0), omega (arith, r.1))) (p k) i l
    where
      go : ((i : ℕ) → i < length (keep p (from (suc k) n))
          → (k ≤ get_or (keep p (from (suc k) n)) i 0) × (get_or (keep p (from (suc k) n)) i 0 < k + suc n))
          → (b : Bool) (i : ℕ) → i < length (cond b (k ∷ keep p (from (suc k) n)) (keep p (from (suc k) n)))
          → (k ≤ get_or (cond b (k ∷ keep p (from (suc k) n)) (keep p (from (suc k) n))) i 0)
          × (get_or (cond b (k ∷ keep p (from (suc k) n)) (keep p (from (suc k) n))) i 0 < k + suc n)
      go h true zero l = (omega arith, omega arith)
      go h true (suc i) l = h i (le_of_suc-le-suc l)
      go h false i l = h i l

  pub keep_rising : (k n i j : ℕ) → i < j → j < length (keep p (from k n)) → get_or (keep p (from k n)) i 0 < get_or (keep p (from k n)) j 0
  unfolding keep from
  keep_rising k zero i j h l = absurd (not-suc-le-zero l)
  keep_rising k (suc n) i j h l = go (keep_rising (suc k) n) (p k) i j h l
    where
      go : ((i j : ℕ) → i < j → j < length (keep p (from (suc k) n)) → get_or (keep p (from (suc k) n)) i 0 < get_or (keep p (from (suc k) n)) j 0)
          → (b : Bool) (i j : ℕ) → i < j → j < length (cond b (k ∷ keep p (from (suc k) n)) (keep p (from (suc k) n)))
          → get_or (cond b (k ∷ keep p (from (suc k) n)) (keep p (from (suc k) n))) i 0 <
          get_or (cond b (k ∷ keep p (from (suc k) n)) (keep p (from (suc k) n))) j 0
      go r true i zero h l = absurd (not-suc-le-zero h)
      go r true zero (suc j) h l = (keep_range (suc k) n j (le_of_suc-le-suc l)).0
      go r true (suc i) (suc j) h l = r i j (le_of_suc-le-suc h) (le_of_suc-le-suc l)
      go r false i j h l = r i j h l

-- of lists one behind the other
pub keep_append : {A : Type 0} (p : A → Bool) (xs ys : List A) → keep p (xs ++ ys) ≡ keep p xs ++ keep p ys
unfolding keep
keep_append p [] ys = refl
keep_append p (x ∷ xs) ys = go (keep_append p xs ys) (p x)
  where
    go : keep p (xs ++ ys) ≡ keep p xs ++ keep p ys
        → (b : Bool) → cond b (x ∷ keep p (xs ++ ys)) (keep p (xs ++ ys)) ≡ cond b (x ∷ keep p xs) (keep p xs) ++ keep p ys
    go h true = ap (λ zs. x ∷ zs) h
    go h false = h

-- of numbers from 0 on, one number more
pub keep-more : (p : ℕ → Bool) (t : ℕ) → keep p (from 0 (t + 1)) ≡ keep p (from 0 t) ++ cond (p t) (t ∷ []) []
unfolding keep from
keep-more p t = rw (from-append 0 t 1, zero-add, keep_append p (from 0 t) (from t 1))

-- by two tests that say the same of the numbers from k on
pub keep_same : (p q : ℕ → Bool) (k n : ℕ) → ((i : ℕ) → k ≤ i → i < k + n → p i ≡ q i) → keep p (from k n) ≡ keep q (from k n)
unfolding keep from
keep_same p q k zero h = refl
keep_same p q k (suc n) h =
    rw (h k (omega arith) (omega arith), keep_same p q (suc k) n (λ i l m. h i (omega arith) (omega arith)))
