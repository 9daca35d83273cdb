-- Distinct numbers below n are at most n. Assumes nothing.
use mathlib.Core.Path.{◌≡◌, refl}
use mathlib.Core.Bool.{Bool, true, false, cond}
use mathlib.Core.List.{List}
use Prim.Native.Nat.{ℕ, zero, suc, ◌≤◌, ◌<◌, zero-le, suc-le-suc}
use native.Mathlib.Omega.{arith}
use lib.ListN.{length, get_or}
use lib.Dec.{eqb}
use borrow.Author.Tests.{eqb-true, eqb-false}

-- y in the place of n, every other number as it is
moved : ℕ → ℕ → ℕ → ℕ
moved n y x = cond (eqb x n) y x

-- what moved gives, by the outcome of its test
data Moved (n y x : ℕ) : Type 0 where
  top : x ≡ n → moved n y x ≡ y → Moved n y x
  kept : (x ≡ n → ⊥) → moved n y x ≡ x → Moved n y x

moved_cases : (n y x : ℕ) → Moved n y x
unfolding moved
moved_cases n y x = go (eqb x n) refl
  where
    go : (c : Bool) → eqb x n ≡ c → Moved n y x
    go true e = top (eqb-true x n e) (rw e)
    go false e = kept (eqb-false x n e) (rw e)

-- numbers up to n other than y move below n
moved-lt : (n y x : ℕ) → y < suc n → x < suc n → (x ≡ y → ⊥) → moved n y x < n
moved-lt n y x p q h = go (moved_cases n y x)
  where
    go : Moved n y x → moved n y x < n
    go (top e a) = omega arith
    go (kept e a) = omega arith

-- and stay distinct
moved-distinct : (n y x z : ℕ) → (x ≡ y → ⊥) → (z ≡ y → ⊥) → moved n y x ≡ moved n y z → x ≡ z
moved-distinct n y x z h g e = go (moved_cases n y x) (moved_cases n y z)
  where
    go : Moved n y x → Moved n y z → x ≡ z
    go (top p a) (top q c) = cc
    go (top p a) (kept q c) = absurd (g (cc))
    go (kept p a) (top q c) = absurd (h (cc))
    go (kept p a) (kept q c) = cc

-- m distinct values below n: m is at most n
pub distinct-values : (m n : ℕ) (f : ℕ → ℕ) → ((i : ℕ) → i < m → f i < n)
    → ((i j : ℕ) → i < j → j < m → f i ≡ f j → ⊥) → m ≤ n
distinct-values zero n f h g = zero-le
distinct-values (suc m) zero f h g = omega (arith, h 0 (suc-le-suc zero-le))
distinct-values (suc m) (suc n) f h g =
    suc-le-suc
    (distinct-values m n (λ i. moved n (f m) (f i))
    (λ i l. moved-lt n (f m) (f i) (h m (omega arith)) (h i (omega arith)) (g i m l (omega arith)))
    (λ i j l k e. g i j l (omega arith)
    (moved-distinct n (f m) (f i) (f j) (g i m (omega arith) (omega arith)) (g j m k (omega arith)) e)))

pub pigeonhole : (xs : List ℕ) (n : ℕ) → ((i : ℕ) → i < length xs → get_or xs i 0 < n)
    → ((i j : ℕ) → i < j → j < length xs → get_or xs i 0 ≡ get_or xs j 0 → ⊥) → length xs ≤ n
pigeonhole xs n h g = distinct-values (length xs) n (λ i. get_or xs i 0) h g
