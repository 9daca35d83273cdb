-- How many numbers pass, and how many marks are m: bounds, and what a mark that is set changes. Assumes nothing.
use Rattle.std.proofs.Common.{◌≡◌, refl, ap, sym, ◌∙◌, List, Bool, true, false, cond, ⊎_elim, ℕ, zero, suc, ◌≤◌, ◌<◌, zero-le, suc-le-suc, le_of_suc-le-suc, not-suc-le-zero, eq-or-lt_of_le, arith, length, get_or, set, length-set, get_or-set_same, get_or-set_other, set-set, T, eqb, eqb→eq, eq-eqb, ne_eqb}
use Rattle.std.proofs.Math.Decide.{ℕ_discrete}
use Rattle.std.proofs.Math.Seq.{set-get_or}
use Rattle.std.proofs.Math.Dec.{eqb_refl}
use Rattle.theory.proofs.Lists.Laws.{T_true}
use Rattle.values.specs.order.Marking.{tally, marked}

-- one number more: bounds by its test
step-le : (a b : Bool) {m k : ℕ} → (T a → T b) → m ≤ k → cond a (suc m) m ≤ cond b (suc k) k
step-le true true f h = suc-le-suc h
step-le true false f h = absurd (f tt)
step-le false true f h = omega arith
step-le false false f h = h

step_most : (a : Bool) {m n : ℕ} → m ≤ n → cond a (suc m) m ≤ suc n
step_most true h = suc-le-suc h
step_most false h = omega arith

step-suc : (a : Bool) (m k : ℕ) → k ≡ suc m → cond a (suc k) k ≡ suc (cond a (suc m) m)
step-suc true m k e = ap suc e
step-suc false m k e = e

tally-le : (p q : ℕ → Bool) (n : ℕ) → ((t : ℕ) → t < n → T (p t) → T (q t)) → tally p n ≤ tally q n
unfolding tally
tally-le p q zero h = zero-le
tally-le p q (suc n) h = step-le (p n) (q n) (h n (omega arith)) (tally-le p q n (λ t l. h t (omega arith)))

tally_most : (p : ℕ → Bool) (n : ℕ) → tally p n ≤ n
unfolding tally
tally_most p zero = zero-le
tally_most p (suc n) = step_most (p n) (tally_most p n)

tally-none : (p : ℕ → Bool) (n : ℕ) → ((t : ℕ) → t < n → p t ≡ false) → tally p n ≡ 0
unfolding tally
tally-none p zero h = refl
tally-none p (suc n) h = rw (h n (omega arith)) (tally-none p n (λ t l. h t (omega arith)))

tally-all : (p : ℕ → Bool) (n : ℕ) → ((t : ℕ) → t < n → T (p t)) → tally p n ≡ n
unfolding tally
tally-all p zero h = refl
tally-all p (suc n) h = rw (T_true (p n) (h n (omega arith))) (ap suc (tally-all p n (λ t l. h t (omega arith))))

-- tests that agree on all numbers below n, or on all but t, which passes the second only
module _ (p q : ℕ → Bool) where
  tally-same : (n : ℕ) → ((t : ℕ) → t < n → p t ≡ q t) → tally q n ≡ tally p n
  unfolding tally
  tally-same zero h = refl
  tally-same (suc n) h = rw (h n (omega arith), tally-same n (λ t l. h t (omega arith)))

  tally-more : (t : ℕ) → p t ≡ false → q t ≡ true → ((u : ℕ) → (u ≡ t → ⊥) → p u ≡ q u) → (n : ℕ) → t < n
      → tally q n ≡ suc (tally p n)
  unfolding tally
  tally-more t e f h zero l = absurd (not-suc-le-zero l)
  tally-more t e f h (suc n) l =
      ⊎_elim (λ s. rw (← s, e, f) (ap suc (tally-same t (λ u k. h u (λ s. omega arith)))))
      (λ k. rw (h n (λ s. omega arith)) (step-suc (q n) (tally p n) (tally q n) (tally-more t e f h n k)))
      (eq-or-lt_of_le (le_of_suc-le-suc l))

-- a list in which a stands at i: what stands at u
pub data Stored (xs : List ℕ) (i a u : ℕ) : Type 0 where
  here : u ≡ i → get_or (set xs i a) u 0 ≡ a → Stored xs i a u
  there : (u ≡ i → ⊥) → get_or (set xs i a) u 0 ≡ get_or xs u 0 → Stored xs i a u

pub stored : (xs : List ℕ) (i a u : ℕ) → i < length xs → Stored xs i a u
stored xs i a u l = go (ℕ_discrete u i)
  where
    go : Dec (u ≡ i) → Stored xs i a u
    go (yes e) = here e (rw e (get_or-set_same xs i a 0 l))
    go (no e) = there e (get_or-set_other xs i u a 0 e)

-- marks
module _ (n m : ℕ) where
  pub marked-le : (xs ys : List ℕ) → ((t : ℕ) → t < n → get_or xs t 0 ≡ m → get_or ys t 0 ≡ m) → marked xs n m ≤ marked ys n m
  marked-le xs ys h =
      tally-le (λ t. eqb (get_or xs t 0) m) (λ t. eqb (get_or ys t 0) m) n
      (λ t l e. rw (h t l (eqb→eq (get_or xs t 0) m e)) (eqb_refl m))

  pub marked_most : (xs : List ℕ) → marked xs n m ≤ n
  marked_most xs = tally_most (λ t. eqb (get_or xs t 0) m) n

  pub marked-none : (xs : List ℕ) → ((t : ℕ) → t < n → get_or xs t 0 ≡ m → ⊥) → marked xs n m ≡ 0
  marked-none xs h = tally-none (λ t. eqb (get_or xs t 0) m) n (λ t l. ne_eqb (get_or xs t 0) m (h t l))

  pub marked_all : (xs : List ℕ) → ((t : ℕ) → t < n → get_or xs t 0 ≡ m) → marked xs n m ≡ n
  marked_all xs h = tally-all (λ t. eqb (get_or xs t 0) m) n (λ t l. rw (h t l) (eqb_refl m))

  -- one more is m
  pub marked_more : (xs : List ℕ) (t : ℕ) → t < n → n ≤ length xs → (get_or xs t 0 ≡ m → ⊥) → marked (set xs t m) n m ≡ suc (marked xs n m)
  marked_more xs t l fits h =
      tally-more (λ u. eqb (get_or xs u 0) m) (λ u. eqb (get_or (set xs t m) u 0) m) t (ne_eqb (get_or xs t 0) m h)
      (eq-eqb (get_or (set xs t m) t 0) m (get_or-set_same xs t m 0 (omega arith))) (λ u k. rw (get_or-set_other xs t u m 0 k)) n l

  module _ (xs : List ℕ) (t a : ℕ) (l : t < n) (fits : n ≤ length xs) (h : a ≡ m → ⊥) where
    -- with a in the place of m
    marked_other : marked (set xs t m) n m ≡ suc (marked (set xs t a) n m)
    marked_other =
        rw set-set at
        (marked_more (set xs t a) t l (rw length-set fits) (λ e. h (rw (get_or-set_same xs t a 0 (omega arith)) at e)))

    -- one fewer is m where the mark was m, and as many are where it was another
    pub marked_fewer : get_or xs t 0 ≡ m → marked xs n m ≡ suc (marked (set xs t a) n m)
    marked_fewer e = ap (λ (ys : List ℕ). marked ys n m) (rw e at (sym (set-get_or xs t 0))) ∙ marked_other

    pub marked_kept : (get_or xs t 0 ≡ m → ⊥) → marked (set xs t a) n m ≡ marked xs n m
    marked_kept g = omega (arith, marked_other, marked_more xs t l fits g)
