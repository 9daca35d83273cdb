-- Unfolding that ends for every term ends at the number of terms. Assumes nothing.
use mathlib.Core.Path.{◌≡◌, refl}
use mathlib.Core.Bool.{Bool, true, false, not, ◌&&◌}
use mathlib.Core.Option.{Option, none, some}
use Prim.Native.Nat.{ℕ, zero, suc, ◌≤◌, ◌<◌}
use native.Mathlib.Nat.{zero-add}
use native.Mathlib.Decide.{dec_lt}
use native.Mathlib.Omega.{arith}
use lib.ListN.{length, get_or}
use lib.Dec.{T, leb, T_not, not_T, leb→le, nleb→lt}
use Rattle.model.specs.Lists.{first, from}
use Rattle.model.specs.Term.{Node, var, app, arguments, Book, Bindings, ends_step, ends}
use Rattle.theory.proofs.Lists.Laws.{all-at, all_intro, and_left, and_right, and_both, first_holds, first-least, length_from, get_or-from}
use Rattle.theory.proofs.Lists.Pigeonhole.{distinct-values}
use Rattle.theory.proofs.Soundness.Facts.{Formed}
use Rattle.theory.proofs.Values.Equations.{ends_more}

-- the lowest number below n that passes, or n
unfoldable pub lowest : (ℕ → Bool) → ℕ → ℕ
lowest p n = first p (from 0 n)

-- it passes where it is below n, and it is below n where any number there passes
pub lowest-holds : (p : ℕ → Bool) (n : ℕ) → lowest p n < n → T (p (lowest p n))
unfolding lowest
lowest-holds p n l =
    rw (get_or-from 0 n (first p (from 0 n)) 0 l, zero-add) at (first_holds p (from 0 n) 0 (rw length_from l))

pub lowest-lt : (p : ℕ → Bool) (n i : ℕ) → i < n → T (p i) → lowest p n < n
unfolding lowest
lowest-lt p n i l h =
    omega (arith, first-least p (from 0 n) 0 i (rw length_from l) (rw (get_or-from 0 n i 0 l, zero-add) h))

-- a step ends where it ended before, if the terms below do
ends_step_mono : (n : ℕ) (p q : ℕ → Bool) → ((u : ℕ) → u < n → T (p u) → T (q u))
    → (x : Node) (o : Option ℕ) → ((i : ℕ) → i < length (arguments x) → get_or (arguments x) i 0 < n) → ((u : ℕ) → o ≡ some u → u < n)
    → T (ends_step p x o) → T (ends_step q x o)
unfolding ends_step arguments
ends_step_mono n p q h var none below bound e = tt
ends_step_mono n p q h var (some u) below bound e = h u (bound u refl) e
ends_step_mono n p q h (app s args) o below bound e = all_intro q args 0 (λ i l. h (get_or args i 0) (below i l) (all-at p args 0 e i l))

module _ (b : Book) (β : Bindings) (formed : Formed b β) where
  -- the arguments of a term are terms
  pub argument-lt : (t : ℕ) → t < length b → (i : ℕ) → i < length (arguments (get_or b t var)) → get_or (arguments (get_or b t var)) i 0 < length b
  argument-lt t l i k = omega (arith, formed.lower t l i k)

  -- where one more step gives no further term, no number of steps does
  ends_back : (j : ℕ) → ((t : ℕ) → t < length b → T (ends b β (suc j) t) → T (ends b β j t))
      → (k t : ℕ) → t < length b → T (ends b β k t) → T (ends b β j t)
  unfolding ends
  ends_back j stable zero t l e = absurd e
  ends_back j stable (suc k) t l e =
      stable t l
      (ends_step_mono (length b) (ends b β k) (ends b β j) (ends_back j stable k) (get_or b t var) (get_or β t none)
      (argument-lt t l) (λ u q. (formed.bound-var t u q).1) e)

  -- whether t ends at suc k and not before, and the lowest such term
  new : ℕ → ℕ → Bool
  new k t = ends b β (suc k) t && not (ends b β k t)

  fresh : ℕ → ℕ
  fresh k = lowest (new k) (length b)

  -- such terms of different k are different
  fresh_distinct : (i j : ℕ) → i < j → fresh i < length b → fresh j < length b → fresh i ≡ fresh j → ⊥
  unfolding new fresh
  fresh_distinct i j h p q e =
      T_not (ends b β j (fresh j)) (and_right (ends b β (suc j) (fresh j)) (not (ends b β j (fresh j))) (lowest-holds (new j) (length b) q))
      (rw e at
      (ends_more b β (suc i) j (fresh i) h
      (and_left (ends b β (suc i) (fresh i)) (not (ends b β i (fresh i))) (lowest-holds (new i) (length b) p))))

  -- where there is none, one more step gives no further term
  fresh_none : (j : ℕ) → length b ≤ fresh j → (t : ℕ) → t < length b → T (ends b β (suc j) t) → T (ends b β j t)
  unfolding new fresh
  fresh_none j h t l e = go (ends b β j t) refl
    where
      go : (c : Bool) → ends b β j t ≡ c → T (ends b β j t)
      go true q = rw q tt
      go false q =
          absurd (omega (arith, lowest-lt (new j) (length b) t l (and_both (ends b β (suc j) t) (not (ends b β j t)) e (rw q tt))))

  -- whether there is none at j: so it is at some j up to the number of terms, or there were too many terms
  still : ℕ → Bool
  still j = leb (length b) (fresh j)

  still-lt : Dec (lowest still (suc (length b)) < suc (length b)) → lowest still (suc (length b)) < suc (length b)
  unfolding still
  still-lt (yes h) = h
  still-lt (no h) =
      absurd (omega (arith, distinct-values (suc (length b)) (length b) fresh fits (λ i j l k. fresh_distinct i j l (fits i (omega arith)) (fits j k))))
    where
      fits : (i : ℕ) → i < suc (length b) → fresh i < length b
      fits i l = nleb→lt (length b) (fresh i) (not_T (leb (length b) (fresh i)) (λ p. h (lowest-lt still (suc (length b)) i l p)))

  -- a term that ends ends within as many steps as there are terms
  pub ends-length : (k t : ℕ) → t < length b → T (ends b β k t) → T (ends b β (length b) t)
  unfolding still
  ends-length k t l e =
      let j : ℕ = lowest still (suc (length b)) in
      let h : j < suc (length b) = still-lt (dec_lt j (suc (length b))) in
      let none-new : length b ≤ fresh j = leb→le (length b) (fresh j) (lowest-holds still (suc (length b)) h) in
      ends_more b β j (length b) t (omega arith) (ends_back j (fresh_none j none-new) k t l e)
