-- What a function gives from a number on, one number after the other: its elements and its parts. Assumes nothing.
use mathlib.Core.Path.{◌≡◌, sym, ◌∙◌}
use mathlib.Core.List.{◌++◌, map}
use mathlib.Core.Bool.{Bool}
use mathlib.Core.Logic.{◌↔◌}
use Prim.Native.Nat.{ℕ, zero, suc, ◌+◌, ◌-◌, ◌≤◌, ◌<◌}
use native.Mathlib.Nat.{add-zero, zero-add, suc-add, add-suc, le_of_suc-le-suc, not-suc-le-zero}
use native.Mathlib.Omega.{arith}
use lib.ListN.{length, get_or, take, drop, length-map}
use lib.Seq.{take_at, drop_at}
use lib.Dec.{T}
use Rattle.model.specs.Lists.{all, from}
use Rattle.theory.proofs.Lists.Laws.{all-at, all_intro, length_from}
use Rattle.theory.proofs.Lists.Rows.{map-from}

module _ {A : Type 0} (f : ℕ → A) where
  -- as many as were asked for, the one at j being that of i + j
  pub length-map-from : (i n : ℕ) → length (map f (from i n)) ≡ n
  length-map-from i n = rw (length-map, length_from)

  pub get_or-map-from : (i n j : ℕ) (d : A) → j < n → get_or (map f (from i n)) j d ≡ f (i + j)
  unfolding from
  get_or-map-from i zero j d h = absurd (not-suc-le-zero h)
  get_or-map-from i (suc n) zero d h = rw add-zero
  get_or-map-from i (suc n) (suc j) d h = rw (add-suc, ← suc-add) (get_or-map-from (suc i) n j d (le_of_suc-le-suc h))

  -- two runs, one after the other
  pub map-from-append : (i m n : ℕ) → map f (from i (m + n)) ≡ map f (from i m) ++ map f (from (i + m) n)
  unfolding from
  map-from-append i zero n = rw (zero-add, add-zero)
  map-from-append i (suc m) n = rw (suc-add, map-from-append (suc i) m n, suc-add, add-suc)

  -- c of them, behind the first j
  pub part_map-from : (i n j c : ℕ) → j + c ≤ n → take c (drop j (map f (from i n))) ≡ map f (from (i + j) c)
  part_map-from i n j c h =
      let e : n ≡ j + (c + (n - (j + c))) = omega arith in
      rw (
        e,
        map-from-append i j (c + (n - (j + c))),
        drop_at (map f (from i j)) (map f (from (i + j) (c + (n - (j + c))))) j (length-map-from i j),
        map-from-append (i + j) c (n - (j + c)),
      )
      (take_at (map f (from (i + j) c)) _ c (length-map-from (i + j) c))

  -- all of them pass exactly when each does
  pub all-map-from : (p : A → Bool) (n : ℕ) → T (all p (map f (from 0 n))) ↔ ((i : ℕ) → i < n → T (p (f i)))
  all-map-from p n = (
    λ h i l. rw (get_or-map-from 0 n i (f 0) l, zero-add) at (all-at p (map f (from 0 n)) (f 0) h i (rw (length-map-from 0 n) l)),
    λ h. all_intro p (map f (from 0 n)) (f 0) (λ i l.
        let k : i < n = rw (length-map-from 0 n) at l in
        rw (get_or-map-from 0 n i (f 0) k, zero-add) (h i k)),
  )

-- two functions that give the same
pub map-from-same : {A : Type 0} (f g : ℕ → A) (d : A) (i n : ℕ) → ((j : ℕ) → j < n → f (i + j) ≡ g (i + j)) → map f (from i n) ≡ map g (from i n)
map-from-same f g d i n h =
    rw (length-map-from g i n) at
    (map-from f i (map g (from i n)) d (λ j l.
    let k : j < n = rw (length-map-from g i n) at l in
    h j k ∙ sym (get_or-map-from g i n j d k)))
