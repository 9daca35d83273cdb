-- Parts of a list: from place a up to place e, the first of a run, and a run without its first places.
-- Assumes nothing.
use Rattle.std.proofs.Common.{◌≡◌, List, [], ◌∷◌, ℕ, zero, suc, ◌+◌, ◌-◌, ◌<◌, ◌≤◌, add-one, arith, length, get_or, take, drop, length-drop, drop-cons, drop-drop, length-take-le}
use Rattle.std.proofs.Math.Nat.{sub-zero, suc-sub-suc, zero-sub, add-sub_cancel_left}
use Rattle.std.proofs.Math.Seq.{take-nil}

module _ {A : Type 0} where
  -- the elements from place a up to place e
  abbrev pub part : List A → ℕ → ℕ → List A
  part xs a e = take (e - a) (drop a xs)

  -- a run of n from place i on
  pub run : (xs : List A) (i n : ℕ) → part xs i (i + n) ≡ take n (drop i xs)
  run xs i n = rw add-sub_cancel_left

  pub length_run : (xs : List A) (i n : ℕ) → i + n ≤ length xs → length (take n (drop i xs)) ≡ n
  length_run xs i n h = length-take-le n (drop i xs) (rw length-drop (omega arith))

  -- a run of one more: its first, and the others
  pub run-cons : (xs : List A) (i n : ℕ) (d : A) → i < length xs → take (suc n) (drop i xs) ≡ get_or xs i d ∷ take n (drop (i + 1) xs)
  run-cons xs i n d l = rw (add-one, drop-cons xs i d l)

  -- the first n without the first c
  drop-take : (c n : ℕ) (xs : List A) → drop c (take n xs) ≡ take (n - c) (drop c xs)
  drop-take zero n xs = rw sub-zero
  drop-take (suc c) zero xs = rw zero-sub
  drop-take (suc c) (suc n) [] = rw take-nil
  drop-take (suc c) (suc n) (x ∷ xs) = rw suc-sub-suc (drop-take c n xs)

  -- a run without its first c
  pub run_behind : (xs : List A) (i n c : ℕ) → drop c (take n (drop i xs)) ≡ part xs (i + c) (i + n)
  run_behind xs i n c =
      let e : i + n - (i + c) ≡ n - c = omega arith in
      rw (drop-take, drop-drop, e)
