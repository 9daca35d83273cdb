-- Words that are 0: as a limit, and as the places behind numbers that are padded with zeros. Assumes nothing.
use Rattle.std.proofs.Common.{◌≡◌, refl, ap, ap₂, List, [], ◌∷◌, Bool, true, false, ◌&&◌, ℕ, zero, suc, ◌+◌, ◌-◌, ◌<◌, ◌≤◌, add-one, arith, le-ltb, eq-eqb, length, get_or, take, drop, replicate, length-drop, drop_of_length-le, eqb, ltb, leb, take-take, take_all, drop-cons}
use Rattle.std.proofs.Math.Bool.{and-true, and-false}
use Rattle.std.proofs.Math.Nat.{suc-sub-suc, sub-zero}
use Rattle.std.proofs.Math.Dec.{leb-zero, eqb-zero-suc}
use Rattle.model.specs.Lists.{all, is_empty, eq_numbers, padded}
use Rattle.theory.proofs.Lists.Laws.{eqb-sym, all_alike}
use Rattle.soundness.specs.rows.RowTests.{zero_from}
use Rattle.soundness.proofs.rows.Parts.{part, run, length_run, run_behind}

-- a number below 1 is 0
below_one : (w : ℕ) → ltb w 1 ≡ eqb 0 w
below_one zero = refl
below_one (suc w) = rw (le-ltb (suc w) 1 (omega arith), eqb-zero-suc)

pub zeros-below-one : (words : List ℕ) → all (λ w. ltb w 1) words ≡ all (eqb 0) words
zeros-below-one words = all_alike _ _ below_one words

-- A loop over the words from a place on, of which z says whether those before place k are 0 and t whether all are: the next is 0,
-- it is not, or there is none left.
module _ (words : List ℕ) (k : ℕ) (z t : Bool) where
  next : k < length words → zero_from words k ≡ eqb 0 (get_or words k 0) && zero_from words (k + 1)
  unfolding zero_from all
  next l = rw (add-one, drop-cons words k 0 l)

  pub one-is : k < length words → eqb 0 (get_or words k 0) ≡ true → z && zero_from words k ≡ t → z && zero_from words (k + 1) ≡ t
  one-is l e h = rw (next l, e) at h

  pub one-is-not : k < length words → eqb 0 (get_or words k 0) ≡ false → z && zero_from words k ≡ t → false && zero_from words (k + 1) ≡ t
  one-is-not l e h = rw (next l, e, and-false) at h

  pub none_left : length words ≤ k → z && zero_from words k ≡ t → z ≡ t
  unfolding zero_from all
  none_left l h = rw (drop_of_length-le words l, and-true) at h

-- the words from a place on, as a slice of their own
pub zeros-behind : (words : List ℕ) (i : ℕ) → zero_from (part words i (length words)) 0 ≡ zero_from words i
unfolding zero_from
zeros-behind words i = ap (all (eqb 0)) (take_all (length words - i) (drop i words) (rw length-drop (omega arith)))

-- numbers that are zeros
zeros : (xs : List ℕ) → eq_numbers xs (replicate (length xs) 0) ≡ all (eqb 0) xs
unfolding eq_numbers is_empty all
zeros [] = refl
zeros (x ∷ xs) = ap₂ ◌&&◌ (eqb-sym x 0) (zeros xs)

-- numbers are their first c, padded with zeros, exactly when those behind are 0
pub padded-first : (c : ℕ) (xs : List ℕ) → eq_numbers xs (padded (length xs) (take c xs)) ≡ all (eqb 0) (drop c xs)
unfolding eq_numbers is_empty padded all
padded-first zero xs = rw sub-zero (zeros xs)
padded-first (suc c) [] = refl
padded-first (suc c) (x ∷ xs) = rw (suc-sub-suc, eq-eqb x x refl) (padded-first c xs)

-- a count within its limit of n, as a row has it, and the first c of n places padded with zeros: the places behind are 0
pub places_behind : (words : List ℕ) (a n c : ℕ) → a + n ≤ length words → c ≤ n →
    let xs = take c (drop a words) in
    eqb c (length xs) && eq_numbers (take n (drop a words)) (padded n xs) ≡ all (eqb 0) (part words (a + c) (a + n))
places_behind words a n c h l =
    let ys = take n (drop a words) in
    let whole : length ys ≡ n = length_run words a n h in
    let first : take c ys ≡ take c (drop a words) = take-take c n (drop a words) l in
    let zeros-behind : eq_numbers ys (padded n (take c ys)) ≡ all (eqb 0) (drop c ys) = rw whole at (padded-first c ys) in
    rw (length_run words a c (omega arith), eq-eqb c c refl) (rw (first, run_behind) at zeros-behind)

-- a run of zeros
pub run-zeros : (words : List ℕ) (a n : ℕ) → a + n ≤ length words
    → eq_numbers (take n (drop a words)) (padded n []) ≡ all (eqb 0) (part words a (a + n))
run-zeros words a n h = rw run (rw (length_run words a n h) at (padded-first 0 (take n (drop a words))))

-- a count that is tested to be 0, among other tests, is within every limit
pub no_count : (a : Bool) (c n : ℕ) (b : Bool) → leb c n && (a && (eqb 0 c && b)) ≡ a && (eqb 0 c && b)
no_count false c n b = and-false (leb c n)
no_count true zero n b = rw (leb-zero n)
no_count true (suc c) n b = rw (eqb-zero-suc, and-false)
