-- A run of elements one by one, the word that four bytes make, and the four bytes of a word. Assumes nothing.
use Rattle.std.proofs.Common.{◌≡◌, sym, List, [], ◌∷◌, map, ℕ, ◌+◌, ◌*◌, ◌/◌, ◌%◌, ◌≤◌, zero-add, add-zero, arith, length, get_or, take, drop, length-drop, length-take-le, get_or-take, get_or-drop}
use Rattle.model.specs.Lists.{from}
use Rattle.model.specs.Area.{to_bytes, from_bytes}
use Rattle.theory.proofs.Lists.Rows.{map-from}

-- the elements of a list of n, one by one
pub every : (l : List ℕ) (n : ℕ) → length l ≡ n → map (λ j. get_or l j 0) (from 0 n) ≡ l
every l n e = rw e at (map-from (λ j. get_or l j 0) 0 l 0 (λ j b. rw zero-add))

-- the n elements from `at` on, one by one
pub each : (l : List ℕ) (at n : ℕ) → at + n ≤ length l → take n (drop at l) ≡ map (λ j. get_or l (at + j) 0) (from 0 n)
each l at n h =
    let xs = take n (drop at l) in
    let m : length xs ≡ n = length-take-le n (drop at l) (rw length-drop (omega arith)) in
    rw m at
    (sym (map-from (λ j. get_or l (at + j) 0) 0 xs 0 (λ j b. rw (zero-add, get_or-take n (drop at l) j 0 (omega arith), get_or-drop))))

-- the word that the four bytes at `at` make
pub word_of : (l : List ℕ) (at : ℕ) → at + 4 ≤ length l
    → get_or l at 0 + 256 * get_or l (at + 1) 0 + 65536 * get_or l (at + 2) 0 + 16777216 * get_or l (at + 3) 0 ≡ from_bytes (take 4 (drop at l))
unfolding from_bytes from
word_of l at h = rw (each l at 4 h, add-zero at) (omega arith)

-- the four bytes of a word
pub bytes_of : (w : ℕ) → w % 256 ∷ w / 256 % 256 ∷ w / 65536 % 256 ∷ w / 16777216 % 256 ∷ [] ≡ to_bytes 4 w
unfolding to_bytes
bytes_of w =
    let third : w / 256 / 256 ≡ w / 65536 = omega arith in
    let fourth : w / 65536 / 256 ≡ w / 16777216 = omega arith in
    rw (third, fourth)
