-- Parts of a list of bytes are bytes. Assumes nothing.
use mathlib.Core.List.{List, [], ◌∷◌, ◌++◌}
use Prim.Native.Nat.{ℕ, zero, suc}
use lib.ListN.{length, take, drop}
use lib.Seq.{drop-append_seam}
use lib.Dec.{T, ltb}
use Rattle.leb128.specs.Laws.{are_bytes}
use Rattle.theory.proofs.Lists.Laws.{and_left, and_right, and_both}

-- what is left of bytes are bytes
pub bytes_drop : (n : ℕ) (xs : List ℕ) → T (are_bytes xs) → T (are_bytes (drop n xs))
unfolding are_bytes
bytes_drop zero xs t = t
bytes_drop (suc n) [] t = t
bytes_drop (suc n) (x ∷ xs) t = bytes_drop n xs (and_right (ltb x 256) (are_bytes xs) t)

-- the first of bytes are bytes
pub bytes_take : (n : ℕ) (xs : List ℕ) → T (are_bytes xs) → T (are_bytes (take n xs))
unfolding are_bytes
bytes_take zero xs t = tt
bytes_take (suc n) [] t = tt
bytes_take (suc n) (x ∷ xs) t =
    and_both (ltb x 256) (are_bytes (take n xs)) (and_left (ltb x 256) (are_bytes xs) t)
    (bytes_take n xs (and_right (ltb x 256) (are_bytes xs) t))

-- what follows bytes is bytes
pub bytes_behind : (xs ys : List ℕ) → T (are_bytes (xs ++ ys)) → T (are_bytes ys)
bytes_behind xs ys h = rw (drop-append_seam xs ys) at (bytes_drop (length xs) (xs ++ ys) h)
