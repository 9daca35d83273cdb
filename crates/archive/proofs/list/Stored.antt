-- Numbers stored over a whole slice, and over a part of one. Assumes nothing.
use Rattle.std.proofs.Common.{◌≡◌, sym, ◌∙◌, List, append-nil, append_assoc, ℕ, ◌+◌, ◌≤◌, arith, length, take, drop, drop_of_length-le, drop-drop}
use Rattle.std.proofs.Math.Seq.{sets, sets-eq}
use borrow.Rule.Slice.PartMut.{put_mid}

pub sets_whole : (xs ys : List ℕ) → length ys ≡ length xs → sets xs 0 ys ≡ ys
sets_whole xs ys e = sets-eq ys xs 0 (omega arith) ∙ rw (drop_of_length-le xs {i = 0 + length ys} (omega arith), append-nil)

pub put-sets : (a k : ℕ) (xs ys : List ℕ) → length ys ≡ k → a + k ≤ length xs → put_mid a k xs ys ≡ sets xs a ys
put-sets a k xs ys e l = rw (sets-eq ys xs a (omega arith), e, drop-drop) (sym (append_assoc (take a xs) ys (drop (a + k) xs)))
