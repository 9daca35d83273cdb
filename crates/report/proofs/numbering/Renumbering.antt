-- The new numbers of a list of entries, put to the front of a slice one after the other: one number more. Assumes nothing.
use Rattle.std.proofs.Common.{◌≡◌, List, [], ◌∷◌, ◌++◌, map, ℕ, ◌+◌, ◌≤◌, ◌<◌, length, take, drop, get_or, append_assoc, arith}
use Rattle.std.proofs.Math.ListN.{set, length-map}
use Rattle.std.proofs.Math.Seq.{length-take-le, set-append_seam}
use Rattle.std.proofs.lemmas.List.{map_more, drop_more}

-- a number behind what is put
put-more : (xs out : List ℕ) (j v : ℕ) → length xs ≡ j → j < length out → set (xs ++ drop j out) j v ≡ (xs ++ v ∷ []) ++ drop (j + 1) out
put-more xs out j v e l = rw (drop_more out j 0 l, ← e, set-append_seam, append_assoc)

pub renumber_more : (f : ℕ → ℕ) (items out₀ out : List ℕ) (j v : ℕ) → length items ≤ length out₀ → j < length items
    → out ≡ map f (take j items) ++ drop j out₀ → v ≡ f (get_or items j 0) → set out j v ≡ map f (take (j + 1) items) ++ drop (j + 1) out₀
renumber_more f items out₀ out j v room l e g =
    let within : j ≤ length items = omega arith in
    rw (e, map_more f items j 0 l, g) (put-more (map f (take j items)) out₀ j _ (rw (length-map, length-take-le j items within)) (omega arith))
