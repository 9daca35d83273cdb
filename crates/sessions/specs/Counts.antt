-- A number that counts the first bytes of a buffer.
use Rattle.std.specs.Prelude.{◌≡◌, ℕ, ◌≤◌, List, length, take}
use Rattle.std.specs.Borrow.{MutBor}
use Rattle.session.specs.said.Said.{said_most}

-- `&xs[..n]` is in bounds and has n bytes. The second part follows from the first, and spares a caller's `&buf[..n]` a proof file.
abbrev pub IsPrefixLen : ℕ → List ℕ → Type 0
IsPrefixLen n xs = (n ≤ length xs) × (n ≡ length (take n xs))

-- What can be called with a line of the longest length, and gives a number that counts its first bytes.
abbrev pub SaysLine : {F : Type 0} → (F → MutBor (List ℕ) → Type 0) → (F → MutBor (List ℕ) → ℕ → MutBor (List ℕ) → Type 0) → F → Type 0
SaysLine pre post say =
    ((line : MutBor (List ℕ)) → said_most ≤ length line.now → pre say line)
    × ((line : MutBor (List ℕ)) (n : ℕ) (line' : MutBor (List ℕ)) → post say line n line' → n ≤ length line'.now)
