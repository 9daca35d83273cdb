-- What reading and writing promise each other, for any number of groups and any limit that these groups hold.
-- Statements only: the proofs stand in proofs/Laws.antt.
use Rattle.std.specs.Prelude.{◌≡◌, List, [], ◌∷◌, ◌++◌, Bool, true, ◌&&◌, ◌⊎◌, ℕ, ◌-◌, ◌^◌, ◌≤◌, ◌<◌, T, ltb, length, drop}
use Rattle.leb128.specs.Number.{number, cut, read, write}

-- every element is a byte
unfoldable pub are_bytes : List ℕ → Bool
are_bytes [] = true
are_bytes (x ∷ xs) = ltb x 256 && are_bytes xs

-- Reading what was written gives the number and what follows it, where there is a group at all.
abbrev pub ReadsWhatIsWritten : Type 0
ReadsWhatIsWritten =
    (k limit n : ℕ) (rest : List ℕ) → 0 < k → limit < 128 ^ k → n ≤ limit → read k limit (write k n ++ rest) ≡ number n rest

-- Whatever reads as a number is what writing that number gives, followed by the rest: only the shortest form is valid.
abbrev pub OnlyTheShortest : Type 0
OnlyTheShortest =
    (k limit : ℕ) (bytes : List ℕ) (n : ℕ) (rest : List ℕ) → T (are_bytes bytes) → read k limit bytes ≡ number n rest → bytes ≡ write k n ++ rest

-- A number that was read is not above the limit.
abbrev pub WithinTheLimit : Type 0
WithinTheLimit = (k limit : ℕ) (bytes : List ℕ) (n : ℕ) (rest : List ℕ) → read k limit bytes ≡ number n rest → n ≤ limit

-- What follows a number is a later part of the bytes: their tail of its length, after one byte at least.
abbrev pub RestIsATail : Type 0
RestIsATail = (k limit : ℕ) (bytes : List ℕ) (n : ℕ) (rest : List ℕ)
    → read k limit bytes ≡ number n rest → (length rest < length bytes) × (drop (length bytes - length rest) bytes ≡ rest)

-- Where bytes read as a number, a front of them reads as this number too, with so much of the rest behind it as lies in that front, or ends
-- too early.
abbrev pub FrontsOfNumbers : Type 0
FrontsOfNumbers = (k limit : ℕ) (front tail : List ℕ) (n : ℕ) (rest : List ℕ) → read k limit (front ++ tail) ≡ number n rest
    → ((left : List ℕ) × (rest ≡ left ++ tail) × (read k limit front ≡ number n left)) ⊎ (read k limit front ≡ cut)

-- A number's bytes are bytes, at least one and at most k.
abbrev pub WritesBytes : Type 0
WritesBytes = (k n : ℕ) → T (are_bytes (write k n)) × (length (write k n) ≤ k) × (0 < k → 0 < length (write k n))
