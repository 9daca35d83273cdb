-- Bytes put into an output, as a call answers it. Assumes nothing: these are definitions.
use Rattle.std.specs.Prelude.{◌≡◌, List, [], ◌∷◌, ℕ}
use Rattle.model.specs.Call.{Outcome}
use Rattle.model.specs.Archive.{Stored}

-- An outcome has this refusal, this number of bytes and this output.
abbrev pub Writes : Outcome → ℕ → ℕ → List ℕ → Type 0
Writes o refusal written out = (refusal ≡ o.refusal) × ((written ∷ [] ≡ o.numbers) × (out ≡ o.output))

-- And one that has two outputs, the second a list's.
abbrev pub WritesBoth : Stored → ℕ → ℕ → ℕ → List ℕ → List ℕ → Type 0
WritesBoth o refusal written listWritten out list =
    (refusal ≡ o.refusal) × ((written ∷ listWritten ∷ [] ≡ o.numbers) × ((out ≡ o.output) × (list ≡ o.list)))
