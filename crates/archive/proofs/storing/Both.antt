-- Two outputs: either too short, or both written. Assumes nothing.
use Rattle.std.proofs.Common.{◌≡◌, refl, List, ◌++◌, ℕ, ◌≤◌, ◌<◌, length, drop, le-leb}
use mathlib.Core.Bool.{and-false}
use borrow.Author.Tests.{lt-leb}
use Rattle.model.specs.Call.{over}
use Rattle.model.specs.Archive.{Stored, not_stored, emit_both}
use Rattle.runs.specs.Emits.{WritesBoth}

-- another outcome that is equal
pub writes_both : {o o' : Stored} {refusal written listWritten : ℕ} {out list : List ℕ} → o' ≡ o → WritesBoth o refusal written listWritten out list
    → WritesBoth o' refusal written listWritten out list
writes_both e w = rw e w

module _ (first second out list : List ℕ) where
  pub first_short : length out < length first → WritesBoth (emit_both first second out list) 13 0 0 out list
  unfolding emit_both not_stored
  first_short l = rw (lt-leb (length first) (length out) l) (refl, (refl, (refl, refl)))

  pub second_short : length list < length second → WritesBoth (emit_both first second out list) 13 0 0 out list
  unfolding emit_both not_stored
  second_short l = rw (lt-leb (length second) (length list) l, and-false) (refl, (refl, (refl, refl)))

  pub both_whole : length first ≤ length out → length second ≤ length list → (m n : ℕ) (out' list' : List ℕ)
      → m ≡ length first → out' ≡ first ++ drop m out → n ≡ length second → list' ≡ second ++ drop n list
      → WritesBoth (emit_both first second out list) 0 m n out' list'
  unfolding emit_both over
  both_whole l k m n out' list' e f g h =
      rw (le-leb (length first) (length out) l, le-leb (length second) (length list) k, f, h, e, g) (refl, (refl, (refl, refl)))
