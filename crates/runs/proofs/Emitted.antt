-- Bytes into an output: too short, or written. Assumes nothing.
use Rattle.std.proofs.Common.{◌≡◌, refl, List, [], ◌∷◌, ◌++◌, Bool, true, false, ℕ, ◌≤◌, ◌<◌, length, drop, leb, le-leb}
use borrow.Author.Tests.{lt-leb}
use Rattle.model.specs.Call.{Outcome, refuse, accept, guard, over, emit}
use Rattle.runs.specs.Emits.{Writes}

-- another outcome that is equal
pub writes : {o o' : Outcome} {refusal written : ℕ} {out : List ℕ} → o' ≡ o → Writes o refusal written out → Writes o' refusal written out
writes e w = rw e w

-- a refusal with the answer 0
pub refuses : {n m refusal written : ℕ} {ns out out' : List ℕ} → (refusal ≡ n) × (written ≡ 0)
    → (n ≡ m) × ((0 ∷ [] ≡ ns) × (out ≡ out')) → (refusal ≡ m) × ((written ∷ [] ≡ ns) × (out ≡ out'))
refuses e w = rw (e.0, e.1) w

module _ (new out : List ℕ) where
  -- an output that is too short
  pub emit_short : (area : List ℕ) → length out < length new → Writes (emit new area out) 13 0 out
  unfolding emit guard refuse
  emit_short area l = rw (lt-leb (length new) (length out) l) (refl, (refl, refl))

  -- an output that was written to
  pub emit_whole : (area : List ℕ) → length new ≤ length out → (count : ℕ) (out' : List ℕ) → count ≡ length new → out' ≡ new ++ drop count out
      → Writes (emit new area out) 0 count out'
  unfolding emit guard accept over
  emit_whole area l count out' e g = rw (le-leb (length new) (length out) l, g, e) (refl, (refl, refl))

  -- what is emitted does not depend on the area
  pub emit_anywhere : (area : List ℕ) {refusal written : ℕ} {out' : List ℕ} → Writes (emit new [] out) refusal written out'
      → Writes (emit new area out) refusal written out'
  unfolding emit guard refuse accept
  emit_anywhere area {refusal} {written} {out'} = go (leb (length new) (length out))
    where
      go : (t : Bool) → Writes (guard t (refuse 1 13 [] out) (accept (length new ∷ []) [] (over new out))) refusal written out'
          → Writes (guard t (refuse 1 13 area out) (accept (length new ∷ []) area (over new out))) refusal written out'
      go true w = w
      go false w = w

-- A call that tests an area and emits bytes, by the test.
module _ (new area out : List ℕ) where
  pub tested_seven : {t : Bool} → t ≡ false → Writes (guard t (refuse 1 7 area out) (emit new area out)) 7 0 out
  unfolding guard refuse
  tested_seven e = rw e (refl, (refl, refl))

  pub tested_written : {t : Bool} → t ≡ true → {refusal written : ℕ} {out' : List ℕ} → Writes (emit new [] out) refusal written out'
      → Writes (guard t (refuse 1 7 area out) (emit new area out)) refusal written out'
  unfolding guard
  tested_written e w = rw e (emit_anywhere new out area w)
