-- How entries of a sound state read, as the rules write it: the fuel of `reading` is enough. Assumes nothing.
use mathlib.Core.Path.{◌≡◌, sym, ◌∙◌}
use Prim.Native.Nat.{ℕ, suc, ◌≤◌, ◌<◌}
use native.Mathlib.Omega.{arith}
use lib.ListN.{length}
use Rattle.model.specs.Limits.{Limits}
use Rattle.model.specs.Table.{entry}
use Rattle.model.specs.Step.{State}
use Rattle.model.specs.Pattern.{reading_step, reading, entry_reading, left_value}
use Rattle.model.specs.Area.{state_of}
use Rattle.theory.specs.Reading.{ReadsAs, ReadingsAsWritten}
use Rattle.theory.proofs.Soundness.Facts.{SoundFacts}
use Rattle.theory.proofs.Values.Heights.{height, height_value}
use Rattle.theory.proofs.Patterns.Entry.{reads-entry}
use Rattle.theory.proofs.Area.Bytes.{sound_carries}

module _ (lim : Limits) (s : State) (sound : SoundFacts lim s) where
  -- one more step of reading changes nothing: both readings are the least general generalization of the entry's values
  reading_step_lem : (i : ℕ) → i < length s.entries
      → entry_reading s i ≡ reading_step (entry_reading s) (entry s.entries i) (entry s.entries i).kind
  unfolding entry_reading reading left_value
  reading_step_lem i here =
      let n : ℕ = length s.book in
      let low : height (left_value s i) ≤ n = height_value s.book s.bound n (entry s.entries i).left in
      (reads-entry lim s sound n i here low).least ∙ sym (reads-entry lim s sound (suc n) i here (omega arith)).least

  -- so each entry reads as the rules say
  pub reads_as : ReadsAs s
  unfolding reading_step
  reads_as = record { of_common = λ i c args here k. reading_step_lem i here ∙ rw k; of_hole = λ i here k. reading_step_lem i here ∙ rw k }

pub readings_as_written : ReadingsAsWritten
readings_as_written lim area h = reads_as lim (state_of area lim) (sound_carries lim area h).0
