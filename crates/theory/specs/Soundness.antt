-- Soundness is kept (document 01, "Areas"). Statements only.
use Rattle.std.specs.Prelude.{◌≡◌, List, ℕ, ◌*◌, ◌≤◌, length, T}
use Rattle.model.specs.Limits.{Limits}
use Rattle.model.specs.Step.{State}
use Rattle.model.specs.Area.{area_length, area_bytes, sound_state, sound, state_of}
use Rattle.model.specs.Call.{over, call_open, call_entry, call_write}
use Rattle.theory.specs.Modest.{Modest}
use Rattle.theory.specs.Run.{Request, call}

-- A sound state's bytes, written over an area that is long enough, read back as that state, and the area is sound.
abbrev pub BytesReadBack : Type 0
BytesReadBack = (lim : Limits) → Modest lim → (s : State) (area : List ℕ) → T (sound_state lim s) → area_length lim s.capacity ≤ length area
    → (state_of (over (area_bytes lim s) area) lim ≡ s) × T (sound lim (over (area_bytes lim s) area))

-- Opening gives a sound area, whatever it held before.
abbrev pub OpeningIsSound : Type 0
OpeningIsSound = (lim : Limits) → Modest lim → (capacity : ℕ) (book area : List ℕ) → (call_open lim capacity book area).refusal ≡ 0
    → T (sound lim (call_open lim capacity book area).area)

-- Adding, fixing and reporting on a sound area leave a sound area, of the same length. (That the other calls do not alter an
-- area is in `Demand1`.)
abbrev pub CallsKeepSound : Type 0
CallsKeepSound = (lim : Limits) → Modest lim → (area : List ℕ) (q : Request) → T (sound lim area)
    → T (sound lim (call lim area q).area) × (length (call lim area q).area ≡ length area)

-- A call on a sound area does not answer 7: adding, fixing and reporting, reading an entry, writing a book. So none does on
-- an area made by opening and the calls after it.
abbrev pub NeverSeven : Type 0
NeverSeven = (lim : Limits) (area : List ℕ) → T (sound lim area)
    → ((q : Request) → (call lim area q).refusal ≡ 7 → ⊥) × ((i : ℕ) → (call_entry lim area i).refusal ≡ 7 → ⊥)
    × ((out : List ℕ) → (call_write lim area out).refusal ≡ 7 → ⊥)

-- No two entries hold the same two term numbers, so there are at most as many as the square of the number of terms.
abbrev pub TableSize : Type 0
TableSize = (lim : Limits) (s : State) → T (sound_state lim s) → length s.entries ≤ length s.book * length s.book
