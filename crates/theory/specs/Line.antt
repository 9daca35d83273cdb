-- What a line does to the old entries of any sound state (document 01, "The pair table": entries never move). Statements only.
use Rattle.std.specs.Prelude.{◌≡◌, List, ◌++◌, ℕ, length, take, T}
use Rattle.model.specs.Limits.{Limits}
use Rattle.model.specs.Step.{State, accepted, add_line}
use Rattle.model.specs.Area.{sound_state, sound, state_of}
use Rattle.model.specs.Call.{call_add}
use Rattle.theory.specs.Modest.{Modest}

-- A line made state s into s' with the answer ns: the old table is the front of the new one, every field of every entry
-- included; the line's entry is the answer; book, bindings and capacity stay.
pub record Lined (s s' : State) (ns : List ℕ) : Type 0 where
  pub old-entries : take (length s.entries) s'.entries ≡ s.entries
  pub lines : s'.lines ≡ s.lines ++ ns
  pub one_answer : length ns ≡ 1
  pub book : s'.book ≡ s.book
  pub bound : s'.bound ≡ s.bound
  pub capacity : s'.capacity ≡ s.capacity

abbrev pub Line : Type 0
Line = (lim : Limits) (s s' : State) (l r : ℕ) (ns : List ℕ) → T (sound_state lim s) → add_line lim s l r ≡ accepted ns s' → Lined s s' ns

-- The same of the call on any sound area.
abbrev pub LineOnAreas : Type 0
LineOnAreas = (lim : Limits) → Modest lim → (area : List ℕ) (l r : ℕ) → T (sound lim area) → (call_add lim area l r).refusal ≡ 0
    → Lined (state_of area lim) (state_of (call_add lim area l r).area lim) (call_add lim area l r).numbers
