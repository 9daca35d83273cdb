-- A loaded state that is known to be sound, with its terms listed, what each term stands for, and the name of its value: what
-- a step takes, which then knows nothing of bytes. Assumes nothing: these are definitions.
use Rattle.std.specs.Prelude.{◌≡◌, List, ℕ, T}
use Rattle.model.specs.Limits.{Limits}
use Rattle.model.specs.Area.{sound_state, state_of}
use Rattle.layout.specs.limits.Rows.{Loaded, loaded_state}
use Rattle.values.specs.evaluate.Valued.{Valued, ValueRoom}
use Rattle.soundness.specs.sound.Sound.{rows_ok}
use Rattle.pairs.specs.Index as Pairs
use Rattle.area.specs.load.Loading.{Sizes, Used}

-- They have room for every state within the limits.
pub record Lent (lim : Limits) (list roots names lefts rights cells : List ℕ) : Type 0 where
  pub for_terms : ValueRoom list roots names lefts rights cells lim.max_terms
  pub for_entries : Pairs.Room lefts rights cells lim.max_capacity

-- The loaded words are those of a sound state, and the values of its terms are known.
pub record Ready (lim : Limits) (w : Loaded) (list roots names : List ℕ) : Type 0 where
  pub sizes : Sizes lim w.capacity w.term_rows w.binding_words w.line_words w.entry_rows
  pub used : Used w
  pub rows : T (rows_ok w)
  pub sound : T (sound_state lim (loaded_state w))
  pub valued : Valued w.term_rows w.binding_words list roots names w.terms

-- And the state is the area's.
pub record ReadFrom (lim : Limits) (area : List ℕ) (w : Loaded) (list roots names : List ℕ) : Type 0 where
  pub is_state : loaded_state w ≡ state_of area lim
  pub ready : Ready lim w list roots names
