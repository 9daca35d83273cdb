-- What a choice does to the old entries of any sound state (demand 3's second half; document 01, "Agreed between us").
-- Statements only.
use Rattle.std.specs.Prelude.{◌≡◌, List, [], ◌∷◌, true, false, ◌⊎◌, ℕ, ◌-◌, ◌≤◌, ◌<◌, length, T}
use Rattle.model.specs.Limits.{Limits}
use Rattle.model.specs.Term.{Book, Bindings, deref}
use Rattle.model.specs.Table.{Entry, entry, is_hole}
use Rattle.model.specs.Step.{State, accepted, bind, turned}
use Rattle.model.specs.Area.{sound_state}

-- The entry turned from a hole to common, and just before the choice one of its sides stood for v.
pub record Turned (b : Book) (β : Bindings) (v : ℕ) (old new : Entry) : Type 0 where
  pub was_hole : is_hole old.kind ≡ true
  pub is-common : is_hole new.kind ≡ false
  pub stood : (deref b β (length b) old.left ≡ v) ⊎ (deref b β (length b) old.right ≡ v)

-- An old entry keeps its terms; it turned so, or keeps its kind with symbol and arguments; its same-as does not rise.
pub record Kept (b : Book) (β : Bindings) (v : ℕ) (old new : Entry) : Type 0 where
  pub left : new.left ≡ old.left
  pub right : new.right ≡ old.right
  pub kind : Turned b β v old new ⊎ (new.kind ≡ old.kind)
  pub same_as : new.same_as ≤ old.same_as

-- The choice (v, t) made state s into s' with the answer ns.
pub record Chosen (s s' : State) (v : ℕ) (ns : List ℕ) : Type 0 where
  pub old_stay : length s.entries ≤ length s'.entries
  pub counts : ns ≡ turned s.entries s'.entries ∷ (length s'.entries - length s.entries) ∷ []
  pub old-entries : (i : ℕ) → i < length s.entries → Kept s.book s.bound v (entry s.entries i) (entry s'.entries i)

abbrev pub Choice : Type 0
Choice = (lim : Limits) (s s' : State) (v t : ℕ) (ns : List ℕ) → T (sound_state lim s) → bind s v t ≡ accepted ns s' → Chosen s s' v ns
