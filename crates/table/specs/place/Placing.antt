-- Placing a pair in a table in slices: what it asks, and what its answer and the slices are after it. Assumes nothing: these are
-- definitions.
use Rattle.std.specs.Prelude.{◌≡◌, List, ℕ, ◌<◌, length, Result, MatchResult}
use Rattle.model.specs.Term.{Book, Bindings}
use Rattle.model.specs.Table.{Table, entry_of, place}
use Rattle.refusal.specs.declared.Refusal.{Refusal}
use Rattle.table.specs.place.Stands.{KnownNames, Stands, Reaches, IsFull}
use Rattle.table.specs.declared.place.Placed.{Placed}
use Rattle.pairs.specs.declared.Index.{Index}

-- A pair of terms to be placed in a table of m entries.
pub record ToPlace (names entries lefts rights cells : List ℕ) (capacity m l r : ℕ) (b : Book) (β : Bindings) (es : Table) : Type 0 where
  pub known : KnownNames names b β
  pub stands : Stands entries lefts rights cells capacity m b β es
  pub left-term : l < length b
  pub right-term : r < length b

-- It is placed, and has its entry.
pub record Places (entries lefts rights cells : List ℕ) (capacity l r : ℕ) (p : Placed) (b : Book) (β : Bindings) (es : Table) : Type 0 where
  pub reaches : Reaches entries lefts rights cells capacity p.count b β (place b β es l r)
  pub its_entry : p.entry ≡ entry_of b β (place b β es l r) l r

-- It is placed where that stays within the capacity, and else refused.
abbrev pub IsPlaced : List ℕ → List ℕ → List ℕ → List ℕ → ℕ → ℕ → ℕ → Result Placed Refusal → Book → Bindings → Table → Type 0
IsPlaced entries lefts rights cells capacity l r answer b β es =
    MatchResult answer (λ p. Places entries lefts rights cells capacity l r p b β es) (λ e. IsFull capacity e (place b β es l r))

-- The same, of what the index lends.
abbrev pub ToPlaceIn : List ℕ → List ℕ → Index → ℕ → ℕ → ℕ → ℕ → Book → Bindings → Table → Type 0
ToPlaceIn names entries x = ToPlace names entries x.lefts.now x.rights.now x.cells.now

abbrev pub IsPlacedIn : List ℕ → Index → ℕ → ℕ → ℕ → Result Placed Refusal → Book → Bindings → Table → Type 0
IsPlacedIn entries x = IsPlaced entries x.lefts.now x.rights.now x.cells.now
