-- Placing a pair of terms in a loaded table and walking it through: what it asks, and what its answer and the slices are after it
-- (document 01, "Add a line"). Assumes nothing: these are definitions.
use Rattle.std.specs.Prelude.{◌≡◌, List, ℕ, suc, ◌*◌, ◌<◌, length, Result, MatchResult}
use Rattle.model.specs.Term.{Book, Bindings}
use Rattle.model.specs.Table.{Table, entry_of, place, walk}
use Rattle.model.specs.Area.{entry_row_words}
use Rattle.pairs.specs.Index.{Room}
use Rattle.refusal.specs.declared.Refusal.{Refusal}
use Rattle.table.specs.place.Stands.{KnownTerms, Reaches, IsFull}
use Rattle.table.specs.declared.place.Placed.{Placed}
use Rattle.table.specs.index.Indexing.{ToIndex}
use Rattle.pairs.specs.declared.Index.{Index}
use Rattle.table.specs.declared.visit.NamedTerms.{NamedTerms}

-- A pair of terms to be placed in a loaded table of m entries, which is then walked through; and that is done, or refused where that
-- needs more entries than the capacity.
pub record ToGrow (rows roots names entries lefts rights cells : List ℕ) (capacity m l r : ℕ) (b : Book) (β : Bindings) (es : Table) : Type 0 where
  pub known : KnownTerms rows roots names b β
  pub to_index : ToIndex names entries lefts rights cells m b β es
  pub long : length entries ≡ entry_row_words * capacity
  pub room : Room lefts rights cells capacity
  pub left-term : l < length b
  pub right-term : r < length b

pub record Grows (entries lefts rights cells : List ℕ) (capacity l r : ℕ) (p : Placed) (b : Book) (β : Bindings) (es : Table) : Type 0 where
  pub reaches : Reaches entries lefts rights cells capacity p.count b β (walk b β (suc capacity) 0 (place b β es l r))
  pub its_entry : p.entry ≡ entry_of b β (place b β es l r) l r

abbrev pub IsGrown : List ℕ → List ℕ → List ℕ → List ℕ → ℕ → ℕ → ℕ → Result Placed Refusal → Book → Bindings → Table → Type 0
IsGrown entries lefts rights cells capacity l r answer b β es =
    MatchResult answer (λ p. Grows entries lefts rights cells capacity l r p b β es)
    (λ e. IsFull capacity e (walk b β (suc capacity) 0 (place b β es l r)))

-- The same, of what the structs lend.
abbrev pub ToGrowIn : NamedTerms → List ℕ → Index → ℕ → ℕ → ℕ → ℕ → Book → Bindings → Table → Type 0
ToGrowIn t entries x = ToGrow t.rows.now t.roots.now t.names.now entries x.lefts.now x.rights.now x.cells.now

abbrev pub IsGrownIn : List ℕ → Index → ℕ → ℕ → ℕ → Result Placed Refusal → Book → Bindings → Table → Type 0
IsGrownIn entries x = IsGrown entries x.lefts.now x.rights.now x.cells.now
