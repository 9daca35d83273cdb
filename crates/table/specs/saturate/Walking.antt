-- The walk of a table in slices: what it asks, and what its answer and the slices are after it. Assumes nothing: these are
-- definitions.
use Rattle.std.specs.Prelude.{◌≡◌, List, ℕ, suc, Result, MatchResult}
use Rattle.model.specs.Term.{Book, Bindings}
use Rattle.model.specs.Table.{Table, walk}
use Rattle.model.specs.Step.{turned}
use Rattle.refusal.specs.declared.Refusal.{Refusal}
use Rattle.table.specs.place.Stands.{KnownTerms, Stands, Reaches, IsFull}
use Rattle.table.specs.declared.saturate.Walked.{Walked}
use Rattle.pairs.specs.declared.Index.{Index}
use Rattle.table.specs.declared.visit.NamedTerms.{NamedTerms}

-- A table of m entries to be walked through, and walked through: how many of its entries turned; or refused where that needs more
-- entries than the capacity.
pub record ToWalk (rows roots names entries lefts rights cells : List ℕ) (capacity m : ℕ) (b : Book) (β : Bindings) (es : Table) : Type 0 where
  pub known : KnownTerms rows roots names b β
  pub stands : Stands entries lefts rights cells capacity m b β es

pub record Walks (entries lefts rights cells : List ℕ) (capacity : ℕ) (w : Walked) (b : Book) (β : Bindings) (es : Table) : Type 0 where
  pub reaches : Reaches entries lefts rights cells capacity w.count b β (walk b β (suc capacity) 0 es)
  pub old-turned : w.turned ≡ turned es (walk b β (suc capacity) 0 es)

abbrev pub IsWalked : List ℕ → List ℕ → List ℕ → List ℕ → ℕ → Result Walked Refusal → Book → Bindings → Table → Type 0
IsWalked entries lefts rights cells capacity answer b β es =
    MatchResult answer (λ w. Walks entries lefts rights cells capacity w b β es) (λ e. IsFull capacity e (walk b β (suc capacity) 0 es))

-- The same, of what the structs lend.
abbrev pub ToWalkIn : NamedTerms → List ℕ → Index → ℕ → ℕ → Book → Bindings → Table → Type 0
ToWalkIn t entries x = ToWalk t.rows.now t.roots.now t.names.now entries x.lefts.now x.rights.now x.cells.now

abbrev pub IsWalkedIn : List ℕ → Index → ℕ → Result Walked Refusal → Book → Bindings → Table → Type 0
IsWalkedIn entries x = IsWalked entries x.lefts.now x.rights.now x.cells.now
