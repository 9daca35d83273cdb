-- The steps of a table in slices: what each asks, and what its answer and the slices are after it. Assumes nothing: these are
-- definitions.
use Rattle.std.specs.Prelude.{◌≡◌, List, true, ◌&&◌, ℕ, ◌+◌, ◌*◌, ◌-◌, ◌<◌, ◌≤◌, length, take, drop, Result, MatchResult}
use Rattle.std.proofs.Math.Seq.{paste}
use Rattle.model.specs.Limits.{max_arity}
use Rattle.model.specs.Lists.{pairwise, padded}
use Rattle.model.specs.Term.{Book, Bindings, alike, root}
use Rattle.model.specs.Table.{Table, is_hole, entry, entry_of, place_all, visit}
use Rattle.model.specs.Area.{term_words, entry_row_words}
use Rattle.layout.specs.limits.Rows.{at}
use Rattle.layout.specs.entry.Row.{row_of}
use Rattle.layout.specs.declared.entry.Entry.{Entry}
use Rattle.soundness.specs.kinds.Known.{Terms}
use Rattle.refusal.specs.declared.Refusal.{Refusal}
use Rattle.table.specs.place.Stands.{KnownNames, KnownTerms, Stands, Reaches, IsFull}
use Rattle.table.specs.declared.visit.Arguments.{Arguments}
use Rattle.table.specs.declared.visit.Visited.{Visited}
use Rattle.pairs.specs.declared.Index.{Index}
use Rattle.table.specs.declared.visit.NamedTerms.{NamedTerms}

-- The arguments in the row of term t: the words behind its count.
abbrev pub arguments_at : List ℕ → ℕ → List ℕ
arguments_at rows t = take (at rows (term_words * t + 1)) (drop (term_words * t + 2) rows)

-- Argument pairs to be placed, and placed: each has its entry; or refused where that needs more entries than the capacity.
pub record ToPlaceAll (names entries lefts rights cells : List ℕ) (capacity m : ℕ) (ls rs : List ℕ) (b : Book) (β : Bindings) (es : Table) : Type 0 where
  pub known : KnownNames names b β
  pub stands : Stands entries lefts rights cells capacity m b β es
  pub left-terms : Terms b ls
  pub right-terms : Terms b rs
  pub pairs : length ls ≡ length rs
  pub few : length ls ≤ max_arity

pub record PlacesAll (entries lefts rights cells : List ℕ) (capacity : ℕ) (ls rs : List ℕ) (a : Arguments) (b : Book) (β : Bindings) (es : Table) : Type 0 where
  pub reaches : Reaches entries lefts rights cells capacity a.count b β (place_all b β es ls rs)
  pub their_entries : a.entries ≡ padded max_arity (pairwise (entry_of b β (place_all b β es ls rs)) ls rs)

abbrev pub ArePlaced : List ℕ → List ℕ → List ℕ → List ℕ → ℕ → List ℕ → List ℕ → Result Arguments Refusal → Book → Bindings → Table → Type 0
ArePlaced entries lefts rights cells capacity ls rs answer b β es =
    MatchResult answer (λ a. PlacesAll entries lefts rights cells capacity ls rs a b β es) (λ e. IsFull capacity e (place_all b β es ls rs))

-- A row as it is turned: common, with the symbol and the count of the term in row l, and the entries of its argument pairs.
abbrev pub turned_row : List ℕ → ℕ → Entry → List ℕ → Entry
turned_row rows l e args =
    record {
      left = e.left;
      right = e.right;
      kind = 1;
      symbol = at rows (term_words * l) - 1;
      count = at rows (term_words * l + 1);
      arguments = args;
      same_as = e.same_as;
    }

-- Row i and the row of an application, the term l; and row i is put anew.
pub record ToTurn (rows entries : List ℕ) (i l : ℕ) : Type 0 where
  pub applied : at rows (term_words * l) ≡ 0 → ⊥
  pub term-row : term_words * l + 2 ≤ length rows
  pub entry_row : entry_row_words * i + entry_row_words ≤ length entries

pub record IsTurned (rows entries entries' : List ℕ) (i l : ℕ) (e : Entry) (a : Arguments) (v : Visited) : Type 0 where
  pub answer : v ≡ record { turned = true; count = a.count }
  pub put : entries' ≡ paste entries (entry_row_words * i) (row_of (turned_row rows l e a.entries)) entry_row_words

-- An entry to be visited, and visited: whether it turned; or refused where that needs more entries than the capacity.
pub record ToVisit (rows roots names entries lefts rights cells : List ℕ) (capacity m i : ℕ) (b : Book) (β : Bindings) (es : Table) : Type 0 where
  pub known : KnownTerms rows roots names b β
  pub stands : Stands entries lefts rights cells capacity m b β es
  pub there : i < m

pub record Visits (entries lefts rights cells : List ℕ) (capacity i : ℕ) (v : Visited) (b : Book) (β : Bindings) (es : Table) : Type 0 where
  pub reaches : Reaches entries lefts rights cells capacity v.count b β (visit b β es i)
  pub turned : v.turned ≡ is_hole (entry es i).kind && alike (root b β (entry es i).left) (root b β (entry es i).right)

abbrev pub IsVisited : List ℕ → List ℕ → List ℕ → List ℕ → ℕ → ℕ → Result Visited Refusal → Book → Bindings → Table → Type 0
IsVisited entries lefts rights cells capacity i answer b β es =
    MatchResult answer (λ v. Visits entries lefts rights cells capacity i v b β es) (λ e. IsFull capacity e (visit b β es i))

-- The same, of what the structs lend; the argument pairs are those of the terms in rows l and r.
abbrev pub ToPlaceAllIn : NamedTerms → List ℕ → Index → ℕ → ℕ → ℕ → ℕ → Book → Bindings → Table → Type 0
ToPlaceAllIn t entries x capacity m l r =
    ToPlaceAll t.names.now entries x.lefts.now x.rights.now x.cells.now capacity m (arguments_at t.rows.now l) (arguments_at t.rows.now r)

abbrev pub ArePlacedIn : NamedTerms → List ℕ → Index → ℕ → ℕ → ℕ → Result Arguments Refusal → Book → Bindings → Table → Type 0
ArePlacedIn t entries x capacity l r =
    ArePlaced entries x.lefts.now x.rights.now x.cells.now capacity (arguments_at t.rows.now l) (arguments_at t.rows.now r)

abbrev pub ToVisitIn : NamedTerms → List ℕ → Index → ℕ → ℕ → ℕ → Book → Bindings → Table → Type 0
ToVisitIn t entries x = ToVisit t.rows.now t.roots.now t.names.now entries x.lefts.now x.rights.now x.cells.now

abbrev pub IsVisitedIn : List ℕ → Index → ℕ → ℕ → Result Visited Refusal → Book → Bindings → Table → Type 0
IsVisitedIn entries x = IsVisited entries x.lefts.now x.rights.now x.cells.now
