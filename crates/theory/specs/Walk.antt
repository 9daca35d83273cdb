-- The walk is long enough, and 11 is given exactly where no walk ends within the capacity (document 01, "The walk" and
-- "Turned down"). Statements only.
use Rattle.std.specs.Prelude.{◌≡◌, ◌↔◌, false, ◌&&◌, ℕ, suc, ◌≤◌, ◌<◌, length, get_or, set}
use Rattle.std.proofs.Math.Option.{some, none}
use Rattle.model.specs.Limits.{Limits}
use Rattle.model.specs.Term.{var, Book, Bindings, alike, root, occurs, val}
use Rattle.model.specs.Table.{is_hole, Table, entry, place, walk}
use Rattle.model.specs.Step.{State, refused, add_line, bind}

-- No entry marked open has sides that stand for terms of one symbol and one count: there is nothing left to turn.
abbrev pub Ended : Book → Bindings → Table → Type 0
Ended b β es = (i : ℕ) → i < length es
    → is_hole (entry es i).kind && alike (root b β (entry es i).left) (root b β (entry es i).right) ≡ false

-- Some walk over es, however long, ends with at most c entries.
abbrev pub EndsWithin : Book → Bindings → ℕ → Table → Type 0
EndsWithin b β c es = (k : ℕ) × (length (walk b β k 0 es) ≤ c) × Ended b β (walk b β k 0 es)

-- The walk over es with one step more than the capacity c. Where its table has at most c entries it has ended, and more steps
-- give the same table; where it has more, so has every longer walk.
pub record LongEnough (b : Book) (β : Bindings) (c : ℕ) (es : Table) : Type 0 where
  pub ended : length (walk b β (suc c) 0 es) ≤ c → Ended b β (walk b β (suc c) 0 es)
  pub stays : length (walk b β (suc c) 0 es) ≤ c → (k : ℕ) → c < k → walk b β k 0 es ≡ walk b β (suc c) 0 es
  pub grows : c < length (walk b β (suc c) 0 es) → (k : ℕ) → c < k → c < length (walk b β k 0 es)

abbrev pub WalkLongEnough : Type 0
WalkLongEnough = (b : Book) (β : Bindings) (c : ℕ) (es : Table) → LongEnough b β c es

-- A line that passes the tests before it is refused by 11 exactly where no walk ends within the capacity.
abbrev pub ElevenOfLine : Type 0
ElevenOfLine = (lim : Limits) (s : State) (l r : ℕ) → l < length s.book → r < length s.book → length s.lines < lim.max_lines
    → (add_line lim s l r ≡ refused 11)
    ↔ (EndsWithin s.book s.bound s.capacity (place s.book s.bound s.entries l r) → ⊥)

-- So is a choice.
abbrev pub ElevenOfChoice : Type 0
ElevenOfChoice = (s : State) (v t : ℕ) → v < length s.book → t < length s.book → get_or s.book v var ≡ var
    → get_or s.bound v none ≡ none → occurs v (val s.book s.bound t) ≡ false
    → (bind s v t ≡ refused 11) ↔ (EndsWithin s.book (set s.bound v (some t)) s.capacity s.entries → ⊥)
