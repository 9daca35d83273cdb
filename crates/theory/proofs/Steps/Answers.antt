-- What an accepted answer of a step says: each test passed, the answer's numbers, and the state after it. Assumes nothing.
use mathlib.Core.Path.{◌≡◌, refl, sym}
use mathlib.Core.List.{List, [], ◌∷◌, ◌++◌}
use mathlib.Core.Bool.{Bool, true, false, ◌&&◌, false≢true}
use mathlib.Core.Option.{Option, none, some}
use Prim.Native.Nat.{ℕ, suc, ◌≤◌, ◌<◌, ◌-◌}
use native.Mathlib.Omega.{arith}
use borrow.Author.Tests.{ltb-true, leb-true, not-true}
use lib.ListN.{length, get_or, set}
use lib.Dec.{ltb}
use Rattle.model.specs.Limits.{Limits}
use Rattle.model.specs.Term.{Node, var, app, Bindings, occurs, val}
use Rattle.model.specs.Table.{Table, entry_of, place, walk, settle}
use Rattle.model.specs.Step.{State, Answer, accepted, require, saturate, add_line, is_free, turned, bind}

-- an accepted answer under a test: the test holds and the answer is what stands under it
require-accepted : (t : Bool) (n : ℕ) (a : Answer) (ns : List ℕ) (s : State) → require t n a ≡ accepted ns s → (t ≡ true) × (a ≡ accepted ns s)
unfolding require
require-accepted true n a ns s h = (refl, h)
require-accepted false n a ns s h = absurd (let z : ◌≡◌ {A = ℕ} 0 1 = cc in omega arith)

-- equal answers have equal numbers and states
accepted_equal : (ns ms : List ℕ) (s s' : State) → accepted ns s ≡ accepted ms s' → (ns ≡ ms) × (s ≡ s')
accepted_equal ns ms s s' h = (cc, cc)

-- both of two tests hold
pub and-true : (a b : Bool) → a && b ≡ true → (a ≡ true) × (b ≡ true)
and-true true b h = (refl, h)
and-true false b h = absurd (false≢true h)

-- the table after the line (l, r) and its entry
module _ (s : State) (l r : ℕ) where
  abbrev pub placed : Table
  placed = place s.book s.bound s.entries l r

  abbrev pub line-entry : ℕ
  line-entry = entry_of s.book s.bound placed l r

  abbrev pub line-table : Table
  line-table = walk s.book s.bound (suc s.capacity) 0 placed

  abbrev pub line-state : State
  line-state =
      record { book = s.book; bound = s.bound; entries = line-table; lines = s.lines ++ line-entry ∷ []; capacity = s.capacity }

  -- what an accepted line says
  pub record LineAccepted (lim : Limits) (s' : State) (ns : List ℕ) : Type 0 where
    pub left-term : l < length s.book
    pub right-term : r < length s.book
    pub line-room : length s.lines < lim.max_lines
    pub fits : length line-table ≤ s.capacity
    pub answer : ns ≡ line-entry ∷ []
    pub state : line-state ≡ s'

  pub line-accepted : (lim : Limits) (s' : State) (ns : List ℕ) → add_line lim s l r ≡ accepted ns s' → LineAccepted lim s' ns
  unfolding add_line saturate
  line-accepted lim s' ns h =
      let p = require-accepted _ _ _ ns s' h in
      let q = require-accepted _ _ _ ns s' p.1 in
      let u = require-accepted _ _ _ ns s' q.1 in
      let e = accepted_equal _ ns _ s' u.1 in
      let terms = and-true (ltb l (length s.book)) _ p.0 in
      record {
        left-term = ltb-true l _ terms.0;
        right-term = ltb-true r _ terms.1;
        line-room = ltb-true _ _ q.0;
        fits = leb-true _ _ u.0;
        answer = sym e.0;
        state = e.1;
      }

-- a free variable is a variable that is not bound
pub free-var : (n : Node) (o : Option ℕ) → is_free n o ≡ true → (n ≡ var) × (o ≡ none)
unfolding is_free
free-var var none h = (refl, refl)
free-var var (some u) h = absurd (false≢true h)
free-var (app s args) o h = absurd (false≢true h)

-- the table and the state after v is bound to t
module _ (s : State) (v t : ℕ) where
  abbrev pub now_bound : Bindings
  now_bound = set s.bound v (some t)

  abbrev pub choice_table : Table
  choice_table = walk s.book now_bound (suc s.capacity) 0 s.entries

  abbrev pub choice_state : State
  choice_state =
      record {
        book = s.book;
        bound = now_bound;
        entries = settle s.book now_bound choice_table;
        lines = s.lines;
        capacity = s.capacity;
      }

  -- what an accepted choice says
  pub record ChoiceAccepted (s' : State) (ns : List ℕ) : Type 0 where
    pub v_term : v < length s.book
    pub t_term : t < length s.book
    pub v_var : get_or s.book v var ≡ var
    pub v_free : get_or s.bound v none ≡ none
    pub absent : occurs v (val s.book s.bound t) ≡ false
    pub fits : length choice_table ≤ s.capacity
    pub answer : ns ≡ turned s.entries choice_table ∷ (length choice_table - length s.entries) ∷ []
    pub state : choice_state ≡ s'

  pub choice_accepted : (s' : State) (ns : List ℕ) → bind s v t ≡ accepted ns s' → ChoiceAccepted s' ns
  unfolding bind saturate
  choice_accepted s' ns h =
      let p = require-accepted _ _ _ ns s' h in
      let q = require-accepted _ _ _ ns s' p.1 in
      let u = require-accepted _ _ _ ns s' q.1 in
      let w = require-accepted _ _ _ ns s' u.1 in
      let e = accepted_equal _ ns _ s' w.1 in
      let terms = and-true (ltb v (length s.book)) _ p.0 in
      let free = free-var _ _ q.0 in
      record {
        v_term = ltb-true v _ terms.0;
        t_term = ltb-true t _ terms.1;
        v_var = free.0;
        v_free = free.1;
        absent = not-true _ u.0;
        fits = leb-true _ _ w.0;
        answer = sym e.0;
        state = e.1;
      }
