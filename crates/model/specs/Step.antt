-- The state of an area, and its two steps (document 01, "Add a line", "Fix a choice", "Turned down"). Assumes nothing:
-- these are definitions.
use Rattle.std.specs.Prelude.{List, [], ◌∷◌, ◌++◌, map, Bool, true, false, cond, not, ◌&&◌, ℕ, suc, ◌+◌, ◌-◌, length, get_or, set, ltb, leb}
use Rattle.std.proofs.Math.Option.{Option, none, some}
use Rattle.model.specs.Limits.{Limits}
use Rattle.model.specs.Term.{Node, var, app, Book, Bindings, val, occurs}
use Rattle.model.specs.Table.{is_hole, Table, entry_of, place, walk, settle}

pub record State : Type 0 where
  pub book : Book
  pub bound : Bindings
  pub entries : Table
  -- the entry of each line, in the order of the lines
  pub lines : List ℕ
  pub capacity : ℕ

-- A book just opened: nothing bound, no entries, no lines.
unfoldable pub opened : Book → ℕ → State
opened b c = record { book = b; bound = map (λ (n : Node). none) b; entries = []; lines = []; capacity = c }

-- A step's answer: a refusal, or the answer's numbers and the state after it.
pub data Answer : Type 0 where
  refused : ℕ → Answer
  accepted : List ℕ → State → Answer

-- The answer where the test holds, else refusal n.
unfoldable pub require : Bool → ℕ → Answer → Answer
require true n a = a
require false n a = refused n

-- The whole walk under bindings β. Every visited entry exists, so where it has not ended after one entry more than the
-- capacity, it needs more entries than that.
unfoldable pub saturate : State → Bindings → Table → Table
saturate s β es = walk s.book β (suc s.capacity) 0 es

module _ (lim : Limits) where
  -- Add the line (l, r): refusals 8, 12, 11. The answer is its entry.
  unfoldable pub add_line : State → ℕ → ℕ → Answer
  add_line s l r =
      let placed = place s.book s.bound s.entries l r in
      let i = entry_of s.book s.bound placed l r in
      let es = saturate s s.bound placed in
      require (ltb l (length s.book) && ltb r (length s.book)) 8
      (require (ltb (length s.lines) lim.max_lines) 12
      (require (leb (length es) s.capacity) 11
      (accepted (i ∷ [])
      (record { book = s.book; bound = s.bound; entries = es; lines = s.lines ++ i ∷ []; capacity = s.capacity }))))

-- A node with its binding is a free variable.
unfoldable pub is_free : Node → Option ℕ → Bool
is_free var none = true
is_free var (some u) = false
is_free (app s args) bound = false

-- How many entries of the first table are holes there and common in the second.
unfoldable pub turned : Table → Table → ℕ
turned [] new = 0
turned (e ∷ old) [] = 0
turned (e ∷ old) (e' ∷ new) = cond (is_hole e.kind && not (is_hole e'.kind)) 1 0 + turned old new

-- Bind v to t (fix the choice (v, t)): refusals 8, 9, 10, 11. The answer is the number of old entries turned and the number
-- of entries appended.
unfoldable pub bind : State → ℕ → ℕ → Answer
bind s v t =
    let β = set s.bound v (some t) in
    let es = saturate s β s.entries in
    require (ltb v (length s.book) && ltb t (length s.book)) 8
    (require (is_free (get_or s.book v var) (get_or s.bound v none)) 9
    (require (not (occurs v (val s.book s.bound t))) 10
    (require (leb (length es) s.capacity) 11
    (accepted (turned s.entries es ∷ (length es - length s.entries) ∷ [])
    (record { book = s.book; bound = β; entries = settle s.book β es; lines = s.lines; capacity = s.capacity })))))
