-- The pair table and its walk (document 01, "The pair table"). Assumes nothing: these are definitions.
use Rattle.std.specs.Prelude.{List, [], ◌∷◌, ◌++◌, map, Bool, true, false, cond, ◌&&◌, ℕ, zero, suc, length, get_or, set, ltb}
use Rattle.model.specs.Lists.{first, pairwise}
use Rattle.model.specs.Term.{Node, symbol, arguments, alike, Book, Bindings, eq_tree, val, root}

-- The kind of an entry: a hole (document 01's open place), or common, a symbol over argument entries.
pub data Kind : Type 0 where
  hole : Kind
  common : ℕ → List ℕ → Kind

unfoldable pub is_hole : Kind → Bool
is_hole hole = true
is_hole (common s args) = false

-- An entry: a pair of terms, its kind, and the lowest entry with the same two values.
pub record Entry : Type 0 where
  pub left : ℕ
  pub right : ℕ
  pub kind : Kind
  pub same_as : ℕ

-- the hole (l, r), alone of its values as entry i
abbrev pub hole_at : ℕ → ℕ → ℕ → Entry
hole_at i l r = record { left = l; right = r; kind = hole; same_as = i }

abbrev pub Table : Type 0
Table = List Entry

-- Entry i; past the end a hole that nothing looks at.
abbrev pub entry : Table → ℕ → Entry
entry es i = get_or es i (hole_at 0 0 0)

module _ (b : Book) (β : Bindings) where
  -- Whether e holds the values of l and r, in this order.
  unfoldable pub holds : ℕ → ℕ → Entry → Bool
  holds l r e = eq_tree (val b β e.left) (val b β l) && eq_tree (val b β e.right) (val b β r)

  -- The lowest entry with the values of l and r, or the next free number where there is none.
  unfoldable pub entry_of : Table → ℕ → ℕ → ℕ
  entry_of es l r = first (holds l r) es

  -- A pair without an entry is appended as a hole.
  unfoldable pub place : Table → ℕ → ℕ → Table
  place es l r = cond (ltb (entry_of es l r) (length es)) es (es ++ hole_at (length es) l r ∷ [])

  -- Argument pairs, left to right.
  unfoldable pub place_all : Table → List ℕ → List ℕ → Table
  place_all es [] rs = es
  place_all es (l ∷ ls) [] = es
  place_all es (l ∷ ls) (r ∷ rs) = place_all (place es l r) ls rs

  -- Entry i turns common: it takes the symbol of its sides and the entries of the argument pairs. A pair that has an entry
  -- keeps it while others are appended, so the numbers can be looked up once all are placed.
  unfoldable pub turn : Table → ℕ → Entry → Node → Node → Table
  turn es i e l r =
      let es' = place_all es (arguments l) (arguments r) in
      let args = pairwise (entry_of es') (arguments l) (arguments r) in
      set es' i (record { left = e.left; right = e.right; kind = common (symbol l) args; same_as = e.same_as })

  -- A hole whose sides stand for terms of one symbol and one count turns common; any other entry stays.
  unfoldable pub visit : Table → ℕ → Table
  visit es i =
      let e = entry es i in
      let l = root b β e.left in
      let r = root b β e.right in
      cond (is_hole e.kind && alike l r) (turn es i e l r) es

  -- The walk from entry i on, appended entries included, over at most k entries.
  unfoldable pub walk : ℕ → ℕ → Table → Table
  walk zero i es = es
  walk (suc k) i es = let es' = walk k (suc i) (visit es i) in cond (ltb i (length es)) es' es

  -- Same-as is set: each entry learns the lowest entry with its values.
  unfoldable pub settle : Table → Table
  settle es =
      map (λ (e : Entry). record { left = e.left; right = e.right; kind = e.kind; same_as = entry_of es e.left e.right }) es
