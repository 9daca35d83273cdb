-- Lines as terms, and fillings (document 01, "Lines as terms"). Assumes nothing: these are definitions.
use Rattle.std.specs.Prelude.{List, [], ◌∷◌, map, ℕ, zero, suc, length}
use Rattle.model.specs.Term.{Tree, node, Trees, nil, more, val}
use Rattle.model.specs.Table.{Kind, hole, common, Entry, Table, entry}
use Rattle.model.specs.Step.{State}

-- A pattern: a term over symbols and numbered open places. An open place is the field's generalization variable.
mutual
  pub data Pattern : Type 0 where
    variable : ℕ → Pattern
    apply : ℕ → Patterns → Pattern

  pub data Patterns : Type 0 where
    end : Patterns
    then : Pattern → Patterns → Patterns

-- A filling by values: σ gives a finite term to each open place.
module _ (σ : ℕ → Tree) where
  unfoldable mutual
    pub fill : Pattern → Tree
    fill (variable x) = σ x
    fill (apply s ps) = node s (fill_all ps)

    pub fill_all : Patterns → Trees
    fill_all end = nil
    fill_all (then p ps) = more (fill p) (fill_all ps)

-- A filling by patterns: what makes one pattern of another.
module _ (θ : ℕ → Pattern) where
  unfoldable mutual
    pub refine : Pattern → Pattern
    refine (variable x) = θ x
    refine (apply s ps) = apply s (refine_all ps)

    pub refine_all : Patterns → Patterns
    refine_all end = end
    refine_all (then p ps) = then (refine p) (refine_all ps)

unfoldable pub patterns : (ℕ → Pattern) → List ℕ → Patterns
patterns f [] = end
patterns f (i ∷ is) = then (f i) (patterns f is)

-- A hole reads as the open place of its class, a common entry as its symbol over its arguments' readings, `below`.
unfoldable pub reading_step : (ℕ → Pattern) → Entry → Kind → Pattern
reading_step below e hole = variable e.same_as
reading_step below e (common s args) = apply s (patterns below args)

-- The reading of entry i, k steps deep.
unfoldable pub reading : Table → ℕ → ℕ → Pattern
reading es zero i = variable (entry es i).same_as
reading es (suc k) i = reading_step (reading es k) (entry es i) (entry es i).kind

module _ (s : State) where
  -- The reading of entry i. No value is deeper than there are terms, so as many steps are enough.
  unfoldable pub entry_reading : ℕ → Pattern
  entry_reading i = reading s.entries (length s.book) i

  -- The left and the right value of entry i. On the numbers of classes these are the left and the right filling.
  unfoldable pub left_value : ℕ → Tree
  left_value i = val s.book s.bound (entry s.entries i).left

  unfoldable pub right_value : ℕ → Tree
  right_value i = val s.book s.bound (entry s.entries i).right

  -- The lines as terms, in their order.
  unfoldable pub line_readings : List Pattern
  line_readings = map entry_reading s.lines
