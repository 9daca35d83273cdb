-- Terms and values (document 01, "Terms and values"). Assumes nothing: these are definitions.
use Rattle.std.specs.Prelude.{List, [], ◌∷◌, true, false, ◌&&◌, ◌||◌, ℕ, zero, suc, length, get_or, eqb}
use Rattle.std.proofs.Math.Bool.{Bool}
use Rattle.std.proofs.Math.Option.{Option, none, some}
use Rattle.model.specs.Lists.{all, first, from}

-- A node of the term graph: a variable, or a symbol applied to terms that are given by their numbers.
pub data Node : Type 0 where
  var : Node
  app : ℕ → List ℕ → Node

-- The symbol of a node and its arguments; a variable has 0 and none.
unfoldable pub symbol : Node → ℕ
symbol var = 0
symbol (app s args) = s

unfoldable pub arguments : Node → List ℕ
arguments var = []
arguments (app s args) = args

-- Whether two nodes are applications of one symbol to as many arguments: what makes a pair of terms common (document 02, request 3). A
-- symbol may stand over one argument here and over two there; such nodes are unlike.
unfoldable pub alike : Node → Node → Bool
alike var n = false
alike (app s args) var = false
alike (app s args) (app s' args') = eqb s s' && eqb (length args) (length args')

-- A book: the node of term t stands at place t.
abbrev pub Book : Type 0
Book = List Node

-- For each term of the book, what it is bound to. Only variables are bound. (A binding is document 01's choice.)
abbrev pub Bindings : Type 0
Bindings = List (Option ℕ)

-- A value: a finite tree over symbols and free variables.
mutual
  pub data Tree : Type 0 where
    free : ℕ → Tree
    node : ℕ → Trees → Tree

  pub data Trees : Type 0 where
    nil : Trees
    more : Tree → Trees → Trees

-- How many trees there are: the count of a root.
unfoldable pub count : Trees → ℕ
count nil = 0
count (more t ts) = suc (count ts)

unfoldable pub trees : (ℕ → Tree) → List ℕ → Trees
trees f [] = nil
trees f (a ∷ args) = more (f a) (trees f args)

-- One step of unfolding a term, where `below` gives the values one step down: a free variable is itself, a bound one has
-- its term's value, and any other term is its symbol over its arguments' values.
unfoldable pub value_step : (ℕ → Tree) → ℕ → Node → Option ℕ → Tree
value_step below t var none = free t
value_step below t var (some u) = below u
value_step below t (app s args) bound = node s (trees below args)

-- The value of t unfolded k steps.
unfoldable pub value : Book → Bindings → ℕ → ℕ → Tree
value b β zero t = free t
value b β (suc k) t = value_step (value b β k) t (get_or b t var) (get_or β t none)

unfoldable pub ends_step : (ℕ → Bool) → Node → Option ℕ → Bool
ends_step below var none = true
ends_step below var (some u) = below u
ends_step below (app s args) bound = all below args

-- Whether unfolding t ends within k steps.
unfoldable pub ends : Book → Bindings → ℕ → ℕ → Bool
ends b β zero t = false
ends b β (suc k) t = ends_step (ends b β k) (get_or b t var) (get_or β t none)

unfoldable pub deref_step : (ℕ → ℕ) → ℕ → Node → Option ℕ → ℕ
deref_step below t var none = t
deref_step below t var (some u) = below u
deref_step below t (app s args) bound = t

-- The term at the end of a chain of bindings, of at most k of them: what t stands for.
unfoldable pub deref : Book → Bindings → ℕ → ℕ → ℕ
deref b β zero t = t
deref b β (suc k) t = deref_step (deref b β k) t (get_or b t var) (get_or β t none)

-- Equality of values, as finite trees.
unfoldable mutual
  pub eq_tree : Tree → Tree → Bool
  eq_tree (free x) (free y) = eqb x y
  eq_tree (free x) (node s ts) = false
  eq_tree (node s ts) (free y) = false
  eq_tree (node s ts) (node s' us) = eqb s s' && eq_trees ts us

  pub eq_trees : Trees → Trees → Bool
  eq_trees nil nil = true
  eq_trees nil (more u us) = false
  eq_trees (more t ts) nil = false
  eq_trees (more t ts) (more u us) = eq_tree t u && eq_trees ts us

-- Whether the variable v occurs in a value.
unfoldable mutual
  pub occurs : ℕ → Tree → Bool
  occurs v (free x) = eqb v x
  occurs v (node s ts) = occurs_any v ts

  pub occurs_any : ℕ → Trees → Bool
  occurs_any v nil = false
  occurs_any v (more t ts) = occurs v t || occurs_any v ts

module _ (b : Book) (β : Bindings) where
  -- No value contains itself: unfolding any term ends within as many steps as there are terms.
  unfoldable pub acyclic : Bool
  acyclic = all (ends b β (length b)) (from 0 (length b))

  -- The value of t. As many steps as there are terms are enough where no value contains itself.
  abbrev pub val : ℕ → Tree
  val t = value b β (length b) t

  -- The node of the term that t stands for: a variable where that is a free variable.
  unfoldable pub root : ℕ → Node
  root t = get_or b (deref b β (length b) t) var

  -- The name of t's value: the lowest term number that has this value.
  unfoldable pub name : ℕ → ℕ
  name t = first (λ u. eq_tree (val u) (val t)) (from 0 (length b))
