-- What a term's value is made of, one step down, and lists of terms in which that comes first (document 01, "Terms and
-- values"). Assumes nothing: these are definitions.
use Rattle.std.specs.Prelude.{◌≡◌, List, [], ◌∷◌, ℕ, ◌<◌, length, get_or}
use Rattle.std.proofs.Math.Option.{Option, none, some}
use Rattle.model.specs.Term.{Node, var, app, Book, Bindings}

-- A bound variable has the value of its term, an application is made of its arguments, a free variable of nothing else.
unfoldable pub parts_of : Node → Option ℕ → List ℕ
parts_of var none = []
parts_of var (some u) = u ∷ []
parts_of (app s args) bound = args

unfoldable pub parts : Book → Bindings → ℕ → List ℕ
parts b β t = parts_of (get_or b t var) (get_or β t none)

-- Term t stands in the list before place k.
pub record Before (xs : List ℕ) (k t : ℕ) : Type 0 where
  pub place : ℕ
  pub early : place < k
  pub is : get_or xs place 0 ≡ t

-- The list has all terms, as many as there are, and what a term's value is made of stands before it.
pub record Ordered (b : Book) (β : Bindings) (xs : List ℕ) : Type 0 where
  pub as_many : length xs ≡ length b
  pub terms : (k : ℕ) → k < length xs → get_or xs k 0 < length b
  pub complete : (t : ℕ) → t < length b → Before xs (length xs) t
  pub parts_first : (k j : ℕ) → k < length xs → j < length (parts b β (get_or xs k 0))
      → Before xs k (get_or (parts b β (get_or xs k 0)) j 0)
