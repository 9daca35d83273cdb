-- Values (document 01, "Terms and values"): that the definitions with fuel say what the rules say. Statements only.
-- `Proper b β` is what soundness says of a book and its bindings.
use Rattle.std.specs.Prelude.{◌≡◌, List, ◌↔◌, Bool, ◌&&◌, ℕ, ◌≤◌, ◌<◌, length, get_or, T, eqb}
use Rattle.std.proofs.Math.Option.{none, some}
use Rattle.model.specs.Term.{var, app, Book, Bindings, free, node, trees, value, ends, val, name, acyclic}
use Rattle.model.specs.Area.{terms_ok}

-- The terms obey the rules, only variables are bound, and no value contains itself.
unfoldable pub proper : Book → Bindings → Bool
proper b β = eqb (length β) (length b) && terms_ok b β && acyclic b β

-- Where unfolding ends, more fuel changes nothing.
abbrev pub FuelIsEnough : Type 0
FuelIsEnough = (b : Book) (β : Bindings) (k j t : ℕ) → k ≤ j → T (ends b β k t) → T (ends b β j t) × (value b β j t ≡ value b β k t)

-- Where all terms end at some fuel, they end at the number of terms.
abbrev pub EndsAtLength : Type 0
EndsAtLength = (b : Book) (β : Bindings) → T (eqb (length β) (length b) && terms_ok b β) → (k : ℕ)
    → ((t : ℕ) → t < length b → T (ends b β k t)) → T (acyclic b β)

-- The equations of values: a free variable, a bound one, an application.
pub record Equations (b : Book) (β : Bindings) : Type 0 where
  pub of_free : (t : ℕ) → t < length b → get_or b t var ≡ var → get_or β t none ≡ none → val b β t ≡ free t
  pub of_bound : (t u : ℕ) → t < length b → get_or β t none ≡ some u → val b β t ≡ val b β u
  pub of_app : (t s : ℕ) (args : List ℕ) → t < length b → get_or b t var ≡ app s args → val b β t ≡ node s (trees (val b β) args)

abbrev pub ValuesAsWritten : Type 0
ValuesAsWritten = (b : Book) (β : Bindings) → T (proper b β) → Equations b β

-- Two terms have the same name exactly when they have the same value, and the name is the lowest number with that value.
abbrev pub NamesAreLowest : Type 0
NamesAreLowest = (b : Book) (β : Bindings) (t : ℕ) → t < length b
    → ((u : ℕ) → u < length b → (name b β t ≡ name b β u) ↔ (val b β t ≡ val b β u))
    × (val b β (name b β t) ≡ val b β t) × ((u : ℕ) → u < length b → val b β u ≡ val b β t → name b β t ≤ u)
