-- What stands for what, and how entries read, as the rules write it: the definitions' fuel is enough (document 01, "Terms and
-- values" and "Lines as terms"). Statements only.
use Rattle.std.specs.Prelude.{◌≡◌, List, ℕ, ◌<◌, length, get_or, T}
use Rattle.std.proofs.Math.Option.{none, some}
use Rattle.model.specs.Limits.{Limits}
use Rattle.model.specs.Term.{var, app, Book, Bindings, deref}
use Rattle.model.specs.Table.{hole, common, entry}
use Rattle.model.specs.Step.{State}
use Rattle.model.specs.Pattern.{variable, apply, patterns, entry_reading}
use Rattle.model.specs.Area.{sound, state_of}
use Rattle.theory.specs.Values.{proper}

-- A bound variable stands for what its term stands for; a free variable, and a term with a symbol, stand for themselves.
pub record StandsFor (b : Book) (β : Bindings) : Type 0 where
  pub of_free : (t : ℕ) → t < length b → get_or b t var ≡ var → get_or β t none ≡ none → deref b β (length b) t ≡ t
  pub of_bound : (t u : ℕ) → t < length b → get_or β t none ≡ some u → deref b β (length b) t ≡ deref b β (length b) u
  pub of_app : (t s : ℕ) (args : List ℕ) → t < length b → get_or b t var ≡ app s args → deref b β (length b) t ≡ t

abbrev pub StandsForAsWritten : Type 0
StandsForAsWritten = (b : Book) (β : Bindings) → T (proper b β) → StandsFor b β

-- A common entry reads as its symbol over its arguments' readings, an open one as the open place of its class.
pub record ReadsAs (s : State) : Type 0 where
  pub of_common : (i symbol : ℕ) (args : List ℕ) → i < length s.entries → (entry s.entries i).kind ≡ common symbol args
      → entry_reading s i ≡ apply symbol (patterns (entry_reading s) args)
  pub of_hole : (i : ℕ) → i < length s.entries → (entry s.entries i).kind ≡ hole
      → entry_reading s i ≡ variable (entry s.entries i).same_as

abbrev pub ReadingsAsWritten : Type 0
ReadingsAsWritten = (lim : Limits) (area : List ℕ) → T (sound lim area) → ReadsAs (state_of area lim)
