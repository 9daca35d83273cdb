-- A word is one above the term, or 0.
use Rattle.std.proofs.Common.{◌≡◌, List, ℕ, ◌-◌, ◌≤◌, Option, Some, None, MatchOption, sym, ap, ◌∙◌, arith}
use Rattle.std.proofs.Math.Option.{none, some}
use Rattle.std.specs.Option.{SomeIff}
use Rattle.layout.specs.limits.Rows.{at, binding_of}
use Rattle.layout.proofs.limits.Rows.{binding_none, binding_some}
use Rattle.values.proofs.term.Terms.bound.Goals as goal

of_word : (bindings : List ℕ) (t : ℕ) (r : Option ℕ) → SomeIff r (1 ≤ at bindings t) (at bindings t - 1)
    → MatchOption r (binding_of bindings t ≡ none) (λ u. binding_of bindings t ≡ some u)
of_word bindings t None h = binding_none bindings t (omega (arith, h))
of_word bindings t (Some u) h = binding_some bindings t (λ e. omega (arith, h.0)) ∙ ap some (sym h.1)

pub returns : goal.returns
returns c = of_word c.args.self.bindings.now c.args.t _ c.checked_sub.ensures
