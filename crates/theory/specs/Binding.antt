-- What binding a variable does to values (document 01, "Fix a choice"). Statements only.
use Rattle.std.specs.Prelude.{◌≡◌, false, cond, ℕ, ◌<◌, length, get_or, set, T, eqb}
use Rattle.std.proofs.Math.Option.{none, some}
use Rattle.model.specs.Term.{var, Book, Bindings, Tree, free, node, Trees, nil, more, deref, occurs, val}
use Rattle.theory.specs.Values.{proper}

-- x put for the variable v in a value
unfoldable mutual
  pub put : ℕ → Tree → Tree → Tree
  put v x (free y) = cond (eqb v y) x (free y)
  put v x (node s ts) = node s (put_all v x ts)

  pub put_all : ℕ → Tree → Trees → Trees
  put_all v x nil = nil
  put_all v x (more t ts) = more (put v x t) (put_all v x ts)

-- From bindings β to β', v is bound to t: no value contains itself, each new value is the old one with t's value put for v,
-- equal values stay equal, and what a term stands for changes only where it stood for v.
pub record Binds (b : Book) (β β' : Bindings) (v t : ℕ) : Type 0 where
  pub stays-proper : T (proper b β')
  pub values : (u : ℕ) → u < length b → val b β' u ≡ put v (val b β t) (val b β u)
  pub equal_stay : (u w : ℕ) → u < length b → w < length b → val b β u ≡ val b β w → val b β' u ≡ val b β' w
  pub stands : (u : ℕ) → u < length b
      → deref b β' (length b) u ≡ cond (eqb v (deref b β (length b) u)) (deref b β (length b) t) (deref b β (length b) u)

-- With v free and not in the value of t.
abbrev pub BindingPutsValues : Type 0
BindingPutsValues = (b : Book) (β : Bindings) (v t : ℕ) → T (proper b β) → v < length b → t < length b
    → get_or b v var ≡ var → get_or β v none ≡ none → occurs v (val b β t) ≡ false → Binds b β (set β v (some t)) v t
