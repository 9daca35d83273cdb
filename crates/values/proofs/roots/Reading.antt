-- What a term of a good book is made of, one step down, are terms. Assumes nothing.
use Rattle.std.proofs.Common.{◌≡◌, ◌∙◌, List, ℕ, ◌<◌, arith, length}
use Rattle.std.proofs.Math.Option.{some}
use Rattle.model.specs.Term.{app, arguments}
use Rattle.theory.proofs.Soundness.Facts.{Formed}
use Rattle.layout.specs.limits.Rows.{at, node_of, book_of, binding_of, bound_of, GoodTerms}
use Rattle.layout.proofs.limits.Rows.{length-book_of, get_or-book_of, get_or-bound_of, good_formed}

module _ {rows bindings : List ℕ} {n t : ℕ} (good : GoodTerms rows bindings n) (l : t < n) where
  formed : Formed (book_of rows n) (bound_of bindings n)
  formed = good_formed good

  -- the term that a variable is bound to
  pub bound_below : {u : ℕ} → binding_of bindings t ≡ some u → u < n
  bound_below {u} e = rw length-book_of at (formed.bound-var t u (get_or-bound_of bindings n t l ∙ e)).1

  -- the arguments of an application
  pub arguments_below : {s : ℕ} {args : List ℕ} → node_of rows t ≡ app s args → (j : ℕ) → j < length args → at args j < n
  unfolding arguments
  arguments_below p j k =
      let lower = rw (get_or-book_of rows n t l, p) at (formed.lower t (rw length-book_of l) j) in omega (arith, lower k)
