-- The test of a binding, by the word of the binding and the first word of the term's row. Assumes nothing.
use Rattle.std.proofs.Common.{◌≡◌, List, true, false, ℕ, suc, ◌*◌, ◌-◌, arith, ne_eqb, leb}
use Rattle.model.specs.Area.{term_words, binding_ok}
use Rattle.layout.specs.limits.Rows.{at, node_of, book_of, binding_of}
use Rattle.layout.proofs.limits.Rows.{length-book_of}

module _ (rows bindings : List ℕ) (n t : ℕ) where
  -- a term that is not bound
  pub unbound : at bindings t ≡ 0 → true ≡ binding_ok (book_of rows n) (node_of rows t) (binding_of bindings t)
  unfolding binding_ok binding_of
  unbound e = rw e

  module _ (e : at bindings t ≡ 0 → ⊥) where
    -- a bound application
    pub bound_application : (at rows (term_words * t) ≡ 0 → ⊥) → false ≡ binding_ok (book_of rows n) (node_of rows t) (binding_of bindings t)
    unfolding binding_ok binding_of node_of
    bound_application d = rw (ne_eqb (at bindings t) 0 e, ne_eqb (at rows (term_words * t)) 0 d)

    -- a bound variable: its word is a term's number plus 1
    pub bound-variable : at rows (term_words * t) ≡ 0 → leb (at bindings t) n ≡ binding_ok (book_of rows n) (node_of rows t) (binding_of bindings t)
    unfolding binding_ok binding_of node_of
    bound-variable d =
        let back : suc (at bindings t - 1) ≡ at bindings t = omega arith in
        rw (ne_eqb (at bindings t) 0 e, d, length-book_of, back)
