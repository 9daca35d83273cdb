-- The values of the terms: the list, what each stands for, and its name. Assumes nothing.
use Rattle.std.proofs.Common.{◌≡◌, sym, ap, ◌∙◌, List, ◌++◌, map, Bool, true, ℕ, take, drop, take-append-drop, take_at}
use Rattle.model.specs.Lists.{from}
use Rattle.model.specs.Term.{deref, name, acyclic}
use Rattle.theory.proofs.Lists.Laws.{true_T}
use Rattle.theory.proofs.Lists.From.{length-map-from}
use Rattle.layout.specs.limits.Rows.{book_of, bound_of, GoodTerms}
use Rattle.values.specs.order.Order.{Ordered}
use Rattle.values.specs.roots.Reading.{Listed}
use Rattle.values.specs.evaluate.Valued.{Valued}

-- a list whose first n words are known
pub front : (n : ℕ) (xs ys : List ℕ) → take n xs ≡ ys → xs ≡ ys ++ drop n xs
front n xs ys e = sym (take-append-drop n xs) ∙ ap (λ zs. zs ++ drop n xs) e

-- the first n of what was written over them
take-written : (f : ℕ → ℕ) (n : ℕ) (xs rest : List ℕ) → xs ≡ map f (from 0 n) ++ rest → take n xs ≡ map f (from 0 n)
take-written f n xs rest e = rw e (take_at (map f (from 0 n)) rest n (length-map-from f 0 n))

module _ {rows bindings list : List ℕ} {n : ℕ} where
  -- where the walk found no value that contains itself
  pub listed : GoodTerms rows bindings n → {r : Bool} → r ≡ acyclic (book_of rows n) (bound_of bindings n)
      → (r ≡ true → Ordered (book_of rows n) (bound_of bindings n) (take n list)) → r ≡ true → Listed rows bindings list n
  listed good e ordered h = record { good = good; no_cycle = true_T _ (sym e ∙ h); ordered = ordered h }

  -- what the terms stand for, and their names
  pub valued : Listed rows bindings list n → (roots names xs ys : List ℕ)
      → roots ≡ map (deref (book_of rows n) (bound_of bindings n) n) (from 0 n) ++ xs
      → names ≡ map (name (book_of rows n) (bound_of bindings n)) (from 0 n) ++ ys → Valued rows bindings list roots names n
  valued l roots names xs ys r s =
      record { listed = l; is-roots = take-written _ n roots xs r; is-names = take-written _ n names ys s }
