-- What is asked of a book in rows and of a list of its terms. Assumes nothing: these are definitions.
use Rattle.std.specs.Prelude.{List, ℕ, take, T}
use Rattle.model.specs.Term.{acyclic}
use Rattle.layout.specs.limits.Rows.{book_of, bound_of, GoodTerms}
use Rattle.values.specs.order.Order.{Ordered}

-- The first n rows and words hold a book in which no value contains itself, and the first n numbers of the list are its terms,
-- each behind all that its value is made of.
pub record Listed (rows bindings list : List ℕ) (n : ℕ) : Type 0 where
  pub good : GoodTerms rows bindings n
  pub no_cycle : T (acyclic (book_of rows n) (bound_of bindings n))
  pub ordered : Ordered (book_of rows n) (bound_of bindings n) (take n list)
