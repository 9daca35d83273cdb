-- The book and the bindings in terms, as the code holds them. Assumes nothing: these are definitions.
use Rattle.model.specs.Term.{Book, Bindings}
use Rattle.layout.specs.limits.Rows.{book_of, bound_of}
use Rattle.values.specs.declared.term.Terms.{Terms}

abbrev pub book : Terms → Book
book x = book_of x.rows.now x.n

abbrev pub bound : Terms → Bindings
bound x = bound_of x.bindings.now x.n
