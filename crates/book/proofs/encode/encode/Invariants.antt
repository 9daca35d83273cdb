-- Behind the number of terms, the bytes of the first `t` terms are laid over `out`.
use Rattle.book.specs.encode.Encoding.{terms_bytes}
use Rattle.runs.proofs.Over.{Laid}
use Rattle.book.proofs.encode.encode.Given as goal

abbrev pub invariant-loop-t : goal.invariant-loop-t
invariant-loop-t l = Laid l.initial.out l.initial.at (terms_bytes l.rows l.t) l.out l.at
