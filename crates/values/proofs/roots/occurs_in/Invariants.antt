-- The words of the terms so far are the flags of their values.
use Rattle.values.proofs.roots.Settled.{Filled}
use Rattle.values.proofs.roots.Flags.{IsFlag}
use Rattle.values.proofs.roots.occurs_in.Given as goal

abbrev pub invariant-loop-u : goal.invariant-loop-u
invariant-loop-u l = Filled l.terms.rows.now l.terms.bindings.now l.list l.terms.n (IsFlag l.terms.rows.now l.terms.bindings.now l.terms.n l.v) l.initial.flags l.flags l.u-index
