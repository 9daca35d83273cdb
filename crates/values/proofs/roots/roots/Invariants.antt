-- The words of the terms so far are what they stand for.
use Rattle.values.proofs.roots.Settled.{Filled}
use Rattle.values.proofs.roots.RootStep.{IsRoot}
use Rattle.values.proofs.roots.roots.Given as goal

abbrev pub invariant-loop-t : goal.invariant-loop-t
invariant-loop-t l = Filled l.terms.rows.now l.terms.bindings.now l.list l.terms.n (IsRoot l.terms.rows.now l.terms.bindings.now l.terms.n) l.initial.roots l.roots l.t-index
