-- At each return what was read says which case of a class holds.
use Rattle.std.proofs.Common.{arith}
use Rattle.values.proofs.roots.Reading.{bound_below}
use Rattle.values.proofs.roots.Settled.{list-fits}
use Rattle.values.proofs.names.ClassOf.{t_lt, earlier_terms, earlier_place, class-free, class-bound, class-new, old-place, class-old}
use Rattle.values.proofs.names.class_of.Goals as goal

pub bounds-list-k : goal.bounds-list-k
bounds-list-k c = omega (arith, list-fits c.requires.listed, c.requires.within)

pub earlier-requires-clause-terms : goal.earlier-requires-clause-terms
earlier-requires-clause-terms c = earlier_terms c.requires

pub earlier-requires-clause-place : goal.earlier-requires-clause-place
earlier-requires-clause-place c = earlier_place c.requires

pub bounds-list-j : goal.bounds-list-j
bounds-list-j c = (old-place c.requires c.in-Some-default.ensures c.in-Some.ensures).0

pub bounds-classes-list : goal.bounds-classes-list
bounds-classes-list c = (old-place c.requires c.in-Some-default.ensures c.in-Some.ensures).1

pub returns-in-Some : goal.returns-in-Some
returns-in-Some c = class-old c.requires c.in-Some-default.ensures c.in-Some.ensures

pub returns-in-None : goal.returns-in-None
returns-in-None c = class-new c.requires c.in-Some-default.ensures c.in-None.ensures

pub bounds-classes-u : goal.bounds-classes-u
bounds-classes-u c = omega (arith, bound_below c.args.terms.good (t_lt c.requires) c.in-None-Some.ensures', c.requires.classes_fit)

pub returns-in-None-Some : goal.returns-in-None-Some
returns-in-None-Some c = class-bound c.requires c.in-None-Some.ensures c.in-None-Some.ensures'

pub returns-in-None-None : goal.returns-in-None-None
returns-in-None-None c = class-free c.requires c.in-None-None.ensures c.in-None-None.ensures'
