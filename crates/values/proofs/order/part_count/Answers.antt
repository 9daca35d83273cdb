-- An application has as many parts as arguments, a bound variable one, and a free one none.
use Rattle.values.proofs.order.Parts.{parts-app, parts_free, parts-bound}
use Rattle.values.proofs.order.part_count.Goals as goal

pub returns-in-Some-default : goal.returns-in-Some-default
returns-in-Some-default c = rw (parts-app c.args.terms.now.good c.args.t c.requires c.in-Some-default.ensures)

pub returns-in-None-Some : goal.returns-in-None-Some
returns-in-None-Some c = rw (parts-bound c.args.terms.now.good c.args.t c.requires c.in-None-Some.ensures c.in-None-Some.ensures')

pub returns-in-None-None : goal.returns-in-None-None
returns-in-None-None c = rw (parts_free c.args.terms.now.good c.args.t c.requires c.in-None-None.ensures c.in-None-None.ensures')
