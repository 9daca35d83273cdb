-- A walk that refuses has met a value that contains itself; with all terms walked the list is in order.
use Rattle.values.proofs.order.Parts.{good_book}
use Rattle.values.proofs.order.Orders.{upto_none, upto_more, upto_refused, upto_acyclic, upto_ordered}
use Rattle.values.proofs.order.order.Goals as goal

pub loop-t-init : goal.loop-t-init
loop-t-init c =
    rw c.clear.ensures
    (upto_none (good_book c.args.terms.good) c.args.marks.now c.args.list.now c.requires.n_in_bounds c.requires.n_in_bounds_2)

pub returns-in-None-clause-value : goal.returns-in-None-clause-value
returns-in-None-clause-value c =
    upto_refused (good_book c.args.terms.good) c.loop-t.invariant c.loop-t-test.true c.in-None.ensures

pub loop-t-preserved : goal.loop-t-preserved
loop-t-preserved c = upto_more (good_book c.args.terms.good) c.loop-t.invariant c.loop-t-test.true c.in-Some.ensures

pub returns-clause-value : goal.returns-clause-value
returns-clause-value c = upto_acyclic (good_book c.args.terms.good) c.loop-t.invariant c.loop-t-test.false

pub returns-clause-ordered : goal.returns-clause-ordered
returns-clause-ordered c = λ _. upto_ordered (good_book c.args.terms.good) c.loop-t.invariant c.loop-t-test.false
