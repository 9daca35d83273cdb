-- The part is an argument in the row, or what the variable is bound to.
use Rattle.std.proofs.Common.{arith}
use Rattle.values.proofs.order.Parts.{parts-app, bound-word, part_bound, good_book, few-parts}
use Rattle.values.proofs.order.part.Goals as goal

pub offset_bounds-args-i : goal.offset_bounds-args-i
offset_bounds-args-i c =
    let good = good_book c.args.terms.now.good in
    omega (arith, c.requires.i_in_bounds, few-parts _ _ good.formed c.args.t (omega (arith, good.size, c.requires.t_lt_n)))

pub bounds-args-i : goal.bounds-args-i
bounds-args-i c = rw (parts-app c.args.terms.now.good c.args.t c.requires.t_lt_n c.in-Some.ensures) at c.requires.i_in_bounds

pub returns-in-Some : goal.returns-in-Some
returns-in-Some c = rw (parts-app c.args.terms.now.good c.args.t c.requires.t_lt_n c.in-Some.ensures)

pub overflow_sub-result : goal.overflow_sub-result
overflow_sub-result c = bound-word c.args.terms.now.good c.args.t c.requires.t_lt_n c.in-None.ensures c.args.i c.requires.i_in_bounds

pub returns-in-None : goal.returns-in-None
returns-in-None c = part_bound c.args.terms.now.good c.args.t c.requires.t_lt_n c.in-None.ensures c.args.i c.requires.i_in_bounds
