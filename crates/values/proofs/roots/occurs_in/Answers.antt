-- Each turn finds one flag more from those of the terms before it; the term itself is among them.
use Rattle.std.proofs.Common.{sym, ap, ◌∙◌, arith}
use Rattle.model.specs.Term.{val, occurs}
use Rattle.layout.specs.limits.Rows.{book_of, bound_of}
use Rattle.values.specs.roots.Flags.{flag}
use Rattle.values.proofs.roots.Settled.{length-list, turn, filled_more, filled_all}
use Rattle.values.proofs.roots.Flags.{flag-stands, flag-word, occurs-next}
use Rattle.values.proofs.roots.occurs_in.Goals as goal

pub slice_bounds-u-items-end : goal.slice_bounds-u-items-end
slice_bounds-u-items-end c = sym (length-list c.requires.listed.0)

-- the term itself
pub returns-then-u-t : goal.returns-then-u-t
returns-then-u-t c =
    let t = turn c.requires.listed.0 c.loop-u.u-index c.loop-u-test.true in
    occurs-next _ c.loop-u.invariant t.0 _ (rw t.1 at c.occurs_step-stands.ensures)
    ∙ ap (λ u. occurs c.args.v (val (book_of c.args.terms.rows.now c.args.terms.n) (bound_of c.args.terms.bindings.now c.args.terms.n) u)) (sym t.1 ∙ c.if-u-t.true)

pub loop-u-preserved : goal.loop-u-preserved
loop-u-preserved c =
    let t = turn c.requires.listed.0 c.loop-u.u-index c.loop-u-test.true in
    rw t.1
    (filled_more c.loop-u.invariant _ t.0
    (c.from.ensures ∙ flag-word _ ∙ ap flag (occurs-next _ c.loop-u.invariant t.0 _ (rw t.1 at c.occurs_step-stands.ensures))))

pub returns : goal.returns
returns c = flag-stands _ _ (filled_all c.loop-u.invariant (omega (arith, length-list c.requires.listed.0)) _ c.requires.t_lt_n)
