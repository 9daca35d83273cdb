-- Each turn finds one word more from those of the terms before it.
use Rattle.std.proofs.Common.{sym, arith}
use Rattle.values.proofs.roots.Settled.{length-list, turn, filled_more, filled_map}
use Rattle.values.proofs.roots.RootStep.{root-next}
use Rattle.values.proofs.roots.roots.Goals as goal

pub slice_bounds-t-items-end : goal.slice_bounds-t-items-end
slice_bounds-t-items-end c = sym (length-list c.requires.0)

pub loop-t-preserved : goal.loop-t-preserved
loop-t-preserved c =
    let t = turn c.requires.0 c.loop-t.t-index c.loop-t-test.true in
    rw t.1 (filled_more c.loop-t.invariant _ t.0 (root-next c.loop-t.invariant t.0 _ (rw t.1 at c.root_of.ensures)))

pub returns : goal.returns
returns c = filled_map c.loop-t.invariant _ (λ t w e. e) (omega (arith, length-list c.requires.0))
