-- `kinds::kinds_ok`: what `all` answers. Assumes nothing.
use Rattle.std.proofs.Common.{◌∙◌, sym, rules}
use Rattle.model.specs.Table.{hole_at, entry}
use Rattle.layout.specs.limits.Rows.{table_of}
use Rattle.layout.proofs.limits.Rows.{length-table_of}
use Rattle.soundness.specs.kinds.KindTests.{kind_right}
use Rattle.soundness.proofs.rows.Loops.{all-range, all-places}
use Rattle.soundness.proofs.kinds.kinds_ok.Goals as goal

pub returns : goal.returns
returns c b β k =
    let es = table_of c.args.entries.now c.args.m in
    all-range (λ i. kind_right b β es (entry es i)) c.args.m _ c.all.ensures.runs (cc) (λ x r q h. search rules)
    ∙ sym (rw length-table_of at (all-places (kind_right b β es) es (hole_at 0 0 0)))
