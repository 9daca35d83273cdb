-- `numbering::renumber` meets its contract: in each turn one number more is put. Assumes nothing.
use Rattle.std.proofs.Common.{ℕ, ◌-◌, ap, get_or}
use Rattle.report.proofs.numbering.Renumbering.{renumber_more}
use Rattle.report.proofs.numbering.renumber.Goals as goal

pub loop-j-preserved : goal.loop-j-preserved
loop-j-preserved c =
    renumber_more _ _ _ _ _ _ c.requires.in_bounds c.loop-j-test.true c.loop-j.invariant (ap (λ (x : ℕ). get_or c.args.numbers.now x 0 - 1) c.class_at-x.ensures)
