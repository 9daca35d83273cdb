-- `numbering::Classes::meet_all` meets its contract: in each turn one class more is met. Assumes nothing.
use Rattle.report.proofs.numbering.Items.{meets_none, item_row, item_class, items_more}
use Rattle.report.proofs.numbering.Classes.meet_all.Goals as goal

pub loop-i-init : goal.loop-i-init
loop-i-init c = meets_none c.args.self.now

pub class_at-x-requires : goal.class_at-x-requires
class_at-x-requires c = item_row c.args.self.now c.loop-i.self _ c.requires _ c.loop-i-test.true c.loop-i.invariant

pub meet-requires : goal.meet-requires
meet-requires c = item_class c.args.self.now c.loop-i.self _ c.requires _ c.loop-i-test.true c.loop-i.invariant _ c.class_at-x.ensures

pub loop-i-preserved : goal.loop-i-preserved
loop-i-preserved c =
    items_more c.args.self.now c.loop-i.self _ c.requires _ c.loop-i-test.true c.loop-i.invariant _ c.class_at-x.ensures
    c.meet.new.self c.meet.ensures
