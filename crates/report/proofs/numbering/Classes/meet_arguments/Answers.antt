-- `numbering::Classes::meet_arguments` meets its contract: the places of the entry that are lent are its arguments. Assumes nothing.
use Rattle.std.proofs.Common.{sym}
use Rattle.report.proofs.numbering.Items.{meets_none}
use Rattle.report.proofs.numbering.Rows.{hole-classes, places-read, length-read, entries-read, classes-read}
use Rattle.report.proofs.numbering.Classes.meet_arguments.Goals as goal

pub slice_bounds-arguments-end : goal.slice_bounds-arguments-end
slice_bounds-arguments-end c = places-read (c.args.self.now.closed.row _ c.requires) _ c.entry_at-e.ensures c.if-e-ne0.true

pub slice_bounds-meet_all-end : goal.slice_bounds-meet_all-end
slice_bounds-meet_all-end c = sym (length-read (c.args.self.now.closed.row _ c.requires) _ c.entry_at-e.ensures c.if-e-ne0.true)

pub meet_all-requires : goal.meet_all-requires
meet_all-requires c =
    let closed = c.args.self.now.closed in
    entries-read (closed.row _ c.requires) _ c.entry_at-e.ensures c.if-e-ne0.true _ c.requires closed

pub returns-then-e-ne0 : goal.returns-then-e-ne0
returns-then-e-ne0 c =
    rw (classes-read (c.args.self.now.closed.row _ c.requires) _ c.entry_at-e.ensures c.if-e-ne0.true _ c.requires) at c.meet_all.ensures

pub returns-else-e-ne0 : goal.returns-else-e-ne0
returns-else-e-ne0 c =
    rw (hole-classes (c.args.self.now.closed.row _ c.requires) _ c.entry_at-e.ensures c.if-e-ne0.false _ c.requires)
    (meets_none c.args.self.now)
