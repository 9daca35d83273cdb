-- The loop of `numbering::Classes::meet_all`: the classes of the entries so far are met.
use Rattle.std.proofs.Common.{map, take}
use Rattle.model.specs.Report.{class}
use Rattle.layout.specs.limits.Rows.{table_of}
use Rattle.report.specs.numbering.Classes.{Meets}
use Rattle.report.proofs.numbering.Classes.meet_all.Given as goal

abbrev pub invariant-loop-i : goal.invariant-loop-i
invariant-loop-i l = Meets l.fn.self (map (class (table_of l.fn.self.entries.now l.fn.self.m)) (take l.i-index l.items)) l.self
