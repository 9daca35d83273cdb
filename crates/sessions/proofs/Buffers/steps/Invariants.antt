-- `steps` ends: each turn leads behind its position. The loop keeps what is kept of a report, and where all turns from here lead.
use Rattle.std.proofs.Common.{◌≡◌, length, ◌-◌}
use Rattle.printing.specs.turns.Turns.{KeptReport}
use Rattle.printing.specs.whole.Loop.{standing, end_from}
use Rattle.sessions.proofs.Buffers.steps.Given as goal

abbrev pub invariant-loop-at : goal.invariant-loop-at
invariant-loop-at g l = record {
  kept : KeptReport l.self.area l.self.out l.self.report l.kept;
  leads : end_from l.input (standing l.at l.self.area l.self.out) ≡ end_from l.input (standing l.fn.first l.fn.self.area l.fn.self.out);
}

abbrev pub decreases-loop-at : goal.decreases-loop-at
decreases-loop-at g l = length l.input - l.at
