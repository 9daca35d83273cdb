-- `said::of_opening` is safe: a fault is within the longest session. Assumes nothing.
use Rattle.std.proofs.Common.{rules}
use Rattle.session.proofs.fault.Refused.{fault_within}
use Rattle.session.proofs.said.of_opening.Goals as goal

pub overflow_cast-opening_fault : goal.overflow_cast-opening_fault
overflow_cast-opening_fault g c = search (rules, fault_within _ c.opening_fault.ensures)
