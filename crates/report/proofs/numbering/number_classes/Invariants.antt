-- The loop of `numbering::number_classes`: the arguments of the first `i` numbers are met, and `m - i` numbers at most are left.
use Rattle.std.proofs.Common.{◌≡◌, ◌-◌}
use Rattle.report.proofs.numbering.Whole.{Reached}
use Rattle.report.proofs.numbering.number_classes.Given as goal

abbrev pub invariant-loop-i : goal.invariant-loop-i
invariant-loop-i l =
    Reached l.lines l.entries l.m l.classes.met.now l.classes.numbers.now l.classes.count l.i × (l.classes.m ≡ l.m)
    × (l.classes.entries.now ≡ l.entries) × (l.classes.met.ghost_name ≡ l.initial.classes.met.ghost_name)
    × (l.classes.numbers.ghost_name ≡ l.initial.classes.numbers.ghost_name)

abbrev pub decreases-loop-i : goal.decreases-loop-i
decreases-loop-i l = l.m - l.i
