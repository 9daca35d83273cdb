-- `write::report` meets its contract: the classes are numbered, then the lines, and what they are numbered for is written.
-- Assumes nothing.
use Rattle.report.proofs.write.Whole.{told_closed, told_tabled, told_count, told_shown, told_head}
use Rattle.report.proofs.write.report.Goals as goal

pub number_classes-count-requires-clause-closed : goal.number_classes-count-requires-clause-closed
number_classes-count-requires-clause-closed c =
    let given = c.requires.state.holds in
    told_closed given.0 given.1

pub invariant_of-source : goal.invariant_of-source
invariant_of-source c =
    let given = c.requires.state in
    let t = given.holds.0 in
    let e = given.holds.1 in
    let h = c.number_classes-count.ensures in
    record {
      given = ∣ record {
        state = given.state;
        holds = (told_shown t e h, told_head t e _ _ (c.number_lines.ensures _ (told_tabled t e h) t.is-lines (told_count t e h)));
      } ∣₁;
    }

pub returns : goal.returns
returns c = λ s t e.
    let h = c.number_classes-count.ensures in
    c.emit.ensures s (told_shown t e h, told_head t e _ _ (c.number_lines.ensures s (told_tabled t e h) t.is-lines (told_count t e h)))
