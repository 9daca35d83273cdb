-- `reports::report` meets its contract. Where the area is sound, what was read of it tells its state, and that state is reported.
-- Assumes nothing.
use Rattle.std.proofs.Common.{sym, ◌∙◌}
use Rattle.std.proofs.lemmas.Result.{err_from_is_err_and}
use Rattle.model.specs.Limits.{office}
use Rattle.model.specs.Area.{state_of}
use Rattle.area.proofs.load.Uses.{read-entries}
use Rattle.office.proofs.read.Headed.{headed}
use Rattle.office.proofs.reports.Reported.{report_seven, read_told, written-report}
use Rattle.office.proofs.reports.report.Goals as goal

pub returns-in_err-h : goal.returns-in_err-h
returns-in_err-h c =
    let p = err_from_is_err_and c.from_residual.result c.from_residual.ensures.1 in
    let no = c.in_err-h.ensures in
    rw (p.1, p.2, no.1) (report_seven _ _ no.0)

pub report-requires-clause-state : goal.report-requires-clause-state
report-requires-clause-state c =
    let r = c.in_ok-h.ensures in
    let n = headed _ _ r.1 in
    record { state = state_of _ office; holds = (read_told r.2 _ _ n.0 n.3, n.2 ∙ sym (read-entries r.2.read)) }

pub returns : goal.returns
returns c =
    let r = c.in_ok-h.ensures in
    let n = headed _ _ r.1 in
    written-report r.2 r.0 _ (c.report.ensures _ (read_told r.2 _ _ n.0 n.3) (n.2 ∙ sym (read-entries r.2.read)))
