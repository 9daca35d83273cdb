-- `steps::report` meets its contract, by what the call answers (proofs/steps/Stepping.antt). Assumes nothing.
use Rattle.session.proofs.steps.Stepping.{is_reported, not_reported}
use Rattle.session.proofs.steps.report.Goals as goal

pub returns-in-Ok-clause-answer : goal.returns-in-Ok-clause-answer
returns-in-Ok-clause-answer c = let r = c.report.ensures in is_reported _ _ r.0 c.in-Ok.is r.1.0

pub returns-in-Err-clause-answer : goal.returns-in-Err-clause-answer
returns-in-Err-clause-answer c = let r = c.report.ensures in not_reported _ _ r.0 c.in-Err.is
