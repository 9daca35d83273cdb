-- `turns::take_turn` meets its contract: a report that is kept, a report that is made, another step (proofs/turns/Turning.antt). Assumes nothing.
use Rattle.std.proofs.Common.{rules, ◌≡◌}
use Rattle.std.specs.Prelude.{Ok, Err}
use Rattle.session.specs.declared.command.Command.TheVariants.{Report}
use Rattle.session.specs.declared.steps.Reply.TheVariants.{Answered}
use Rattle.printing.proofs.turns.Turning.{report_kept, report_made, step_taken, step_refused}
use Rattle.printing.proofs.turns.take_turn.Goals as goal

pub returns-in-Some : goal.returns-in-Some
returns-in-Some c =
    let asked : c.command_at.result ≡ Ok (Report c.in-Ok-Report.next) = search rules in
    report_kept _ _ _ _ c.command_at.ensures.command asked _ c.args.text.now c.requires.kept c.in-Some.is

pub returns-in-None : goal.returns-in-None
returns-in-None c =
    let asked : c.command_at.result ≡ Ok (Report c.in-Ok-Report.next) = search rules in
    let step = c.step_at-reply.ensures in let line = c.line-size.ensures in
    report_made _ _ _ _ c.command_at.ensures.command asked _ c.args.text.now (step.answer, (step.area, step.output)) (line.count, line.bytes)

pub returns-in-Answered-Err-default : goal.returns-in-Answered-Err-default
returns-in-Answered-Err-default c =
    let asked : c.step_at-reply-2.result ≡ Answered (Err c.in-Answered-Err-default.answer-0) c.in-Answered-Err-default.next = search rules in
    let step = c.step_at-reply-2.ensures in let line = c.line-size-2.ensures in
    step_refused _ _ _ _ (step.answer, (step.area, step.output)) _ (line.count, line.bytes) c.goes_on.ensures c.args.report.now asked _ c.requires.kept

pub returns-in_default-reply : goal.returns-in_default-reply
returns-in_default-reply c =
    let step = c.step_at-reply-2.ensures in let line = c.line-size-2.ensures in
    step_taken _ _ _ _ (step.answer, (step.area, step.output)) _ (line.count, line.bytes) c.goes_on.ensures c.args.report.now

pub returns-in_default-reply-2 : goal.returns-in_default-reply-2
returns-in_default-reply-2 c =
    let step = c.step_at-reply-2.ensures in let line = c.line-size-2.ensures in
    step_taken _ _ _ _ (step.answer, (step.area, step.output)) _ (line.count, line.bytes) c.goes_on.ensures c.args.report.now
