-- `read_arguments` meets its contract: at first, at a refusal, after one argument more and at the end. Assumes nothing.
use Rattle.std.proofs.lemmas.Result.{err_from_is_err_and}
use Rattle.refusal.specs.declared.Refusal.TheVariants.{NotLower}
use Rattle.book.proofs.reader.Below.{part_says}
use Rattle.book.proofs.decode.Arguments.{read_none, read_more, read-refused, read_all}
use Rattle.book.proofs.parse.read_arguments.Goals as goal

pub loop-i-init : goal.loop-i-init
loop-i-init c = read_none _ _ _ _ _ c.requires.0

pub returns-in_err-argument : goal.returns-in_err-argument
returns-in_err-argument c =
    let p = err_from_is_err_and c.from_residual.result c.from_residual.ensures.1 in
    rw (p.1, p.2)
    (read-refused _ _ _ _ _ _ _ _ c.loop-i.invariant _ c.loop-i-test.true
    (part_says c.args.bytes.now c.loop-i.next _ NotLower c.in_err-argument.ensures))

pub loop-i-preserved : goal.loop-i-preserved
loop-i-preserved c =
    let read = part_says c.args.bytes.now c.loop-i.next _ NotLower c.in_ok-argument.ensures in
    read_more _ _ _ _ _ _ _ _ c.loop-i.invariant _ _ c.loop-i-test.true read.0 read.1

pub returns : goal.returns
returns c = read_all _ _ _ _ _ _ _ _ c.loop-i.invariant c.loop-i-test.false
