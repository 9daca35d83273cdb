-- `move_arguments` meets its contract: each argument has a new number, of at most three bytes. Assumes nothing.
use Rattle.std.proofs.Common.{get_or, arith, lt-ltb, le-ltb}
use mathlib.Core.Bool.{and-true, and-false}
use Rattle.runs.proofs.Numbers.{length-write}
use Rattle.archive.proofs.moving.Arguments.{moved_none, moved_more, moved-small, moved_all}
use Rattle.archive.proofs.moving.move_arguments.Goals as goal
use Rattle.archive.proofs.moving.move_arguments.Goals.{then-limit-b, else-limit-b}

pub loop-j-init : goal.loop-j-init
loop-j-init c = moved_none _ _

pub overflow_add-bytes : goal.overflow_add-bytes
overflow_add-bytes c =
    let a = c.args in
    let few = moved-small _ _ c.loop-j.invariant (omega arith) in
    omega (arith, few, c.length_of-bytes.ensures, length-write (get_or a.target.now (get_or a.arguments.now c.loop-j.j 0) 0))

pub loop-j-preserved : goal.loop-j-preserved
loop-j-preserved c =
    let more = moved_more _ _ c.loop-j.invariant c.loop-j-test.true _ c.length_of-bytes.ensures in
    elim c.if-limit-b.branch [
      | then-limit-b w ↦ more _ (rw (w.lower-is, le-ltb _ _ w.if-limit-b.true, and-false))
      | else-limit-b w ↦ more _ (rw (w.lower-is, lt-ltb _ _ w.if-limit-b.false, and-true))
    ]

pub returns : goal.returns
returns c = moved_all _ _ c.loop-j.invariant (omega arith) c.requires.0
