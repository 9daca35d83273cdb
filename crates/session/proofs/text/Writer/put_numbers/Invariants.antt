-- The numbers up to the position are put (proofs/text/Numbers.antt, `Shown`). What is left of the bytes gets less.
use Rattle.std.proofs.Common.{◌-◌, length}
use Rattle.session.proofs.text.Numbers.{Shown}
use Rattle.session.proofs.text.Writer.put_numbers.Given as goal

abbrev pub invariant-loop-pos : goal.invariant-loop-pos
invariant-loop-pos l = Shown l.bytes l.fn.self l.self l.pos

abbrev pub decreases-loop-pos : goal.decreases-loop-pos
decreases-loop-pos l = length l.bytes - l.pos
