-- `same_as::settle` meets its contract: the search finds the entry's same-as. Assumes nothing.
use Rattle.std.proofs.Common.{arith}
use Rattle.table.proofs.same_as.Settling.{same_as_word, settling_more, settling_all}
use Rattle.table.proofs.same_as.settle.Goals as goal

pub overflow_cast-e : goal.overflow_cast-e
overflow_cast-e c = omega (arith, same_as_word c.requires.known c.loop-i-test.true c.find-found.ensures)

pub loop-i-preserved : goal.loop-i-preserved
loop-i-preserved c =
    settling_more c.loop-i.invariant c.loop-i-test.true c.find-found.ensures _ c.entry_at-e.ensures c.put_entry.ensures
    c.put_entry.auto.entries

pub returns : goal.returns
returns c = settling_all c.loop-i.invariant c.loop-i-test.false
