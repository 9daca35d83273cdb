-- `length_of` meets its contract: at each return the tests say how many groups the number has. Assumes nothing.
use Rattle.std.proofs.Common.{arith, sym, ap, length}
use Rattle.leb128.proofs.Writing.{one_byte_lem, two_bytes_lem, three_long}
use Rattle.leb128.proofs.length_of.Goals as goal

pub returns-then-n-lt128 : goal.returns-then-n-lt128
returns-then-n-lt128 c = sym (ap length (one_byte_lem c.args.n (omega arith)))

pub returns-then-n-lt16384 : goal.returns-then-n-lt16384
returns-then-n-lt16384 c = sym (ap length (two_bytes_lem c.args.n (omega arith) (omega arith)))

pub returns-else-n-lt16384 : goal.returns-else-n-lt16384
returns-else-n-lt16384 c = sym (three_long c.args.n (omega arith))
