-- `write` meets its contract: at each return the tests say how many groups the number has and whether they fit, and
-- the stores leave its bytes at the front. Assumes nothing.
use Rattle.std.proofs.Common.{arith}
use Rattle.leb128.proofs.Writing.{one_byte_lem, two_groups, three_groups, wrote_above, wrote_short, wrote_all}
use Rattle.leb128.proofs.write.Goals as goal

pub returns-then-n-gt65535 : goal.returns-then-n-gt65535
returns-then-n-gt65535 c = wrote_above c.args.out.now c.args.n (omega arith)

pub returns-then-out-lt1 : goal.returns-then-out-lt1
returns-then-out-lt1 c = wrote_short c.args.out.now c.args.n (omega arith) _ (one_byte_lem c.args.n (omega arith)) (omega arith)

pub returns-then-n-lt128 : goal.returns-then-n-lt128
returns-then-n-lt128 c = wrote_all c.args.out.now c.args.n (omega arith) _ (one_byte_lem c.args.n (omega arith)) (omega arith)

pub returns-then-out-lt2 : goal.returns-then-out-lt2
returns-then-out-lt2 c = wrote_short c.args.out.now c.args.n (omega arith) _ (two_groups c.args.n (omega arith) (omega arith)) (omega arith)

pub returns-then-n-lt16384 : goal.returns-then-n-lt16384
returns-then-n-lt16384 c = wrote_all c.args.out.now c.args.n (omega arith) _ (two_groups c.args.n (omega arith) (omega arith)) (omega arith)

pub returns-then-out-lt3 : goal.returns-then-out-lt3
returns-then-out-lt3 c = wrote_short c.args.out.now c.args.n (omega arith) _ (three_groups c.args.n (omega arith) (omega arith)) (omega arith)

pub returns : goal.returns
returns c = wrote_all c.args.out.now c.args.n (omega arith) _ (three_groups c.args.n (omega arith) (omega arith)) (omega arith)
