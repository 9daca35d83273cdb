-- The part of `out` that is lent has room for the number. Assumes nothing.
use Rattle.runs.proofs.Over.{number-laid}
use Rattle.runs.proofs.put_number.Goals as goal

pub returns : goal.returns
returns c =
    let put = number-laid c.args.out.now c.args.at c.args.n c.requires.0 c.requires.1 _ _ c.write.ensures.count c.write.ensures.bytes in
    record { next = put.0; bytes = put.1 }
