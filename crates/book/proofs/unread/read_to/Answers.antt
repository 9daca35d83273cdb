-- Nothing is read where the number of terms is refused, and else up to where the terms are read.
use Rattle.std.proofs.Common.{arith}
use Rattle.refusal.specs.declared.Refusal.TheVariants.{OutOfRange}
use Rattle.book.proofs.reader.Below.{part_says, below-small}
use Rattle.book.proofs.decode.Whole.{zeros-length, read_none, read_up_to}
use Rattle.book.proofs.unread.read_to.Goals as goal

pub terms_read_to-requires : goal.terms_read_to-requires
terms_read_to-requires c =
    let read = part_says c.args.bytes.now 0 _ OutOfRange c.in-Ok.ensures in
    let long = zeros-length _ c.requires in
    (read.1, omega (arith, below-small _ 4 _ _ _ read.0), rw long c.requires)

pub returns-in-Err : goal.returns-in-Err
returns-in-Err c = read_none _ _ _ (part_says c.args.bytes.now 0 _ OutOfRange c.in-Err.ensures)

pub returns-in-Ok : goal.returns-in-Ok
returns-in-Ok c =
    let read = part_says c.args.bytes.now 0 _ OutOfRange c.in-Ok.ensures in
    read_up_to _ _ _ _ read.0 _ c.terms_read_to.ensures.unread c.terms_read_to.ensures.within
