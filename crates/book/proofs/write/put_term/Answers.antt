-- `put_term` meets its contract: a term's bytes are those of its numbers. Assumes nothing.
use Rattle.std.proofs.Common.{◌*◌}
use Rattle.model.specs.Area.{term_words}
use Rattle.runs.proofs.Numbers.{small_part}
use Rattle.book.specs.encode.Encoding.{term_bytes}
use Rattle.book.proofs.write.put_term.Goals as goal

pub put_run-requires : goal.put_run-requires
unfolding term_bytes
put_run-requires c =
    let numbers = c.numbers_of-numbers.ensures in
    (rw numbers.part (small_part _ (term_words * c.args.t) _ c.requires.1), rw numbers.numbers c.requires.2)

pub returns : goal.returns
unfolding term_bytes
returns c = rw c.numbers_of-numbers.ensures.numbers at c.put_run.ensures
