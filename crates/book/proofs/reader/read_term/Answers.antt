-- The parts of a reader make a term: `new` and `head` read its head, `arguments` puts it into its row. Assumes nothing.
use Rattle.std.proofs.lemmas.Result.{err_from_is_err_and}
use Rattle.book.proofs.decode.Term.{term-refused, term-read}
use Rattle.book.proofs.reader.read_term.Goals as goal

pub returns-in_err-head : goal.returns-in_err-head
returns-in_err-head c =
    let new = c.new.ensures in
    let p = err_from_is_err_and c.from_residual.result c.from_residual.ensures.1 in
    rw (p.1, p.2) (term-refused c.args.bytes.now c.args.at c.args.t _ (rw (new.0, new.1) at c.in_err-head.ensures))

pub returns : goal.returns
returns c =
    let new = c.new.ensures in
    let head = rw (new.0, new.1) at c.in_ok-head.ensures in
    term-read _ _ _ _ _ _ head.1 _ (rw head.0 at c.arguments.ensures)
