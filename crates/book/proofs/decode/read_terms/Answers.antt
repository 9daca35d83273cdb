-- `read_terms` meets its contract: at first, at a refusal, after one term more and at the end. Assumes nothing.
use Rattle.std.proofs.lemmas.Result.{err_from_is_err_and}
use Rattle.book.proofs.decode.Book.{read_none, read_more, read-refused, read_all}
use Rattle.book.proofs.decode.read_terms.Goals as goal

pub loop-t-init : goal.loop-t-init
loop-t-init c = read_none _ _ _ _ _ c.requires.0 c.requires.2

pub returns-in_err-next : goal.returns-in_err-next
returns-in_err-next c =
    let p = err_from_is_err_and c.from_residual.result c.from_residual.ensures.1 in
    rw (p.1, p.2) (read-refused _ _ _ _ _ _ _ c.loop-t.invariant c.loop-t-test.true c.read_term.new.rows _ c.in_err-next.ensures)

pub loop-t-preserved : goal.loop-t-preserved
loop-t-preserved c =
    read_more _ _ _ _ _ _ _ c.loop-t.invariant c.loop-t-test.true _ _ c.requires.1 c.in_ok-next.ensures

pub returns : goal.returns
returns c = read_all _ _ _ _ _ _ _ c.loop-t.invariant c.loop-t-test.false
