-- `terms_read_to` meets its contract: at first, at a refusal, after one term more and at the end. Assumes nothing.
use Rattle.book.proofs.decode.Book.{read_none, read_more, unread_refused, unread_all}
use Rattle.book.proofs.unread.terms_read_to.Goals as goal

pub loop-t-init : goal.loop-t-init
loop-t-init c = read_none _ _ _ _ _ c.requires.0 c.requires.2

pub returns-in-Err-clause-unread : goal.returns-in-Err-clause-unread
returns-in-Err-clause-unread c =
    (unread_refused _ _ _ _ _ _ _ c.loop-t.invariant c.loop-t-test.true c.read_term.new.rows _ c.in-Err.ensures).0

pub loop-t-preserved : goal.loop-t-preserved
loop-t-preserved c =
    read_more _ _ _ _ _ _ _ c.loop-t.invariant c.loop-t-test.true _ _ c.requires.1 c.in-Ok.ensures

pub returns-clause-unread : goal.returns-clause-unread
returns-clause-unread c = (unread_all _ _ _ _ _ _ _ c.loop-t.invariant c.loop-t-test.false).0
