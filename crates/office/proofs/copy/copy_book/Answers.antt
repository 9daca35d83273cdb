-- `copy::copy_book` meets its contract. Where the decoder refuses nothing, its rows are those of a book, and that book is
-- written. Assumes nothing.
use Rattle.std.proofs.Common.{sym, arith}
use Rattle.std.proofs.lemmas.Result.{err_from_is_err_and}
use Rattle.model.specs.Limits.{office}
use Rattle.model.specs.Call.{call_copy}
use Rattle.theory.proofs.Book.Opening.{book_positive}
use Rattle.theory.proofs.Report.Lengths.{office-modest}
use Rattle.book.proofs.encode.BookHeld.{held-encodable, held-few}
use Rattle.book.proofs.encode.Copied.{book_decoded, copied_refused, copied}
use Rattle.office.proofs.copy.copy_book.Goals as goal

pub returns-in_err-terms : goal.returns-in_err-terms
unfolding call_copy
returns-in_err-terms c =
    let p = err_from_is_err_and c.from_residual.result c.from_residual.ensures.1 in
    rw (p.1, p.2) (copied_refused _ _ _ c.in_err-terms.ensures.refusal)

pub write_book-requires : goal.write_book-requires
write_book-requires c =
    let e = c.in_ok-terms.ensures in
    let d = (book_decoded office office-modest _ _ _ (sym e.refusal) e.terms e.rows).held in (held-encodable d, omega (arith, held-few d))

pub returns : goal.returns
unfolding call_copy
returns c =
    let e = c.in_ok-terms.ensures in
    copied _ _ (book_positive office _) (book_decoded office office-modest _ _ _ (sym e.refusal) e.terms e.rows) c.write_book.ensures
