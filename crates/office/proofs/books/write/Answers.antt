-- `books::write` meets its contract. Where the area is sound, its rows are those of its book, and that book is written. Assumes
-- nothing.
use Rattle.std.proofs.Common.{arith}
use Rattle.std.proofs.lemmas.Result.{err_from_is_err_and}
use Rattle.book.proofs.encode.BookHeld.{held-encodable, held-few}
use Rattle.office.proofs.read.Headed.{headed}
use Rattle.office.proofs.books.Written.{book_seven, read_held, written-book}
use Rattle.office.proofs.books.write.Goals as goal

pub returns-in_err-h : goal.returns-in_err-h
returns-in_err-h c =
    let p = err_from_is_err_and c.from_residual.result c.from_residual.ensures.1 in
    let no = c.in_err-h.ensures in
    rw (p.1, p.2, no.1) (book_seven _ _ no.0)

pub write_book-requires : goal.write_book-requires
write_book-requires c =
    let r = c.in_ok-h.ensures in
    let d = read_held r.2 _ (headed _ _ r.1).1 in (held-encodable d, omega (arith, held-few d))

pub returns : goal.returns
returns c =
    let r = c.in_ok-h.ensures in
    written-book r.2 _ (headed _ _ r.1).1 r.0 _ c.write_book.ensures
