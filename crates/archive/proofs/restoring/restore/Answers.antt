-- `restore` meets its contract. Where nothing is refused the rows moved are those of a book, and that book is written. Assumes nothing.
use Rattle.std.proofs.Common.{ap, sym, ◌∙◌, length, arith}
use Rattle.std.proofs.lemmas.Result.{err_from_is_err_and}
use Rattle.model.specs.BookBytes.{book_bytes}
use Rattle.model.specs.Archive.{call_restore}
use Rattle.theory.proofs.Archive.Calls.{restored_positive}
use Rattle.book.proofs.encode.BookHeld.{held-encodable, held-book, held-few}
use Rattle.book.proofs.encode.Copied.{copied_refused, copied}
use Rattle.layout.proofs.limits.Modest.{modest}
use Rattle.archive.proofs.restoring.Restoring.{restored_decoded}
use Rattle.archive.proofs.restoring.restore.Goals as goal

pub returns-in_err-restored : goal.returns-in_err-restored
unfolding call_restore
returns-in_err-restored c =
    let p = err_from_is_err_and c.from_residual.result c.from_residual.ensures.1 in
    rw (p.1, p.2) (copied_refused _ c.args.out.now _ c.in_err-restored.ensures.refusal)

pub write_measured-requires : goal.write_measured-requires
write_measured-requires c =
    let e = c.in_ok-restored.ensures in
    let d = (restored_decoded _ (modest c.args.lim) _ _ _ _ (sym e.refusal) e.terms e.rows).held in
    (held-encodable d, omega (arith, held-few d), e.bytes ∙ ap (λ b. length (book_bytes b)) (sym (held-book d)))

pub returns : goal.returns
unfolding call_restore
returns c =
    let e = c.in_ok-restored.ensures in
    copied _ _ (restored_positive _ _ _) (restored_decoded _ (modest c.args.lim) _ _ _ _ (sym e.refusal) e.terms e.rows) c.write_measured.ensures
