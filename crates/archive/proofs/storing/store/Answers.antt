-- `store` meets its contract: the rows that the decoder leaves hold the book, the list is its variables first, and the rows moved hold the
-- stored book. Assumes nothing.
use Rattle.std.proofs.Common.{sym, arith}
use Rattle.std.proofs.lemmas.Result.{err_from_is_err_and}
use Rattle.book.proofs.encode.BookHeld.{held-encodable, held-few}
use Rattle.book.proofs.encode.Copied.{book_decoded, decoded_few}
use Rattle.layout.proofs.limits.Modest.{modest}
use Rattle.archive.proofs.storing.Storing.{listed-room, places-room, moved-room, moved-blank, part_fits, part_long, store_refused, long, listed-low, distinct, small-list, lists_moved, stored_held, stored_bytes_lem, stored_written, inverted}
use Rattle.archive.proofs.storing.store.Goals as goal

pub returns-in_err-terms : goal.returns-in_err-terms
returns-in_err-terms c =
    let p = err_from_is_err_and c.from_residual.result c.from_residual.ensures.1 in
    rw (p.1, p.2) (store_refused _ _ _ _ _ c.in_err-terms.ensures.refusal)

pub slice_bounds-listed-end : goal.slice_bounds-listed-end
slice_bounds-listed-end c =
    let e = c.in_ok-terms.ensures in
    part_fits _ _ (book_decoded _ (modest c.args.lim) _ _ _ (sym e.refusal) e.terms e.rows) _ (listed-room c.requires)

pub slice_bounds-listed-end-2 : goal.slice_bounds-listed-end-2
slice_bounds-listed-end-2 c =
    let e = c.in_ok-terms.ensures in
    sym (part_long _ _ (book_decoded _ (modest c.args.lim) _ _ _ (sym e.refusal) e.terms e.rows) _ (listed-room c.requires))

pub slice_bounds-places-end : goal.slice_bounds-places-end
slice_bounds-places-end c =
    let e = c.in_ok-terms.ensures in
    part_fits _ _ (book_decoded _ (modest c.args.lim) _ _ _ (sym e.refusal) e.terms e.rows) _ (places-room c.requires)

pub slice_bounds-places-end-2 : goal.slice_bounds-places-end-2
slice_bounds-places-end-2 c =
    let e = c.in_ok-terms.ensures in
    sym (part_long _ _ (book_decoded _ (modest c.args.lim) _ _ _ (sym e.refusal) e.terms e.rows) _ (places-room c.requires))

pub invert-requires : goal.invert-requires
invert-requires c =
    let m = modest c.args.lim in
    let e = c.in_ok-terms.ensures in
    let d = book_decoded _ m _ _ _ (sym e.refusal) e.terms e.rows in
    let room = listed-room c.requires in
    let n = long _ _ d m _ _ room c.variables_first.ensures in (
      omega (arith, n, part_long _ _ d _ (places-room c.requires)),
      omega (arith, n, decoded_few _ _ d, m.terms),
      listed-low _ _ d m _ _ room c.variables_first.ensures,
    )

pub unwrap-requires : goal.unwrap-requires
unwrap-requires c =
    let m = modest c.args.lim in
    let e = c.in_ok-terms.ensures in
    let d = book_decoded _ m _ _ _ (sym e.refusal) e.terms e.rows in
    (inverted _ _ (distinct _ _ d m _ _ (listed-room c.requires) c.variables_first.ensures) c.invert.ensures.distinct c.invert.ensures.places).0

pub move_terms-found-requires : goal.move_terms-found-requires
move_terms-found-requires c =
    let m = modest c.args.lim in
    let e = c.in_ok-terms.ensures in
    let d = book_decoded _ m _ _ _ (sym e.refusal) e.terms e.rows in
    let lent = c.requires in
    let room = listed-room lent in
    let n = long _ _ d m _ _ room c.variables_first.ensures in (
      lists_moved _ _ d m _ _ room c.variables_first.ensures _ _ (places-room lent) c.invert.auto.places,
      omega (arith, n, decoded_few _ _ d, moved-room lent),
      moved-blank lent,
      omega (arith, n, decoded_few _ _ d, m.terms),
    )

pub write_both-requires : goal.write_both-requires
write_both-requires c =
    let m = modest c.args.lim in
    let e = c.in_ok-terms.ensures in
    let d = book_decoded _ m _ _ _ (sym e.refusal) e.terms e.rows in
    let lent = c.requires in
    let room = listed-room lent in
    let list = c.variables_first.ensures in
    let v = (inverted _ _ (distinct _ _ d m _ _ room list) c.invert.ensures.distinct c.invert.ensures.places).1 in
    let found = c.move_terms-found.ensures in
    let h = stored_held _ _ d m _ _ room list _ _ (places-room lent) c.invert.auto.places v _ _ lent.moved_zero found.moved in (
      held-encodable h,
      omega (arith, held-few h),
      stored_bytes_lem _ _ d m _ _ room list _ _ (places-room lent) c.invert.auto.places v _ _ lent.moved_zero found.moved found.bytes,
      small-list _ _ d m _ _ room list,
    )

pub returns : goal.returns
returns c =
    let m = modest c.args.lim in
    let e = c.in_ok-terms.ensures in
    let d = book_decoded _ m _ _ _ (sym e.refusal) e.terms e.rows in
    let lent = c.requires in
    let room = listed-room lent in
    let list = c.variables_first.ensures in
    let v = (inverted _ _ (distinct _ _ d m _ _ room list) c.invert.ensures.distinct c.invert.ensures.places).1 in
    let found = c.move_terms-found.ensures in
    stored_written _ _ d m _ _ room list _ _ (places-room lent) c.invert.auto.places v _ _ lent.moved_zero found.moved _ _ c.write_both.ensures
