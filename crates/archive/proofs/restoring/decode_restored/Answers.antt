-- `decode_restored` meets its contract, refusal by refusal; at the end the rows moved hold the book that is restored. Assumes nothing.
use Rattle.std.proofs.Common.{sym, ◌∙◌, arith}
use Rattle.std.proofs.lemmas.Result.{err_from_is_err_and}
use Rattle.book.proofs.encode.Copied.{book_decoded, decoded_few}
use Rattle.layout.proofs.limits.Modest.{modest}
use Rattle.archive.proofs.storing.Storing.{listed-room, places-room, moved-room, moved-blank, part_fits, part_long}
use Rattle.archive.proofs.restoring.Restoring.{book-refused, list-refused, list_read, named-low, list_twice, inverted, lists_moved, not_lower, all_restored}
use Rattle.archive.proofs.restoring.decode_restored.Goals as goal

pub returns-in_err-terms : goal.returns-in_err-terms
returns-in_err-terms c =
    let p = err_from_is_err_and c.from_residual.result c.from_residual.ensures.1 in
    rw (p.1, p.2) (book-refused _ _ c.args.list.now _ c.in_err-terms.ensures.refusal c.args.moved.now)

pub slice_bounds-listed-end : goal.slice_bounds-listed-end
slice_bounds-listed-end c =
    let e = c.in_ok-terms.ensures in
    part_fits _ _ (book_decoded _ (modest c.args.lim) _ _ _ (sym e.refusal) e.terms e.rows) _ (listed-room c.requires)

pub slice_bounds-listed-end-2 : goal.slice_bounds-listed-end-2
slice_bounds-listed-end-2 c =
    let e = c.in_ok-terms.ensures in
    sym (part_long _ _ (book_decoded _ (modest c.args.lim) _ _ _ (sym e.refusal) e.terms e.rows) _ (listed-room c.requires))

pub slice_bounds-places-end : goal.slice_bounds-places-end
slice_bounds-places-end c =
    let e = c.in_ok-terms.ensures in
    part_fits _ _ (book_decoded _ (modest c.args.lim) _ _ _ (sym e.refusal) e.terms e.rows) _ (places-room c.requires)

pub slice_bounds-places-end-2 : goal.slice_bounds-places-end-2
slice_bounds-places-end-2 c =
    let e = c.in_ok-terms.ensures in
    sym (part_long _ _ (book_decoded _ (modest c.args.lim) _ _ _ (sym e.refusal) e.terms e.rows) _ (places-room c.requires))

pub returns-in_err-read_list : goal.returns-in_err-read_list
returns-in_err-read_list c =
    let e = c.in_ok-terms.ensures in
    let d = book_decoded _ (modest c.args.lim) _ _ _ (sym e.refusal) e.terms e.rows in
    let p = err_from_is_err_and c.from_residual-in_err-read_list.result c.from_residual-in_err-read_list.ensures.1 in
    rw (p.1, p.2)
    (list-refused _ _ c.args.list.now d _ (listed-room c.requires) _ c.read_list.new.listed c.in_err-read_list.ensures c.args.moved.now)

pub invert-requires : goal.invert-requires
invert-requires c =
    let e = c.in_ok-terms.ensures in
    let d = book_decoded _ (modest c.args.lim) _ _ _ (sym e.refusal) e.terms e.rows in
    let r = list_read _ _ c.args.list.now d _ (listed-room c.requires) _ c.read_list.auto.listed _ c.in_ok-read_list.ensures in (
      omega (arith, r.long, part_long _ _ d _ (places-room c.requires)),
      omega (arith, r.long, decoded_few _ _ d, (modest c.args.lim).terms),
      named-low _ _ _ d r,
    )

pub returns-in_err-invert : goal.returns-in_err-invert
returns-in_err-invert c =
    let e = c.in_ok-terms.ensures in
    let d = book_decoded _ (modest c.args.lim) _ _ _ (sym e.refusal) e.terms e.rows in
    let r = list_read _ _ c.args.list.now d _ (listed-room c.requires) _ c.read_list.auto.listed _ c.in_ok-read_list.ensures in
    let twice = c.in_err-invert.ensures.distinct in
    let p = err_from_is_err_and c.from_residual-in_err-invert.result c.from_residual-in_err-invert.ensures.1 in
    rw (p.1, p.2, twice.1) (list_twice _ _ _ d r twice.0 c.args.moved.now)

pub move_terms-found-requires : goal.move_terms-found-requires
move_terms-found-requires c =
    let e = c.in_ok-terms.ensures in
    let d = book_decoded _ (modest c.args.lim) _ _ _ (sym e.refusal) e.terms e.rows in
    let lent = c.requires in
    let r = list_read _ _ c.args.list.now d _ (listed-room lent) _ c.read_list.auto.listed _ c.in_ok-read_list.ensures in
    let once = c.in_ok-invert.ensures in
    let v = inverted _ _ _ d r _ _ (places-room lent) c.invert.auto.places once.distinct once.places in
    let few = decoded_few _ _ d in
    (lists_moved _ _ _ d r v, omega (arith, few, v.long, moved-room lent), moved-blank lent, omega (arith, few, v.long, (modest c.args.lim).terms))

pub returns-then-not-found : goal.returns-then-not-found
returns-then-not-found c =
    let e = c.in_ok-terms.ensures in
    let d = book_decoded _ (modest c.args.lim) _ _ _ (sym e.refusal) e.terms e.rows in
    let lent = c.requires in
    let r = list_read _ _ c.args.list.now d _ (listed-room lent) _ c.read_list.auto.listed _ c.in_ok-read_list.ensures in
    let once = c.in_ok-invert.ensures in
    let v = inverted _ _ _ d r _ _ (places-room lent) c.invert.auto.places once.distinct once.places in
    not_lower _ _ _ d r v (sym c.move_terms-found.ensures.lower ∙ c.if-not-found.true) c.move_terms-found.new.moved

pub returns : goal.returns
returns c =
    let e = c.in_ok-terms.ensures in
    let d = book_decoded _ (modest c.args.lim) _ _ _ (sym e.refusal) e.terms e.rows in
    let lent = c.requires in
    let r = list_read _ _ c.args.list.now d _ (listed-room lent) _ c.read_list.auto.listed _ c.in_ok-read_list.ensures in
    let once = c.in_ok-invert.ensures in
    let v = inverted _ _ _ d r _ _ (places-room lent) c.invert.auto.places once.distinct once.places in
    let moved = c.move_terms-found.ensures in
    all_restored _ _ _ d r v (sym moved.lower ∙ c.if-not-found.false) _ _ lent.moved_zero moved.moved _ moved.bytes
