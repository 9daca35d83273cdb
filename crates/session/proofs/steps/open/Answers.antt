-- `steps::open` meets its contract: the session's length, the number at its front, and the book (proofs/steps/Opening.antt). Assumes
-- nothing.
use Rattle.std.proofs.Common.{arith}
use Rattle.std.proofs.lemmas.Result.{err_from_is_err_and}
use Rattle.session.proofs.text.Numbers.{number_ahead}
use Rattle.session.proofs.steps.Opening.{too_long, no_length, past_end, refused, accepted}
use Rattle.session.proofs.steps.open.Goals as goal

pub returns-then-input-gt-LONGEST : goal.returns-then-input-gt-LONGEST
returns-then-input-gt-LONGEST c = too_long _ _ c.if-input-gt-LONGEST.true

pub returns-in_err-number : goal.returns-in_err-number
returns-in_err-number c =
    let p = err_from_is_err_and c.from_residual.result c.from_residual.ensures.1 in
    rw (p.1, p.2) (no_length _ _ c.if-input-gt-LONGEST.false c.in_err-number.ensures.answer)

pub overflow_sub-input : goal.overflow_sub-input
overflow_sub-input c = (number_ahead _ _ c.in_ok-number.ensures.answer).1

pub returns-then-input-number : goal.returns-then-input-number
returns-then-input-number c = past_end _ _ c.if-input-gt-LONGEST.false c.in_ok-number.ensures.answer c.if-input-number.true

pub slice_bounds-open-end : goal.slice_bounds-open-end
slice_bounds-open-end c = omega (arith, c.if-input-number.false, (number_ahead _ _ c.in_ok-number.ensures.answer).1)

pub returns-in_err-open : goal.returns-in_err-open
returns-in_err-open c =
    let p = err_from_is_err_and c.from_residual-in_err-open.result c.from_residual-in_err-open.ensures.1 in
    let book = c.in_err-open.ensures in
    rw (p.1, p.2) (refused _ _ c.if-input-gt-LONGEST.false c.in_ok-number.ensures.answer c.if-input-number.false _ book.refusal book.area)

pub returns : goal.returns
returns c =
    let book = c.in_ok-open.ensures in
    accepted _ _ c.if-input-gt-LONGEST.false c.in_ok-number.ensures.answer c.if-input-number.false book.refusal book.area
