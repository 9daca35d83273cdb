-- `read_below` meets its contract: what the reader of numbers answers is the model's outcome, and the test compares with the
-- limit. Assumes nothing.
use Rattle.std.proofs.lemmas.Result.{err_from_is_err_and}
use Rattle.std.proofs.Common.{lt-ltb, le-ltb}
use Rattle.book.proofs.reader.Below.{part_answered}
use Rattle.book.proofs.parse.read_below.Goals as goal

pub returns-in_err-number : goal.returns-in_err-number
returns-in_err-number c =
    let a = c.args in
    let p = err_from_is_err_and c.from_residual.result c.from_residual.ensures.1 in
    rw (p.1, p.2) (part_answered a.bytes.now a.at a.limit a.refusal c.in_err-number.ensures.answer)

pub returns-then-number-limit : goal.returns-then-number-limit
returns-then-number-limit c =
    let a = c.args in
    rw (lt-ltb _ _ c.if-number-limit.true) at (part_answered a.bytes.now a.at a.limit a.refusal c.in_ok-number.ensures.answer)

pub returns-else-number-limit : goal.returns-else-number-limit
returns-else-number-limit c =
    let a = c.args in
    rw (le-ltb _ _ c.if-number-limit.false) at (part_answered a.bytes.now a.at a.limit a.refusal c.in_ok-number.ensures.answer)
