-- `read_third` meets its contract: at each return the tests say what stands at the position. A byte is below 256, so
-- that the sum fits. Assumes nothing.
use Rattle.std.proofs.Common.{arith, rules, sym}
use Rattle.std.proofs.lemmas.Result.{err_from_is_err_and}
use Rattle.leb128.proofs.Reading.{third_cut, third_zero, third_above, third_number}
use Rattle.leb128.proofs.read_third.Goals as goal

pub returns-in_err-z : goal.returns-in_err-z
returns-in_err-z c =
    let a = c.args in
    let p = err_from_is_err_and c.from_residual.result c.from_residual.ensures.1 in
    rw (p.1, p.2, c.in_err-z.ensures.1) (sym (third_cut a.s.now a.at a.x a.y c.in_err-z.ensures.0))

pub overflow_mul-value-2 : goal.overflow_mul-value-2
overflow_mul-value-2 c = omega (arith, c.in_ok-z.ensures)

pub overflow_add-value-2 : goal.overflow_add-value-2
overflow_add-value-2 c = omega (arith, c.in_ok-z.ensures)

pub returns-then-z-eq0 : goal.returns-then-z-eq0
returns-then-z-eq0 c =
    let a = c.args in
    let is = c.in_ok-z.ensures in
    sym (third_zero a.s.now a.at a.x a.y is.0 (omega (arith, is)))

pub returns-then-value-gt65535 : goal.returns-then-value-gt65535
returns-then-value-gt65535 c =
    let a = c.args in
    let is = c.in_ok-z.ensures in
    sym (third_above a.s.now a.at a.x a.y is.0 (omega (arith, is)) (omega (arith, is)))

pub overflow_add-result : goal.overflow_add-result
overflow_add-result c = let is = c.in_ok-z.ensures in search rules

pub returns : goal.returns
returns c =
    let a = c.args in
    let is = c.in_ok-z.ensures in
    rw is.1 (sym (third_number a.s.now a.at a.x a.y is.0 (omega (arith, is)) (omega (arith, is))))
