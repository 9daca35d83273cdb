-- `read` meets its contract: at each return the tests say what stands at the position. A byte is below 256, so
-- that its seven low bits are what it is above 128. An end behind the first byte the check finds by itself, by `second_cut` and
-- `second_cut_told`. Assumes nothing.
use Rattle.std.proofs.Common.{arith, ◌≡◌, sym, ap, ◌∙◌, ℕ, List, Result}
use Rattle.std.proofs.lemmas.Result.{err_from_is_err_and}
use Rattle.leb128.specs.Number.{max_groups, max_number}
use Rattle.leb128.specs.Answer.{read_at, numbers, numbers_at}
use Rattle.leb128.specs.declared.Number.{Number}
use Rattle.leb128.specs.declared.NumberError.{NumberError}
use Rattle.leb128.proofs.Reading.{numbers_told, first-cut, first-number, second_zero, second_number, to_third}
use Rattle.leb128.proofs.read.Goals as goal

-- the answer tells its numbers
told : (bytes : List ℕ) (at : ℕ) (r : Result Number NumberError) → r ≡ read_at max_groups max_number bytes at
    → record { answer : r ≡ read_at max_groups max_number bytes at; numbers : numbers r ≡ numbers_at max_groups max_number bytes at }
told bytes at r e = record { answer = e; numbers = ap numbers e ∙ numbers_told bytes at }

pub returns-in_err-x : goal.returns-in_err-x
returns-in_err-x c =
    let a = c.args in
    let p = err_from_is_err_and c.from_residual.result c.from_residual.ensures.1 in
    told a.s.now a.at _ (rw (p.1, p.2, c.in_err-x.ensures.1) (sym (first-cut a.s.now a.at c.in_err-x.ensures.0)))

pub returns-then-x-lt128 : goal.returns-then-x-lt128
returns-then-x-lt128 c =
    let a = c.args in
    let is = c.in_ok-x.ensures in
    told a.s.now a.at _ (rw is.1 (sym (first-number a.s.now a.at is.0 (omega (arith, is)))))

pub returns-then-y-eq0 : goal.returns-then-y-eq0
returns-then-y-eq0 c =
    let a = c.args in
    let first = c.in_ok-x.ensures in
    let is = c.in_ok-y.ensures in
    told a.s.now a.at _ (sym (second_zero a.s.now a.at first.0 (omega (arith, first)) is.0 (omega (arith, is))))

pub returns-then-y-lt128 : goal.returns-then-y-lt128
returns-then-y-lt128 c =
    let a = c.args in
    let first = c.in_ok-x.ensures in
    let is = c.in_ok-y.ensures in
    told a.s.now a.at _
    (rw (first.1, is.1) (sym (second_number a.s.now a.at first.0 (omega (arith, first)) is.0 (omega (arith, first)) (omega (arith, is)) (omega (arith, is)))))

pub returns : goal.returns
returns c =
    let a = c.args in
    let first = c.in_ok-x.ensures in
    let is = c.in_ok-y.ensures in
    told a.s.now a.at _
    (c.read_third.ensures ∙ rw (first.1, is.1) (sym (to_third a.s.now a.at first.0 (omega (arith, first)) is.0 (omega (arith, first)) (omega (arith, is)) (omega (arith, is)))))
