-- `head_at` meets its contract: the first number is within its limit, and the count behind it, where there is one. Assumes nothing.
use Rattle.std.proofs.lemmas.Result.{err_from_is_err_and}
use Rattle.refusal.specs.declared.Refusal.TheVariants.{OutOfRange}
use Rattle.book.proofs.reader.Below.{part_says}
use Rattle.book.proofs.decode.Term.{first-refused, head-var, head-counted, count-refused}
use Rattle.book.proofs.parse.head_at.Goals as goal

pub returns-in_err-first : goal.returns-in_err-first
returns-in_err-first c =
    let a = c.args in
    let p = err_from_is_err_and c.from_residual.result c.from_residual.ensures.1 in
    rw (p.1, p.2) (first-refused a.bytes.now a.at _ (part_says a.bytes.now a.at _ OutOfRange c.in_err-first.ensures))

pub returns-then-first-eq0 : goal.returns-then-first-eq0
returns-then-first-eq0 c =
    let a = c.args in
    head-var a.bytes.now a.at c.in_ok-first.first (part_says a.bytes.now a.at _ OutOfRange c.in_ok-first.ensures) c.if-first-eq0.true

pub returns-in_err-count : goal.returns-in_err-count
returns-in_err-count c =
    let a = c.args in
    let p = err_from_is_err_and c.from_residual-in_err-count.result c.from_residual-in_err-count.ensures.1 in
    rw (p.1, p.2)
    (count-refused a.bytes.now a.at c.in_ok-first.first (part_says a.bytes.now a.at _ OutOfRange c.in_ok-first.ensures)
    c.if-first-eq0.false _ (part_says a.bytes.now c.in_ok-first.first.next _ OutOfRange c.in_err-count.ensures))

pub returns : goal.returns
returns c =
    let a = c.args in
    head-counted a.bytes.now a.at c.in_ok-first.first (part_says a.bytes.now a.at _ OutOfRange c.in_ok-first.ensures)
    c.if-first-eq0.false c.in_ok-count.count
    (part_says a.bytes.now c.in_ok-first.first.next _ OutOfRange c.in_ok-count.ensures)
