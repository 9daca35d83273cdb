-- `read_list` meets its contract: a number that is none refuses the list, and the tests follow in order. Assumes nothing.
use Rattle.std.proofs.Common.{refl, sym, ◌∙◌, length, leb, arith, rules, tests}
use Rattle.std.proofs.lemmas.Iterator.{YieldsList-from_slice}
use Rattle.std.proofs.lemmas.Iterator.Search.{any_from_yields_List}
use Rattle.std.proofs.lemmas.Result.{err_from_is_err_and}
use Rattle.book.specs.parse.Parts.{outcome}
use Rattle.book.proofs.reader.Below.{number-answered}
use Rattle.archive.proofs.list.Numbers.{read_none, read_more, read-refused, read_left, read_unnamed, read_named}
use Rattle.archive.proofs.list.read_list.Goals as goal

pub loop-place-init : goal.loop-place-init
loop-place-init c = read_none refl

pub returns-in_err-number : goal.returns-in_err-number
unfolding outcome
returns-in_err-number c =
    let p = err_from_is_err_and c.from_residual.result c.from_residual.ensures.1 in
    rw (p.1, p.2) (read-refused c.loop-place.invariant c.loop-place-test.true _ (number-answered _ _ c.in_err-number.ensures.answer))

pub loop-place-preserved : goal.loop-place-preserved
loop-place-preserved c =
    read_more c.loop-place.invariant c.loop-place-test.true _ _ (number-answered _ _ c.in_ok-number.ensures.answer)

pub returns-then-next-list : goal.returns-then-next-list
unfolding outcome
returns-then-next-list c = read_left c.loop-place.invariant (omega arith) c.if-next-list.true

pub returns-then-any : goal.returns-then-any
unfolding outcome
returns-then-any c =
    let n = length c.args.listed.now in
    let tested = any_from_yields_List (leb n) _ _ c.any.result c.any.ensures.ran (YieldsList-from_slice c.loop-place.listed cc) (λ x b q k. search (rules, tests)) in
    read_unnamed c.loop-place.invariant (omega arith) c.if-next-list.false (sym c.if-any.true ∙ tested)

pub returns : goal.returns
unfolding outcome
returns c =
    let n = length c.args.listed.now in
    let tested = any_from_yields_List (leb n) _ _ c.any.result c.any.ensures.ran (YieldsList-from_slice c.loop-place.listed cc) (λ x b q k. search (rules, tests)) in
    read_named c.loop-place.invariant (omega arith) c.if-next-list.false (sym c.if-any.false ∙ tested)
