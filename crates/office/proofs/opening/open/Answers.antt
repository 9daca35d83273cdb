-- `opening::open` meets its contract: each return is a case of opening (proofs/opening/OpenCases.antt). Assumes nothing.
use Rattle.std.proofs.Common.{◌≡◌, rules, sym, ◌∙◌}
use Rattle.std.proofs.lemmas.Result.{err_from_is_err_and}
use Rattle.refusal.specs.declared.Refusal.TheVariants.{OutOfRange}
use Rattle.office.proofs.opening.OpenCases.{needed, open_four, open_seven, open_refused, open_accepted}
use Rattle.office.proofs.opening.open.Goals as goal

pub returns-in_err-needed : goal.returns-in_err-needed
returns-in_err-needed c =
    let p = err_from_is_err_and c.from_residual.result c.from_residual.ensures.1 in
    let none = c.in_err-needed.ensures in
    let out = rw none.ok_part at none.value in
    let four : c.in_err-needed.field-0.0 ≡ OutOfRange = cc in
    let e = open_four _ c.args.book.now c.args.area.now (sym c.area_length.ensures ∙ none.ok_part) in
    rw (p.1, p.2, four) (record { refusal = e.0; area = e.1 })

pub returns-then-area-needed : goal.returns-then-area-needed
returns-then-area-needed c =
    let e = open_seven _ c.args.book.now _ (sym c.area_length.ensures ∙ c.in_ok-needed.ensures.ok_part) c.if-area-needed.true in
    record { refusal = e.0; area = e.1 }

pub returns-in_err-terms : goal.returns-in_err-terms
returns-in_err-terms c =
    let p = err_from_is_err_and c.from_residual-in_err-terms.result c.from_residual-in_err-terms.ensures.1 in
    let e = open_refused _ _ _ (sym c.area_length.ensures ∙ c.in_ok-needed.ensures.ok_part) c.if-area-needed.false _ c.in_err-terms.ensures.refusal in
    rw (p.1, p.2) (record { refusal = e.0; area = e.1 })

pub opened-requires : goal.opened-requires
opened-requires c =
    (needed c.args.capacity c.args.book.now c.args.area.now (sym c.area_length.ensures ∙ c.in_ok-needed.ensures.ok_part), c.if-area-needed.false, search rules)

pub returns : goal.returns
returns c =
    let read = c.in_ok-terms.ensures in
    let e = open_accepted _ c.args.book.now c.args.area.now (sym c.area_length.ensures ∙ c.in_ok-needed.ensures.ok_part) c.if-area-needed.false (sym read.refusal) _ read.terms _ read.rows
    _ c.opened.ensures in
    record { refusal = e.0; area = e.1 }
