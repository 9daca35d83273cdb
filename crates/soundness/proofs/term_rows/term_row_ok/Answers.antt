-- `term_rows::term_row_ok`: each return follows the tests that lead there. Assumes nothing.
use Rattle.std.proofs.Common.{◌≡◌, ◌&&◌, ◌+◌, ◌*◌, eqb, sym, ◌∙◌, inl, inr, arith}
use Rattle.model.specs.Lists.{all}
use Rattle.model.specs.Area.{term_words}
use Rattle.layout.specs.limits.Rows.{at}
use Rattle.soundness.specs.rows.RowTests.{term_row_ok}
use Rattle.soundness.proofs.rows.Parts.{part}
use Rattle.soundness.proofs.rows.Zeros.{zeros-below-one}
use Rattle.soundness.proofs.term_rows.TermRow.{variable-row, high_symbol, high_count, application_row}
use Rattle.soundness.proofs.term_rows.term_row_ok.Goals as goal
use Rattle.soundness.proofs.term_rows.term_row_ok.Goals.{After-all_below-2}

-- a variable
pub returns-then-tag-eq0 : goal.returns-then-tag-eq0
returns-then-tag-eq0 c = c.all_below.ensures ∙ zeros-below-one _ ∙ sym (variable-row _ _ c.requires c.if-tag-eq0.true)

-- a symbol or a count above its limit
pub returns-then-tag : goal.returns-then-tag
returns-then-tag c =
    elim c.then-tag.either [
      | inl h ↦ sym (high_symbol _ _ c.requires c.if-tag-eq0.false (omega arith))
      | inr h ↦ sym (high_count _ _ c.requires (omega arith))
    ]

-- an application whose numbers are in their ranges
application : (c : After-all_below-2) →
    let a = c.args in
    let start = term_words * a.t in
    let last = start + 2 + at a.rows.now (start + 1) in
    term_row_ok a.rows.now a.t ≡ c.all_below-2.result && all (eqb 0) (part a.rows.now last (start + term_words))
application c =
    application_row c.args.rows.now c.args.t c.requires c.if-tag-eq0.false (omega arith) c.if-count-gt-MAX_ARITY.false ∙ rw c.all_below-2.ensures

pub returns-then-all_below : goal.returns-then-all_below
returns-then-all_below c =
    rw (application (goal.at.returns-then-all_below c).After-all_below-2, c.if-all_below.true)
    (c.all_below-then-all_below.ensures ∙ zeros-below-one _)

pub returns-else-all_below : goal.returns-else-all_below
returns-else-all_below c = rw (application (goal.at.returns-else-all_below c).After-all_below-2, c.if-all_below.false)
