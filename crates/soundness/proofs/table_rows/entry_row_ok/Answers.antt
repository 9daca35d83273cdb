-- `table_rows::entry_row_ok`: each return follows the tests that lead there. Assumes nothing.
use Rattle.std.proofs.Common.{◌≡◌, sym, ◌∙◌, arith}
use Rattle.std.proofs.lemmas.Bool.{lt-leb}
use Rattle.std.proofs.Math.Bool.{and-true, and-false}
use Rattle.soundness.specs.rows.RowTests.{entry_row_ok}
use Rattle.soundness.proofs.rows.Zeros.{zeros-below-one}
use Rattle.soundness.proofs.table_rows.EntryRow.{entry_form, sides, high_count, hole-row, high_kind, common-row}
use Rattle.soundness.proofs.table_rows.entry_row_ok.Goals as goal
use Rattle.soundness.proofs.table_rows.entry_row_ok.Goals.{Else-not-all_below}

-- a side that is no term
pub returns-then-not-all_below : goal.returns-then-not-all_below
returns-then-not-all_below c =
    rw (sides c.args.entries.now c.args.i c.requires c.args.n, sym c.all_below.ensures ∙ c.if-not-all_below.true, and-false)

-- both sides are terms: what is left to test
form : (c : Else-not-all_below) → let a = c.args in entry_form a.entries.now a.i ≡ entry_row_ok a.entries.now a.n a.i
form c =
    rw (sides c.args.entries.now c.args.i c.requires c.args.n, sym c.all_below.ensures ∙ c.if-not-all_below.false, and-true)

-- a hole
pub returns-in-0 : goal.returns-in-0
returns-in-0 c =
    c.all_below-in-0.ensures ∙ zeros-below-one _ ∙ sym (hole-row _ _ c.requires c.in-0.is)
    ∙ form (goal.at.returns-in-0 c).Else-not-all_below

-- a common entry
pub returns-then-count-le-MAX_ARITY : goal.returns-then-count-le-MAX_ARITY
returns-then-count-le-MAX_ARITY c =
    c.all_below-then-count-le-MAX_ARITY.ensures
    ∙ zeros-below-one _
    ∙ sym (common-row _ _ c.requires c.in-1.is c.if-count-le-MAX_ARITY.true)
    ∙ form (goal.at.returns-then-count-le-MAX_ARITY c).Else-not-all_below

pub returns-else-count-le-MAX_ARITY : goal.returns-else-count-le-MAX_ARITY
returns-else-count-le-MAX_ARITY c =
    lt-leb _ _ c.if-count-le-MAX_ARITY.false ∙ sym (high_count _ _ c.requires c.if-count-le-MAX_ARITY.false)
    ∙ form (goal.at.returns-else-count-le-MAX_ARITY c).Else-not-all_below

-- a kind above 1
pub returns-in_default : goal.returns-in_default
returns-in_default c =
    sym (high_kind _ _ c.requires (λ e. omega arith) (λ e. omega arith)) ∙ form (goal.at.returns-in_default c).Else-not-all_below
