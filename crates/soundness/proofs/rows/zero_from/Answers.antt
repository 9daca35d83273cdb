-- `rows::zero_from`: the next word is 0, it is not, or there is none left. Assumes nothing.
use Rattle.std.proofs.Common.{length, eq-eqb, ne_eqb, sym, ◌∙◌}
use Rattle.soundness.proofs.rows.Parts.{part}
use Rattle.soundness.proofs.rows.Zeros.{one-is, one-is-not, none_left, zeros-behind}
use Rattle.soundness.proofs.rows.zero_from.Goals as goal
use Rattle.soundness.proofs.rows.zero_from.Goals.{then-w-ne0, else-w-ne0}

pub loop-w-preserved : goal.loop-w-preserved
loop-w-preserved c =
    let words = part c.args.words.now c.args.from (length c.args.words.now) in
    elim c.if-w-ne0.branch [
      | then-w-ne0 w ↦ rw w.zero-is (one-is-not words _ c.loop-w.zero _ c.loop-w-test.true (ne_eqb 0 _ (λ e. w.if-w-ne0.true (sym e))) c.loop-w.invariant)
      | else-w-ne0 w ↦ rw w.zero-is (one-is words _ c.loop-w.zero _ c.loop-w-test.true (eq-eqb 0 _ (sym w.if-w-ne0.false)) c.loop-w.invariant)
    ]

pub returns : goal.returns
returns c =
    let words = part c.args.words.now c.args.from (length c.args.words.now) in
    none_left words _ c.loop-w.zero _ c.loop-w-test.false c.loop-w.invariant ∙ zeros-behind c.args.words.now c.args.from
