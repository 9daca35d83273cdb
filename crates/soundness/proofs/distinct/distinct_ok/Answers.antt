-- `distinct::distinct_ok`: what each push answers, and each return follows it. Assumes nothing.
use Rattle.std.proofs.Common.{rules, ◌≡◌, sym, ◌∙◌, below_none, below_more, arith}
use Rattle.std.proofs.lemmas.Bool.{eq-eqb, ne_eqb}
use Rattle.theory.proofs.Lists.Laws.{T_true}
use Rattle.layout.specs.limits.Rows.{table_of}
use Rattle.layout.proofs.limits.Rows.{length-table_of}
use Rattle.soundness.proofs.kinds.Rows.{entry-left, entry-right}
use Rattle.soundness.proofs.distinct.Places.{place_by, filled_none, filled_place, filled_more}
use Rattle.soundness.proofs.distinct.Own.{all-distinct, not-distinct}
use Rattle.soundness.proofs.distinct.distinct_ok.Goals as goal
use Rattle.soundness.proofs.distinct.distinct_ok.Goals.{After-push-place}

pub loop-i-init : goal.loop-i-init
loop-i-init c = record { filled = filled_none _ _ c.clear.ensures.indexed; same = c.clear.ensures.same_slices; own = below_none _ }

-- what the push answers
place : (c : After-push-place) → let a = c.args in c.push-place.result ≡ place_by (λ t. t) (table_of a.entries.now a.m) c.loop-i.i
place c =
    let l = c.loop-i-test.true in
    filled_place _ _ (rw length-table_of l) c.loop-i.invariant.filled c.push-place.ensures.pushed (sym (entry-left _ _ _ l)) (sym (entry-right _ _ _ l))

pub returns-then-place-i-clause-distinct : goal.returns-then-place-i-clause-distinct
returns-then-place-i-clause-distinct c =
    not-distinct _ _ _ c.loop-i-test.true (ne_eqb _ _ (λ e. c.if-place-i.true (place (goal.at.returns-then-place-i-clause-distinct c).After-push-place ∙ e)))

pub loop-i-preserved : goal.loop-i-preserved
loop-i-preserved c =
    let l = c.loop-i-test.true in
    let h = c.loop-i.invariant in
    record {
      filled = filled_more _ _ (rw length-table_of l) h.filled c.push-place.ensures.pushed (sym (entry-left _ _ _ l)) (sym (entry-right _ _ _ l)) (omega arith) (omega arith);
      same = search rules;
      own = below_more _ _ h.own (eq-eqb _ _ (sym (place (goal.at.loop-i-preserved c).After-push-place) ∙ c.if-place-i.false));
    }

pub returns-clause-distinct : goal.returns-clause-distinct
returns-clause-distinct c = sym (T_true _ (all-distinct _ _ _ (λ t. t) c.loop-i-test.false c.loop-i.invariant.own))
