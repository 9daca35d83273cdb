-- `entries::same_as_ok`: what each push answers, and each return follows it. Assumes nothing.
use Rattle.std.proofs.Common.{rules, ◌≡◌, ap, sym, ◌∙◌, below_none, below_more, arith}
use Rattle.std.proofs.lemmas.Bool.{false≢true, eq-eqb, ne_eqb}
use Rattle.model.specs.Table.{hole_at}
use Rattle.layout.specs.limits.Rows.{at, table_of}
use Rattle.layout.proofs.limits.Rows.{length-table_of}
use Rattle.soundness.proofs.rows.Loops.{each_passed, one_failed}
use Rattle.soundness.proofs.kinds.Rows.{entry-left, entry-right, left_lt, right_lt}
use Rattle.soundness.proofs.distinct.Places.{place_by, filled_none, filled_place, filled_more}
use Rattle.soundness.proofs.distinct.Own.{all-distinct}
use Rattle.soundness.proofs.entries.Table.{same_as_place}
use Rattle.soundness.proofs.entries.same_as_ok.Goals as goal
use Rattle.soundness.proofs.entries.same_as_ok.Goals.{After-push-place, then-place-i, else-place-i}

pub loop-i-init : goal.loop-i-init
loop-i-init c =
    record {
      filled = filled_none _ _ c.clear.ensures.indexed;
      same = c.clear.ensures.same_slices;
      right = λ b β k. below_none _;
      own = λ e. below_none _;
    }

-- the sides are terms
pub bounds-names-entries : goal.bounds-names-entries
bounds-names-entries c =
    let k = c.requires.known.known in omega (arith, left_lt k c.loop-i-test.true, k.names_fit)

pub bounds-names-entries-in-loop-i : goal.bounds-names-entries-in-loop-i
bounds-names-entries-in-loop-i c =
    let k = c.requires.known.known in omega (arith, right_lt k c.loop-i-test.true, k.names_fit)

-- what the push answers
place : (c : After-push-place) → let a = c.args in c.push-place.result ≡ place_by (at a.names.now) (table_of a.entries.now a.m) c.loop-i.i
place c =
    let l = c.loop-i-test.true in
    let f = at c.args.names.now in
    filled_place _ _ (rw length-table_of l) c.loop-i.invariant.filled c.push-place.ensures.pushed (ap f (sym (entry-left _ _ _ l))) (ap f (sym (entry-right _ _ _ l)))

pub returns-then-place-entries-clause-right : goal.returns-then-place-entries-clause-right
returns-then-place-entries-clause-right c b β k =
    let l = c.loop-i-test.true in
    let at-place = place (goal.at.returns-then-place-entries-clause-right c).After-push-place in
    sym (one_failed _ _ (hole_at 0 0 0) _ (rw length-table_of l) (same_as_place k l ∙ ne_eqb _ _ (λ e. c.if-place-entries.true (at-place ∙ sym e))))

pub loop-i-preserved : goal.loop-i-preserved
loop-i-preserved c =
    let l = c.loop-i-test.true in
    let f = at c.args.names.now in
    let h = c.loop-i.invariant in
    let at-place = place (goal.at.loop-i-preserved c).After-push-place in
    record {
      filled = filled_more _ _ (rw length-table_of l) h.filled c.push-place.ensures.pushed (ap f (sym (entry-left _ _ _ l))) (ap f (sym (entry-right _ _ _ l))) (omega arith) (omega arith);
      same = search rules;
      right = λ b β k. below_more _ _ (h.right b β k) (same_as_place k l ∙ eq-eqb _ _ (sym c.if-place-entries.false ∙ at-place));
      own = λ e. elim c.if-place-i.branch [
        | then-place-i w ↦ absurd (false≢true (sym w.apart-is ∙ e))
        | else-place-i w ↦ below_more _ _ (h.own (sym w.apart-is ∙ e)) (eq-eqb _ _ (sym at-place ∙ w.if-place-i.false))
      ];
    }

pub returns-then-apart-clause-right : goal.returns-then-apart-clause-right
returns-then-apart-clause-right c b β k =
    sym (each_passed _ _ (hole_at 0 0 0) _ (rw length-table_of c.loop-i-test.false) (c.loop-i.invariant.right b β k))

pub returns-then-apart-clause-apart : goal.returns-then-apart-clause-apart
returns-then-apart-clause-apart c e =
    all-distinct _ _ _ (at c.args.names.now) c.loop-i-test.false (c.loop-i.invariant.own c.if-apart.true)

pub returns-else-apart-clause-right : goal.returns-else-apart-clause-right
returns-else-apart-clause-right c b β k =
    sym (each_passed _ _ (hole_at 0 0 0) _ (rw length-table_of c.loop-i-test.false) (c.loop-i.invariant.right b β k))
