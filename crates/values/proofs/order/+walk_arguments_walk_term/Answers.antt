-- A walk of parts goes from part to part; a walk of a term marks it before and behind the walk of its parts (Outcomes).
use Rattle.std.proofs.Common.{◌≡◌, List, ℕ, ◌<◌, length, get_or, arith, rules}
use Rattle.values.specs.order.Marking.{parts_in, Walkable}
use Rattle.values.proofs.order.Outcomes.{term-room, outcome-finished, outcome_met, New, start-ready, fewer_left, outcome_stuck, next_place, outcome-term, Between, Part, outcome-parts, part_ready, outcome_part, between_more}
use Rattle.values.proofs.order.+walk_arguments_walk_term.Goals as goal
use Rattle.values.proofs.order.+walk_arguments_walk_term.Goals.{walk_arguments-then-marks-u-ne-FINISHED+in_ok-place, walk_arguments-else-marks-u-ne-FINISHED}

-- the part that is walked
part_at : {rows bindings : List ℕ} {n t : ℕ} {before marks list : List ℕ} {done i u count : ℕ}
    → Between rows bindings n t before marks list done i → count ≡ length (parts_in rows bindings n t) → i < count
    → u ≡ get_or (parts_in rows bindings n t) i 0 → Part rows bindings n t before marks list done i u
part_at b e l is = record { between = b; inside = omega arith; is = is }

pub walk_arguments-bounds-marks-u : goal.walk_arguments-bounds-marks-u
walk_arguments-bounds-marks-u t c =
    term-room (part_ready (part_at c.loop-i.invariant c.part_count-i-end.ensures c.loop-i-test.true c.part-u.ensures))

pub walk_arguments-walk_term-requires : goal.walk_arguments-walk_term-requires
walk_arguments-walk_term-requires t c =
    let part = part_at c.loop-i.invariant c.part_count-i-end.ensures c.loop-i-test.true c.part-u.ensures in
    (omega (arith, c.decreases, c.loop-i.invariant.no_more-left), part_ready part)

pub walk_arguments-returns-in_err-place : goal.walk_arguments-returns-in_err-place
walk_arguments-returns-in_err-place t c =
    let part = part_at c.loop-i.invariant c.part_count-i-end.ensures c.loop-i-test.true c.part-u.ensures in
    rw c.from_residual.ensures (outcome_part part c.in_err-place.ensures)

pub walk_arguments-loop-i-preserved : goal.walk_arguments-loop-i-preserved
walk_arguments-loop-i-preserved t c =
    let part = part_at c.loop-i.invariant c.part_count-i-end.ensures c.loop-i-test.true c.part-u.ensures in
    elim c.if-marks-u-ne-FINISHED.branch [
      | walk_arguments-then-marks-u-ne-FINISHED+in_ok-place w ↦ rw (w.marks-is, w.list-is, w.place-is) (between_more part w.in_ok-place.ensures)
      | walk_arguments-else-marks-u-ne-FINISHED w ↦
          rw (w.marks-is, w.list-is, w.place-is) (between_more part (outcome-finished (part_ready part) w.if-marks-u-ne-FINISHED.false))
    ]

pub walk_arguments-returns : goal.walk_arguments-returns
walk_arguments-returns t c = outcome-parts c.loop-i.invariant (omega (arith, c.part_count-i-end.ensures, c.loop-i-test.false))

pub walk_term-bounds-marks-t : goal.walk_term-bounds-marks-t
walk_term-bounds-marks-t t c = term-room c.requires

pub walk_term-returns-then-mark-eq-IN_PROGRESS : goal.walk_term-returns-then-mark-eq-IN_PROGRESS
walk_term-returns-then-mark-eq-IN_PROGRESS t c = outcome_met c.requires c.if-mark-eq-IN_PROGRESS.true

pub walk_term-bounds-marks-t-2 : goal.walk_term-bounds-marks-t-2
walk_term-bounds-marks-t-2 t c = term-room c.requires

-- the term is met first
new_at : {rows bindings : List ℕ} {n t : ℕ} {marks list : List ℕ} {done : ℕ} → Walkable rows bindings n t marks list done
    → (get_or marks t 0 ≡ 2 → ⊥) → (get_or marks t 0 ≡ 1 → ⊥) → New rows bindings n t marks list done
new_at r f g = record { ready = r; not-finished = f; not_met = g }

pub walk_term-walk_arguments-requires : goal.walk_term-walk_arguments-requires
walk_term-walk_arguments-requires t c =
    let new = new_at c.requires c.if-mark-eq-FINISHED.false c.if-mark-eq-IN_PROGRESS.false in
    (omega (arith, c.decreases, fewer_left new), start-ready new)

pub walk_term-returns-in_err-place : goal.walk_term-returns-in_err-place
walk_term-returns-in_err-place t c =
    let new = new_at c.requires c.if-mark-eq-FINISHED.false c.if-mark-eq-IN_PROGRESS.false in
    rw c.from_residual.ensures (outcome_stuck new c.in_err-place.ensures)

pub walk_term-bounds-marks-t-3 : goal.walk_term-bounds-marks-t-3
walk_term-bounds-marks-t-3 t c =
    (next_place (new_at c.requires c.if-mark-eq-FINISHED.false c.if-mark-eq-IN_PROGRESS.false) c.in_ok-place.ensures).2

pub walk_term-bounds-list-place : goal.walk_term-bounds-list-place
walk_term-bounds-list-place t c =
    (next_place (new_at c.requires c.if-mark-eq-FINISHED.false c.if-mark-eq-IN_PROGRESS.false) c.in_ok-place.ensures).1

pub walk_term-overflow_add-result : goal.walk_term-overflow_add-result
walk_term-overflow_add-result t c =
    let within : c.in_ok-place.place < c.args.terms.now.n =
    (next_place (new_at c.requires c.if-mark-eq-FINISHED.false c.if-mark-eq-IN_PROGRESS.false) c.in_ok-place.ensures).0 in
    search rules

pub walk_term-returns : goal.walk_term-returns
walk_term-returns t c =
    outcome-term (new_at c.requires c.if-mark-eq-FINISHED.false c.if-mark-eq-IN_PROGRESS.false) c.in_ok-place.ensures
