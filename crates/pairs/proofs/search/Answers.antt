-- The search starts at the head of the pair's bucket; it ends at a cell without a link, or at a place that holds the pair, and
-- otherwise goes on at a later cell.
use Rattle.std.proofs.Common.{refl, arith}
use Rattle.pairs.proofs.Descent.{sought_head, sought_none, sought_at, sought_found, sought_next}
use Rattle.pairs.proofs.search.Goals as goal
use Rattle.pairs.proofs.search.Goals.{else-lefts-at-via-then-lefts-at+else-rights-at, else-lefts-at-via-else-lefts-at}

pub loop-link-init : goal.loop-link-init
loop-link-init c = sought_head c.requires _ c.hash-mixed.ensures

pub loop-link-smaller : goal.loop-link-smaller
loop-link-smaller c = omega (arith, (sought_at c.requires c.loop-link.invariant refl c.if-link-eq0.false).1)

pub loop-link-preserved : goal.loop-link-preserved
loop-link-preserved c =
    sought_next c.requires c.loop-link.invariant refl c.if-link-eq0.false
    (λ h. elim c.else-lefts-at.branch [
      | else-lefts-at-via-then-lefts-at+else-rights-at w ↦ w.if-rights-at.false h.right
      | else-lefts-at-via-else-lefts-at w ↦ w.if-lefts-at.false h.left
    ])

pub returns-then-link-eq0 : goal.returns-then-link-eq0
returns-then-link-eq0 c = sought_none c.requires c.loop-link.invariant refl c.if-link-eq0.true

pub returns-then-rights-at : goal.returns-then-rights-at
returns-then-rights-at c =
    sought_found c.requires c.loop-link.invariant refl c.if-link-eq0.false
    (record { left = c.if-lefts-at.true; right = c.if-rights-at.true })
