-- `invert` meets its contract: a number that stands at its place is there twice, and any other gets its place. Assumes nothing.
use Rattle.std.proofs.Common.{◌≡◌, ℕ, refl, subst, length, arith}
use Rattle.archive.proofs.list.Inverting.{Placed, placed-more, twice, placed-once, placed_inverse}
use Rattle.archive.proofs.list.invert.Goals as goal
use Rattle.archive.proofs.list.invert.Goals.{else-j-i-via-then-j-i+else-listed-j, else-j-i-via-else-j-i}

pub returns-then-listed-j-clause-distinct : goal.returns-then-listed-j-clause-distinct
returns-then-listed-j-clause-distinct c = (twice _ _ _ c.if-j-i.true c.loop-i-test.true c.if-listed-j.true, refl)

pub loop-i-preserved : goal.loop-i-preserved
loop-i-preserved c =
    let below = c.requires.2 _ c.loop-i-test.true in
    let more = placed-more c.args.listed.now c.loop-i.i c.loop-i.places c.loop-i.invariant (omega (arith, below)) in
    elim c.else-j-i.branch [
      | else-j-i-via-then-j-i+else-listed-j w ↦ more (λ k e. w.if-listed-j.false e)
      | else-j-i-via-else-j-i w ↦ more (λ k e. omega (arith, w.if-j-i.false))
    ]

all_placed : (c : goal.After-loop-i) → Placed c.args.listed.now (length c.args.listed.now) c.loop-i.places
all_placed c =
    let done : c.loop-i.i ≡ length c.args.listed.now = omega arith in
    subst (λ (i : ℕ). Placed c.args.listed.now i c.loop-i.places) done c.loop-i.invariant

pub returns : goal.returns
returns c = record {
  distinct = placed-once _ _ (all_placed c);
  places = placed_inverse _ _ (all_placed c) c.requires.2;
}
