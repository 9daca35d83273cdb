-- `grow::grow` meets its contract: each part asks what the one before it left. Assumes nothing.
use Rattle.std.proofs.Common.{refl}
use Rattle.std.proofs.lemmas.Result.{err_from_is_err_and}
use Rattle.table.proofs.visit.Sizes.{index_sizes}
use Rattle.step.proofs.grow.Growing.{place_given, grown_full, walk_given, walked_full, grown}
use Rattle.step.proofs.grow.grow.Goals as goal

pub place-requires : goal.place-requires
place-requires c = place_given c.index.ensures.indexed (index_sizes refl c.index.ensures.same_slices) c.requires

-- no room for the pair
pub returns-in_err-p-clause-grown : goal.returns-in_err-p-clause-grown
returns-in_err-p-clause-grown c =
    let e = err_from_is_err_and c.from_residual.result c.from_residual.ensures.1 in
    rw (e.1, e.2) (grown_full c.index.ensures.indexed (index_sizes refl c.index.ensures.same_slices) c.in_err-p.ensures.placed)

pub walk-requires : goal.walk-requires
walk-requires c =
    walk_given c.index.ensures.indexed (index_sizes refl c.index.ensures.same_slices) c.in_ok-p.ensures.placed c.requires

-- no room for the walk
pub returns-in_err-w-clause-grown : goal.returns-in_err-w-clause-grown
returns-in_err-w-clause-grown c =
    let e = err_from_is_err_and c.from_residual-in_err-w.result c.from_residual-in_err-w.ensures.1 in
    rw (e.1, e.2) (walked_full c.index.ensures.indexed (index_sizes refl c.index.ensures.same_slices) c.in_ok-p.ensures.placed c.in_err-w.ensures.walked)

pub returns-clause-grown : goal.returns-clause-grown
returns-clause-grown c =
    grown c.index.ensures.indexed (index_sizes refl c.index.ensures.same_slices) c.in_ok-p.ensures.placed c.in_ok-w.ensures.walked
