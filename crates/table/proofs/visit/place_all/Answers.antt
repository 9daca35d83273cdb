-- `visit::place_all` meets its contract: the next pair stands in the rows of both terms, and is placed behind the others, or needs
-- more entries than the capacity. Assumes nothing.
use Rattle.std.proofs.Common.{rules}
use Rattle.std.proofs.lemmas.Result.{err_from_is_err_and}
use Rattle.table.proofs.visit.Sizes.{index_sizes}
use Rattle.table.proofs.visit.PlacingAll.{pair-at, placing_none, next_given, placing_full, placing_more}
use Rattle.table.proofs.visit.place_all.Goals as goal

pub loop-j-init : goal.loop-j-init
loop-j-init c = record { placing = placing_none _ _ _ _ _ _ _ _ _; same = search rules }

pub place-requires : goal.place-requires
place-requires c =
    let p = pair-at c.args.terms.rows.now c.args.l c.args.r c.loop-j.j c.requires.left c.requires.right c.requires.given.known.pairs c.loop-j-test.true in
    next_given c.loop-j.invariant.placing p.there p.left p.right c.requires.given

pub returns-in_err-p-clause-placed : goal.returns-in_err-p-clause-placed
returns-in_err-p-clause-placed c =
    let p = pair-at c.args.terms.rows.now c.args.l c.args.r c.loop-j.j c.requires.left c.requires.right c.requires.given.known.pairs c.loop-j-test.true in
    let e = err_from_is_err_and c.from_residual.result c.from_residual.ensures.1 in
    rw (e.1, e.2) (placing_full c.loop-j.invariant.placing p.there p.left p.right c.in_err-p.ensures.placed)

pub loop-j-preserved : goal.loop-j-preserved
loop-j-preserved c =
    let p = pair-at c.args.terms.rows.now c.args.l c.args.r c.loop-j.j c.requires.left c.requires.right c.requires.given.known.pairs c.loop-j-test.true in
    record {
      placing = placing_more c.loop-j.invariant.placing p.there p.left p.right c.in_ok-p.ensures.placed
          (index_sizes c.place.auto.entries c.place.ensures.same_slices);
      same = search rules;
    }
