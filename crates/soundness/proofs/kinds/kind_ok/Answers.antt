-- `kinds::kind_ok`: the sides of the entry are terms, and so is what they stand for. Assumes nothing.
use Rattle.std.proofs.Common.{◌<◌, length, sym, ◌∙◌, arith}
use Rattle.soundness.proofs.kinds.Rows.{is-left, is_right, left_side, right_side, root-lt, kind-roots}
use Rattle.soundness.proofs.kinds.kind_ok.Goals as goal
use Rattle.soundness.proofs.kinds.kind_ok.Goals.{After-entry_at-e}

-- the sides are terms
left : (c : After-entry_at-e) → c.entry_at-e.result.left < length c.requires.known.book
left c = left_side c.requires.known.known.held.named c.requires.there _ c.entry_at-e.ensures

right : (c : After-entry_at-e) → c.entry_at-e.result.right < length c.requires.known.book
right c = right_side c.requires.known.known.held.named c.requires.there _ c.entry_at-e.ensures

pub bounds-roots-e : goal.bounds-roots-e
bounds-roots-e c = omega (arith, left (goal.at.bounds-roots-e c).After-entry_at-e, c.requires.known.known.roots_fit)

pub bounds-roots-e-2 : goal.bounds-roots-e-2
bounds-roots-e-2 c = omega (arith, right (goal.at.bounds-roots-e-2 c).After-entry_at-e, c.requires.known.known.roots_fit)

pub kind_fits-requires-clause-known : goal.kind_fits-requires-clause-known
kind_fits-requires-clause-known c =
    let s = (goal.at.kind_fits-requires-clause-known c).After-entry_at-e in
    let g = c.requires.known in
    record { book = g.book; bound = g.bound; known = (g.known.held, root-lt g.known (left s), root-lt g.known (right s)) }

pub returns : goal.returns
returns c b β k =
    let l = c.requires.there in
    let n = k.held.named in
    let read = c.entry_at-e.ensures in
    c.kind_fits.ensures b β (k.held, root-lt k (left_side n l _ read), root-lt k (right_side n l _ read)) ∙
    rw (is-left n l _ read, is_right n l _ read) (sym (kind-roots k l))
