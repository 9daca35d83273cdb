-- `visit::visit` meets its contract: the sides of the entry are terms, and each return follows the tests that lead there. Assumes
-- nothing.
use Rattle.std.proofs.Common.{arith, sym, ◌∙◌}
use Rattle.std.proofs.lemmas.Result.{err_from_is_err_and}
use Rattle.table.proofs.place.Placing.{few-entries}
use Rattle.table.proofs.visit.Turning.{left-app, to_place-all, turn_full, turn-reaches}
use Rattle.table.proofs.visit.Visiting.{left_lt, right_lt, left_end, right_end, visit-common, visit_unlike, turnable, visit_full, visit-turned}
use Rattle.table.proofs.visit.visit.Goals as goal

-- a common entry
pub returns-then-e-ne0-clause-visited : goal.returns-then-e-ne0-clause-visited
returns-then-e-ne0-clause-visited c b β es q = visit-common q _ c.entry_at-e.ensures c.if-e-ne0.true

-- the sides are terms, and so is what they stand for
pub bounds-terms-left : goal.bounds-terms-left
bounds-terms-left c = omega (arith, left_lt c.requires.known _ c.entry_at-e.ensures, c.requires.known.known.roots_fit)

pub bounds-terms-right : goal.bounds-terms-right
bounds-terms-right c = omega (arith, right_lt c.requires.known _ c.entry_at-e.ensures, c.requires.known.known.roots_fit)

pub alike-requires-clause-left : goal.alike-requires-clause-left
alike-requires-clause-left c = left_end c.requires.known _ c.entry_at-e.ensures

pub alike-requires-clause-right : goal.alike-requires-clause-right
alike-requires-clause-right c = right_end c.requires.known _ c.entry_at-e.ensures

-- roots that are not alike
pub returns-then-not-alike-clause-visited : goal.returns-then-not-alike-clause-visited
returns-then-not-alike-clause-visited c b β es q = visit_unlike q _ c.entry_at-e.ensures (sym c.alike.ensures ∙ c.if-not-alike.true)

-- roots that are alike
pub place_all-requires-clause-given : goal.place_all-requires-clause-given
place_all-requires-clause-given c =
    let g = c.requires in
    let ready = turnable g.known _ c.entry_at-e.ensures (sym c.alike.ensures ∙ c.if-not-alike.false) in
    record { book = g.book; bound = g.bound; table = g.table; known = to_place-all ready }

pub place_all-requires-clause-left : goal.place_all-requires-clause-left
place_all-requires-clause-left c = left_end c.requires.known _ c.entry_at-e.ensures

pub place_all-requires-clause-right : goal.place_all-requires-clause-right
place_all-requires-clause-right c = right_end c.requires.known _ c.entry_at-e.ensures

-- their arguments need entries beyond the capacity
pub returns-in_err-args-clause-visited : goal.returns-in_err-args-clause-visited
returns-in_err-args-clause-visited c =
    let read = c.entry_at-e.ensures in
    let same = sym c.alike.ensures ∙ c.if-not-alike.false in
    let e = err_from_is_err_and c.from_residual.result c.from_residual.ensures.1 in
    rw (e.1, e.2)
    (λ b β es q.
    let ready = turnable q _ read same in
    visit_full q _ read same c.if-e-ne0.false (turn_full ready (c.in_err-args.ensures.placed b β es (to_place-all ready))))

-- they are placed
pub turn-requires : goal.turn-requires
turn-requires c =
    let q = c.requires.known in
    let read = c.entry_at-e.ensures in
    record {
      applied = left-app (turnable q _ read (sym c.alike.ensures ∙ c.if-not-alike.false));
      term-row = omega (arith, left_end q _ read);
      entry_row = omega (arith, q.there, few-entries q.stands, q.stands.long, c.place_all.auto.entries);
    }

pub returns-clause-visited : goal.returns-clause-visited
returns-clause-visited c b β es q =
    let read = c.entry_at-e.ensures in
    let same = sym c.alike.ensures ∙ c.if-not-alike.false in
    let ready = turnable q _ read same in
    visit-turned q _ read same c.if-e-ne0.false c.turn.ensures.answer
    (turn-reaches ready (c.in_ok-args.ensures.placed b β es (to_place-all ready)) c.turn.ensures.put c.turn.auto.entries)
