-- `place::place` meets its contract: each return follows the tests that lead there. Assumes nothing.
use Rattle.table.proofs.place.Placing.{place-there, place_full, place-hole}
use Rattle.table.proofs.place.place.Goals as goal

-- the pair has an entry
pub returns-then-found-m-clause-placed : goal.returns-then-found-m-clause-placed
returns-then-found-m-clause-placed c b β es q = place-there q c.find-found.ensures c.if-found-m.true

-- it would need one beyond the capacity
pub returns-then-capacity-m-clause-placed : goal.returns-then-capacity-m-clause-placed
returns-then-capacity-m-clause-placed c b β es q = place_full q c.find-found.ensures c.if-found-m.false c.if-capacity-m.true

-- it is appended
pub returns-clause-placed : goal.returns-clause-placed
returns-clause-placed c b β es q =
    place-hole q c.find-found.ensures c.if-found-m.false c.if-capacity-m.false c.put_entry.ensures c.push.ensures.pushed c.put_entry.auto.entries c.push.ensures.same_slices.cells_long
