-- The pair was not there, and the cell at which the search ended gets the link to its place; or it was, and no link goes to the new one.
use Rattle.pairs.proofs.Growth.{pushed_there, pushed_new}
use Rattle.pairs.proofs.push.Goals as goal

pub returns-then-found-count : goal.returns-then-found-count
returns-then-found-count c =
    pushed_new c.requires.indexed c.requires.room c.search-found.ensures c.if-found-count.true

pub returns-else-found-count : goal.returns-else-found-count
returns-else-found-count c =
    pushed_there c.requires.indexed c.requires.room c.search-found.ensures c.if-found-count.false
