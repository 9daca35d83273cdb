-- `load::load` meets its contract: each part lies in the area, and its words are loaded. Assumes nothing.
use Rattle.area.proofs.load.Parts.{within, words-loaded}
use Rattle.area.proofs.load.load.Goals as goal

pub load-requires : goal.load-requires
load-requires c = (within _ _ _ _ _ _ c.requires.0 c.requires.1).rows-within

pub load-requires-2 : goal.load-requires-2
load-requires-2 c = rw c.bindings_at.ensures (within _ _ _ _ _ _ c.requires.0 c.requires.1).bindings-within

pub load-requires-3 : goal.load-requires-3
load-requires-3 c = rw c.lines_at.ensures (within _ _ _ _ _ _ c.requires.0 c.requires.1).lines-within

pub load-requires-4 : goal.load-requires-4
load-requires-4 c = rw c.entries_at.ensures (within _ _ _ _ _ _ c.requires.0 c.requires.1).entries-within

pub returns : goal.returns
returns c =
    words-loaded _ _ _ _ _ _ _ _ _ _ _ _ _ c.requires.1 c.bindings_at.ensures c.lines_at.ensures c.entries_at.ensures
    c.load.ensures c.load-2.ensures c.load-3.ensures c.load-4.ensures
