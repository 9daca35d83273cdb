-- `load::Held::store` meets its contract: five writes, one behind the other. Assumes nothing.
use Rattle.layout.specs.header.Row.{words_of}
use Rattle.area.proofs.save.Stored.{stored}
use Rattle.area.proofs.load.Held.store.Goals as goal

pub returns : goal.returns
unfolding words_of
returns c =
    stored _ _ c.requires.0 _ _ _ _ _ _ _ _ _ c.store_header.ensures c.store.ensures
    c.bindings_at.ensures c.store-2.ensures c.lines_at.ensures c.store-3.ensures
    c.entries_at.ensures c.store-4.ensures
