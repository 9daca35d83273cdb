-- The four fields are stored as the first words. Assumes nothing.
use Rattle.layout.specs.header.Row.{words_of}
use Rattle.layout.proofs.header.store_header.Goals as goal

pub returns : goal.returns
unfolding words_of
returns c = c.store.ensures
