-- The fields are the words, one by one. Assumes nothing.
use Rattle.model.specs.Lists.{from}
use Rattle.model.specs.Area.{entry_row_words}
use Rattle.layout.specs.entry.Row.{row_of}
use Rattle.layout.proofs.words.Elements.{every}
use Rattle.layout.proofs.entry.entry_of.Goals as goal

pub returns : goal.returns
unfolding row_of from
returns c = every _ entry_row_words c.requires
