-- Each field is a word of the area. Assumes nothing.
use Rattle.model.specs.Area.{word}
use Rattle.layout.proofs.header.load_header.Goals as goal

pub returns : goal.returns
unfolding word
returns c = (c.word_at.ensures, c.word_at-2.ensures, c.word_at-3.ensures, c.word_at-4.ensures)
