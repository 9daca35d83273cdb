-- `write::Source::entry_length` meets its contract: the bytes are those of the entry's numbers. Assumes nothing.
use Rattle.report.proofs.write.Source.entry_length.Goals as goal

pub returns : goal.returns
returns c = λ s shows. rw (c.words.ensures, c.entry_numbers-numbers.ensures s shows) at c.run_length.ensures
