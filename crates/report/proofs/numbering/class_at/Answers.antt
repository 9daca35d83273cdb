-- `numbering::class_at` meets its contract: the class of an entry is its same-as. Assumes nothing.
use Rattle.report.proofs.numbering.Rows.{class-read}
use Rattle.report.proofs.numbering.class_at.Goals as goal

pub returns : goal.returns
returns c = class-read _ _ c.requires _ c.entry_at.ensures
