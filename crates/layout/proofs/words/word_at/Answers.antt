-- Four bytes make the word. Assumes nothing.
use Rattle.std.proofs.Common.{arith}
use Rattle.layout.proofs.words.Elements.{word_of}
use Rattle.layout.proofs.words.word_at.Goals as goal

pub returns : goal.returns
returns c = omega (arith, c.from_le_bytes.ensures, word_of c.args.area.now c.args.at (omega arith))
