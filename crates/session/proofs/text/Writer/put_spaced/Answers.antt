-- `text::Writer::put_spaced` meets its contract: the digits stand behind the blank. Assumes nothing.
use Rattle.std.proofs.Common.{arith}
use Rattle.session.specs.text.Text.{spaced}
use Rattle.session.proofs.text.Puts.{puts_more}
use Rattle.session.proofs.text.Writer.put_spaced.Goals as goal

pub returns : goal.returns
unfolding spaced
returns c = puts_more (omega arith) c.put_bytes.ensures c.put_decimal.ensures
