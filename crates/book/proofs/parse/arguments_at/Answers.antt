-- `arguments_at` meets its contract: a variable stays what it is; any other term's row begins with its first number and its
-- count, and the arguments follow. Assumes nothing.
use Rattle.std.proofs.Common.{refl}
use Rattle.book.proofs.decode.Term.{arguments-var, arguments-read}
use Rattle.book.proofs.parse.arguments_at.Goals as goal

pub returns-then-at-eq0 : goal.returns-then-at-eq0
returns-then-at-eq0 c = arguments-var _ _ c.args.at _ _ c.if-at-eq0.true c.requires.0 refl

pub returns : goal.returns
returns c = arguments-read _ _ c.args.at _ _ c.if-at-eq0.false c.read_arguments.result c.read_arguments.ensures
