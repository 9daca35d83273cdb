-- The place that is given, or else what the search finds.
use Rattle.std.proofs.Common.{sym, ◌∙◌, arith}
use Rattle.values.proofs.names.Keys.{test_same}
use Rattle.values.proofs.names.earlier.Goals as goal

pub returns-then-same_key : goal.returns-then-same_key
returns-then-same_key c = (omega arith, test_same _ _ (sym c.if-same_key.true ∙ c.same_key.ensures))
