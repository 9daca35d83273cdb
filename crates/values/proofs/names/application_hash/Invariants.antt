-- The hash goes on over the classes of the arguments that are left.
use Rattle.std.proofs.Common.{◌≡◌, map, drop}
use Rattle.layout.specs.limits.Rows.{at}
use Rattle.values.specs.names.Keys.{hash_from}
use Rattle.values.proofs.names.application_hash.Given as goal

abbrev pub invariant-loop-a : goal.invariant-loop-a
invariant-loop-a l = hash_from l.h (map (at l.classes) (drop l.a-index l.args)) ≡ hash_from l.symbol (map (at l.classes) l.args)
