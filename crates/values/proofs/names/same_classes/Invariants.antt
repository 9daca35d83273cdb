-- The classes are the same if those of what is left are.
use Rattle.std.proofs.Common.{◌≡◌, map, length}
use Rattle.model.specs.Lists.{eq_numbers}
use Rattle.layout.specs.limits.Rows.{at}
use Rattle.values.proofs.names.same_classes.Given as goal

abbrev pub invariant-loop-a : goal.invariant-loop-a
invariant-loop-a l = record {
  same : eq_numbers (map (at l.classes) l.a-iterator.a.rest.now) (map (at l.classes) l.a-iterator.b.rest.now) ≡ eq_numbers (map (at l.classes) l.args) (map (at l.classes) l.others);
  as_many : length l.a-iterator.a.rest.now ≡ length l.a-iterator.b.rest.now;
}
