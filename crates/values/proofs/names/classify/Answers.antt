-- Each turn pushes the hash of one key more, and finds its class.
use Rattle.std.proofs.Common.{rules, sym, arith}
use Rattle.values.proofs.roots.Settled.{length-list, turn}
use Rattle.values.proofs.names.Classifying.{next_classable, classifying_more, classified}
use Rattle.values.proofs.names.classify.Goals as goal

pub slice_bounds-t-items-end : goal.slice_bounds-t-items-end
slice_bounds-t-items-end c = sym (length-list c.requires.listed)

pub class_of-requires : goal.class_of-requires
class_of-requires c =
    let t = turn c.requires.listed c.loop-k.k c.loop-k-test.true in
    next_classable c.loop-k.invariant.classifying t.0 (rw t.1 at c.key_hash-h.ensures) c.push-place.ensures.pushed

pub loop-k-preserved : goal.loop-k-preserved
loop-k-preserved c =
    let t = turn c.requires.listed c.loop-k.k c.loop-k-test.true in
    let push = c.push-place.ensures in
    record {
      same = search rules;
      classifying = rw t.1 (classifying_more c.loop-k.invariant.classifying t.0 (rw t.1 at c.key_hash-h.ensures) push.pushed push.same_slices.cells_long c.class_of.ensures);
    }

pub returns-clause-classes : goal.returns-clause-classes
returns-clause-classes c = classified c.loop-k.invariant.classifying (omega (arith, length-list c.requires.listed))
