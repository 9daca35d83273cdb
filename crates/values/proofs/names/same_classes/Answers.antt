-- Each turn compares the classes of the first arguments that are left.
use Rattle.std.proofs.Common.{◌≡◌, length, inl, inr, ap, sym, ◌∙◌, arith}
use Rattle.layout.specs.limits.Rows.{at}
use Rattle.values.proofs.names.Keys.{numbers-same, numbers_differ, numbers-none, numbers_lengths}
use Rattle.values.proofs.names.same_classes.Goals as goal

pub returns-then-args-others : goal.returns-then-args-others
returns-then-args-others c = sym (numbers_lengths (at c.args.classes.now) c.args.args.now c.args.others.now c.if-args-others.true)

pub returns-then-classes-a : goal.returns-then-classes-a
returns-then-classes-a c =
    let step = c.in-Some.ensures.steps in
    sym (numbers_differ (at c.args.classes.now) step.0 step.1 c.if-classes-a.true) ∙ c.loop-a.invariant.same

pub loop-a-preserved : goal.loop-a-preserved
loop-a-preserved c =
    let step = c.in-Some.ensures.steps in
    record {
      same = sym (numbers-same (at c.args.classes.now) step.0 step.1 c.if-classes-a.false) ∙ c.loop-a.invariant.same;
      as_many = omega (arith, ap length step.0, ap length step.1);
    }

pub returns : goal.returns
returns c =
    let i = c.loop-a.invariant in
    let none : length c.loop-a.a-iterator.a.rest.now ≡ 0 = elim c.in-None.ensures.steps [ inl e ↦ e.1.0 | inr e ↦ i.as_many ∙ e.1.0 ] in
    sym (numbers-none (at c.args.classes.now) c.loop-a.a-iterator.a.rest.now c.loop-a.a-iterator.b.rest.now none (sym i.as_many ∙ none)) ∙ i.same
