-- `numbering::number_classes` meets its contract: once the lines' classes are met, those of the arguments of one number after the
-- other lead to the order. Assumes nothing.
use Rattle.std.proofs.Common.{◌∙◌, refl, sym, rules}
use Rattle.report.proofs.numbering.Whole.{cleared, reached_lines, number-class, reached_more, reached_all, numbered_now}
use Rattle.report.proofs.numbering.number_classes.Goals as goal

pub invariant_of-classes : goal.invariant_of-classes
invariant_of-classes c =
    record {
      closed = c.requires.closed.0;
      sound = cleared c.clear.new.words c.requires.number_room c.clear.ensures c.clear.auto.words;
    }

pub loop-i-init : goal.loop-i-init
loop-i-init c =
    let met = c.meet_all.ensures in
    (reached_lines met.0, met.1, rw met.2, refl, refl)

pub meet_arguments-requires : goal.meet_arguments-requires
meet_arguments-requires c =
    let h = c.loop-i.invariant in
    rw h.1 (number-class h.0 c.loop-i-test.true)

pub loop-i-preserved : goal.loop-i-preserved
loop-i-preserved c =
    let h = c.loop-i.invariant in
    let met = c.meet_arguments.ensures in
    (reached_more h.0 c.loop-i-test.true (rw (h.1, h.2) at met.0), met.1 ∙ h.1, (rw met.2) ∙ h.2, met.3 ∙ h.3, met.4 ∙ h.4)

pub returns : goal.returns
returns c =
    let h = c.loop-i.invariant in
    let met = sym (h.3 ∙ c.meet_all.ensures.3) in
    let numbers = sym (h.4 ∙ c.meet_all.ensures.4) in
    numbered_now (reached_all h.0 c.loop-i-test.false) (search rules) (search rules)
