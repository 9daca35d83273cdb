-- `numbering::Classes::meet` meets its contract: a class with a mark was met, and any other goes to the end. Assumes nothing.
use Rattle.std.proofs.Common.{refl, arith}
use Rattle.report.proofs.numbering.Meeting.{meet-old, meet-room, meet-new}
use Rattle.report.proofs.numbering.Classes.meet.Goals as goal

pub returns-then-self-place-ne0 : goal.returns-then-self-place-ne0
returns-then-self-place-ne0 c = (meet-old c.args.self.now.sound _ c.requires c.if-self-place-ne0.true, refl, refl, refl, refl)

pub bounds-self-self : goal.bounds-self-self
bounds-self-self c = omega (arith, meet-room c.args.self.now.sound _ c.requires c.if-self-place-ne0.false)

pub overflow_cast-self : goal.overflow_cast-self
overflow_cast-self c = omega (arith, meet-room c.args.self.now.sound _ c.requires c.if-self-place-ne0.false)

pub invariant_of-self-2 : goal.invariant_of-self-2
invariant_of-self-2 c =
    record {
      closed = c.args.self.now.closed;
      sound = (meet-new c.args.self.now.sound _ c.requires c.if-self-place-ne0.false).counted;
    }

pub returns : goal.returns
returns c = (meet-new c.args.self.now.sound _ c.requires c.if-self-place-ne0.false, refl, refl, refl, refl)
