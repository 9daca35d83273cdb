-- `append_kind` meets its contract: there is a place for each term of the kind. Assumes nothing.
use Rattle.std.proofs.Common.{◌<◌, ◌∙◌, length, arith}
use Rattle.archive.proofs.list.OfKind.{kind_tested, kept_none, kept_more, kept_same, kept_room, kept_all}
use Rattle.archive.proofs.list.append_kind.Goals as goal
use Rattle.archive.proofs.list.append_kind.Goals.{then-rows-t, else-rows-t}

pub loop-t-init : goal.loop-t-init
loop-t-init c = kept_none _ _

-- there is a place for a term of the kind
room : (c : goal.Then-rows-t) → c.loop-t.next < length c.loop-t.listed
room c = kept_room _ _ c.loop-t.invariant c.loop-t-test.true (kind_tested _ _ _ ∙ c.if-rows-t.true) c.requires.2

pub offset_bounds-listed-next : goal.offset_bounds-listed-next
offset_bounds-listed-next c = omega (arith, room c)

pub bounds-listed-next : goal.bounds-listed-next
bounds-listed-next c = room c

pub overflow_add-next : goal.overflow_add-next
overflow_add-next c = omega (arith, room c)

pub loop-t-preserved : goal.loop-t-preserved
loop-t-preserved c =
    elim c.if-rows-t.branch [
      | then-rows-t w ↦ rw (w.listed-is, w.next-is) (kept_more _ _ c.loop-t.invariant c.loop-t-test.true (kind_tested _ _ _ ∙ w.if-rows-t.true))
      | else-rows-t w ↦ rw (w.listed-is, w.next-is) (kept_same _ _ c.loop-t.invariant c.loop-t-test.true (kind_tested _ _ _ ∙ w.if-rows-t.false))
    ]

pub returns : goal.returns
returns c = let all = kept_all _ _ c.loop-t.invariant c.loop-t-test.false in record { next = all.0; listed = all.1 }
