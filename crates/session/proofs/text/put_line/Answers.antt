-- `text::put_line` meets its contract: the first number, those of the list, and the end of the line. Assumes nothing.
use Rattle.std.proofs.Common.{rules, refl, arith}
use Rattle.session.proofs.text.Digits.{decimal_short}
use Rattle.session.proofs.text.Lines.{some_none, some_room, some_end, some_more, some_all, line_front}
use Rattle.session.proofs.text.put_line.Goals as goal

pub loop-n-init : goal.loop-n-init
loop-n-init c = some_none _ _ (omega (arith, decimal_short c.args.first (omega arith)))

pub put_spaced-requires : goal.put_spaced-requires
put_spaced-requires c = some_room c.loop-n.invariant (omega arith)

pub loop-n-preserved : goal.loop-n-preserved
loop-n-preserved c = some_more c.loop-n.invariant (omega arith) (omega (arith, c.type_inv.others c.loop-n.n-index)) c.put_spaced.ensures

pub end_line-requires : goal.end_line-requires
end_line-requires c = some_end c.loop-n.invariant

pub returns : goal.returns
returns c =
    let all = some_all c.loop-n.invariant (omega arith) in
    let line = line_front c.args.first c.args.others.now refl (omega (arith, decimal_short c.args.first (omega arith))) c.put_decimal.ensures all.1 all.0 c.end_line.ensures in
    record { count = line.0; bytes = search (rules, line.1) }
