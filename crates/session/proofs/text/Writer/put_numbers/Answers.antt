-- `text::Writer::put_numbers` meets its contract, by the reader's answers. Assumes nothing.
use Rattle.std.proofs.Common.{arith, sym, ◌∙◌}
use Rattle.session.proofs.text.Numbers.{shown-none, shown-room, shown-more, shown_stopped, shown-all, number_ahead}
use Rattle.session.proofs.text.Writer.put_numbers.Goals as goal

pub loop-pos-init : goal.loop-pos-init
loop-pos-init c = shown-none _ _

pub put_spaced-requires : goal.put_spaced-requires
put_spaced-requires c = shown-room c.requires c.loop-pos.invariant (omega arith)

pub loop-pos-smaller : goal.loop-pos-smaller
loop-pos-smaller c =
    let ahead = number_ahead _ _ (sym c.in-Ok.is ∙ c.read.ensures.answer) in
    omega (arith, ahead.0, ahead.1)

pub loop-pos-preserved : goal.loop-pos-preserved
loop-pos-preserved c = shown-more c.requires c.loop-pos.invariant (sym c.in-Ok.is ∙ c.read.ensures.answer) c.put_spaced.ensures

pub returns-in-Err : goal.returns-in-Err
returns-in-Err c = shown_stopped c.requires c.loop-pos.invariant (sym c.in-Err.is ∙ c.read.ensures.answer)

pub returns : goal.returns
returns c = shown-all c.requires c.loop-pos.invariant (omega arith)
