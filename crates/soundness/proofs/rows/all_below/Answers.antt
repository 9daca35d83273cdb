-- `rows::all_below`: what `all` answers. Assumes nothing.
use Rattle.std.proofs.Common.{ltb, sym, ◌∙◌, rules, tests}
use Rattle.std.proofs.lemmas.Iterator.{YieldsList-from_slice}
use Rattle.std.proofs.lemmas.Iterator.Search.{all_from_yields_List}
use Rattle.soundness.proofs.rows.Loops.{all-list}
use Rattle.soundness.proofs.rows.all_below.Goals as goal

pub returns : goal.returns
returns c =
    all_from_yields_List (λ w. ltb w c.args.limit) _ _ _ c.all.ensures.ran (YieldsList-from_slice c.args.words.now cc) (λ x b q k. search (rules, tests))
    ∙ sym (all-list (λ w. ltb w c.args.limit) c.args.words.now)
