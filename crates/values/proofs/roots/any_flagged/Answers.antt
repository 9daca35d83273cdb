-- The closure may be called at each argument, and `any` answers as the recursion does.
use Rattle.std.proofs.Common.{◌<◌, arith, length, take_all, ◌∙◌, rules, tests}
use Rattle.std.proofs.lemmas.List.{get_or_default}
use Rattle.std.proofs.lemmas.Iterator.{YieldsList-from_slice}
use Rattle.std.proofs.lemmas.Iterator.Adapters.{serves_from_places}
use Rattle.std.proofs.lemmas.Iterator.Search.{any_from_yields_List}
use Rattle.values.specs.roots.Flags.{flagged}
use Rattle.values.proofs.roots.Flags.{any-std}
use Rattle.values.proofs.roots.any_flagged.Goals as goal

pub any-requires-clause-callable : goal.any-requires-clause-callable
any-requires-clause-callable c =
    serves_from_places (YieldsList-from_slice c.args.args.now (grind (arith, take_all))) (λ x q k. search (rules, tests))
    (λ x k l e. let below : x.now < length c.args.flags.now = rw (e ∙ get_or_default c.args.args.now k x.now 0 l) (c.requires k l) in search rules)

pub returns : goal.returns
unfolding flagged
returns c =
    any_from_yields_List (flagged c.args.flags.now) _ _ _ c.any.ensures.ran (YieldsList-from_slice c.args.args.now (grind (arith, take_all))) (λ x b q k. search (rules, tests))
    ∙ any-std (flagged c.args.flags.now) c.args.args.now
