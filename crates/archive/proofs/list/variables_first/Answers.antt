-- `variables_first` meets its contract: the variables, and the other terms behind them. Assumes nothing.
use Rattle.std.proofs.Common.{refl, length, arith}
use Rattle.archive.proofs.list.OfKind.{both_kinds, kinds_stored}
use Rattle.archive.proofs.list.variables_first.Goals as goal

pub append_kind-others-requires : goal.append_kind-others-requires
append_kind-others-requires c =
    (c.requires.0, c.requires.1, omega (arith, both_kinds c.args.rows.now (length c.args.listed.now)))

pub append_kind-requires : goal.append_kind-requires
append_kind-requires c =
    let first = c.append_kind-others.ensures in
    (c.requires.0, c.requires.1, omega (arith, both_kinds c.args.rows.now (length c.args.listed.now), first.next))

pub returns : goal.returns
returns c =
    let first = c.append_kind-others.ensures in
    kinds_stored _ _ _ _ _ refl first.listed (rw first.next at c.append_kind.ensures.listed)
