-- The words are the fields, and the eight arguments one by one. Assumes nothing.
use Rattle.std.proofs.Common.{rules, ◌≡◌, length}
use Rattle.model.specs.Limits.{max_arity}
use Rattle.model.specs.Lists.{from}
use Rattle.layout.specs.entry.Row.{row_of}
use Rattle.layout.proofs.words.Elements.{every}
use Rattle.layout.proofs.entry.row_of.Goals as goal

pub returns : goal.returns
unfolding row_of from
returns c =
    let long : length c.args.e.arguments ≡ max_arity = search rules in
    rw (← every c.args.e.arguments max_arity long)
