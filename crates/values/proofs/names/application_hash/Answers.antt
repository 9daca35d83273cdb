-- Each turn takes one class more into the hash.
use Rattle.std.proofs.Common.{ℕ, ◌+◌, map, drop, ap, sym, ◌∙◌}
use Rattle.layout.specs.limits.Rows.{at}
use Rattle.values.specs.names.Keys.{hash_from}
use Rattle.values.proofs.names.Keys.{hash_more, hash_none}
use Rattle.values.proofs.names.application_hash.Goals as goal

pub loop-a-preserved : goal.loop-a-preserved
loop-a-preserved c =
    let classes = c.args.classes.now in
    let args = c.args.args.now in
    ap (λ (h : ℕ). hash_from h (map (at classes) (drop (c.loop-a.a-index + 1) args))) c.mix-h.ensures
    ∙ (sym (hash_more (at classes) args c.loop-a.h c.loop-a.a-index c.loop-a-test.true) ∙ c.loop-a.invariant)

pub returns : goal.returns
returns c = sym (hash_none (at c.args.classes.now) _ _ _ c.loop-a-test.false) ∙ c.loop-a.invariant
