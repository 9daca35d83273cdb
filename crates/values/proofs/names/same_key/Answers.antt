-- Two keys are the same where the symbols and the classes of the arguments are.
use Rattle.std.proofs.Common.{sym, ◌∙◌, ne_eqb, arith}
use Rattle.values.proofs.roots.Reading.{arguments_below}
use Rattle.values.proofs.names.Keys.{keys_alike, keys_differ, keys_var}
use Rattle.values.proofs.names.same_key.Goals as goal

pub same_classes-requires-clause-args : goal.same_classes-requires-clause-args
same_classes-requires-clause-args c j l =
    omega (arith, c.requires.classes, arguments_below c.args.terms.good c.requires.terms.0 c.in-Some-Some.ensures j l)

pub same_classes-requires-clause-others : goal.same_classes-requires-clause-others
same_classes-requires-clause-others c j l =
    omega (arith, c.requires.classes, arguments_below c.args.terms.good c.requires.terms.1 c.in-Some-Some.ensures' j l)

pub returns-then-symbol : goal.returns-then-symbol
returns-then-symbol c =
    c.same_classes.ensures
    ∙ keys_alike c.args.terms.rows.now c.args.classes.now c.args.t c.args.u c.in-Some-Some.ensures c.in-Some-Some.ensures'
    (sym c.symbol.ensures ∙ (c.if-symbol.true ∙ c.symbol-in-Some-Some.ensures))

pub returns-else-symbol : goal.returns-else-symbol
returns-else-symbol c =
    rw (ne_eqb c.symbol.result c.symbol-in-Some-Some.result c.if-symbol.false)
    (keys_differ c.args.terms.rows.now c.args.classes.now c.args.t c.args.u c.in-Some-Some.ensures c.in-Some-Some.ensures'
    (λ e. c.if-symbol.false (c.symbol.ensures ∙ (e ∙ sym c.symbol-in-Some-Some.ensures))))

pub returns-in-Some-None : goal.returns-in-Some-None
returns-in-Some-None c = keys_var c.args.terms.rows.now c.args.classes.now c.args.t c.args.u c.in-Some-None.ensures c.in-Some-None.ensures'
