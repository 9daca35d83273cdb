-- What was read says which case of a key holds.
use Rattle.std.proofs.Common.{◌∙◌, arith}
use Rattle.values.proofs.roots.Reading.{arguments_below}
use Rattle.values.proofs.names.Keys.{word-app, hash_var, hash_app}
use Rattle.values.proofs.names.key_hash.Goals as goal

pub application_hash-requires : goal.application_hash-requires
application_hash-requires c j l = omega (arith, c.requires.1, arguments_below c.args.terms.good c.requires.0 c.in-Some.ensures j l)

pub returns-in-Some : goal.returns-in-Some
returns-in-Some c =
    c.application_hash.ensures
    ∙ rw (c.symbol.ensures ∙ word-app c.args.terms.rows.now c.args.t c.in-Some.ensures)
    (hash_app c.args.terms.rows.now c.args.classes.now c.args.t c.in-Some.ensures)

pub returns-in-None : goal.returns-in-None
returns-in-None c = hash_var c.args.terms.rows.now c.args.classes.now c.args.t c.in-None.ensures
