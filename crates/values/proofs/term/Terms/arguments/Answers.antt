-- The words behind the count, as many as it says.
use Rattle.std.proofs.Common.{◌≡◌, ◌+◌, ◌*◌, ◌-◌, arith}
use Rattle.model.specs.Area.{term_words}
use Rattle.layout.specs.limits.Rows.{at}
use Rattle.layout.proofs.limits.Rows.{node-var, node-app}
use Rattle.values.proofs.term.Terms.arguments.Goals as goal

pub returns-then-self-row-eq0 : goal.returns-then-self-row-eq0
returns-then-self-row-eq0 c = node-var c.args.self.rows.now c.args.t c.if-self-row-eq0.true

pub returns : goal.returns
returns c =
    let rows = c.args.self.rows.now in
    let first = term_words * c.args.t + 2 in
    let count : first + at rows (term_words * c.args.t + 1) - first ≡ at rows (term_words * c.args.t + 1) = omega arith in
    rw count (node-app rows c.args.t c.if-self-row-eq0.false)
