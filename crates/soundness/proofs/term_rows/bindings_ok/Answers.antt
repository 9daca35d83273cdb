-- `term_rows::bindings_ok`: what `all` answers, and each return follows it. Assumes nothing.
use Rattle.std.proofs.Common.{◌≡◌, ℕ, List, Bool, rules, tests}
use Rattle.model.specs.Lists.{all, from}
use Rattle.model.specs.Area.{binding_ok}
use Rattle.layout.specs.limits.Rows.{node_of, book_of, binding_of}
use Rattle.soundness.specs.rows.RowTests.{bindings_ok}
use Rattle.soundness.proofs.rows.Loops.{all-range}
use Rattle.soundness.proofs.term_rows.bindings_ok.Goals as goal
use Rattle.soundness.proofs.term_rows.bindings_ok.Goals.{After-all}

-- the test of one term
abbrev one : List ℕ → List ℕ → ℕ → ℕ → Bool
one rows bindings n t = binding_ok (book_of rows n) (node_of rows t) (binding_of bindings t)

each : (c : After-all) → c.all.result ≡ all (one c.args.rows.now c.args.bindings.now c.args.n) (from 0 c.args.n)
each c = all-range (one c.args.rows.now c.args.bindings.now c.args.n) c.args.n _ c.all.ensures.runs (cc) (λ x b q k. search (rules, tests))

pub returns-then-all : goal.returns-then-all
unfolding bindings_ok
returns-then-all c = rw (← each (goal.at.returns-then-all c).After-all, c.if-all.true) c.zero_from.ensures

pub returns-else-all : goal.returns-else-all
unfolding bindings_ok
returns-else-all c = rw (← each (goal.at.returns-else-all c).After-all, c.if-all.false)
