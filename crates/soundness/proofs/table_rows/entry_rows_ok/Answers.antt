-- `table_rows::entry_rows_ok`: what `all` answers, and each return follows it. Assumes nothing.
use Rattle.std.proofs.Common.{◌≡◌, rules, tests}
use Rattle.model.specs.Lists.{all, from}
use Rattle.soundness.specs.rows.RowTests.{entry_row_ok, entry_rows_ok}
use Rattle.soundness.proofs.rows.Loops.{all-range}
use Rattle.soundness.proofs.table_rows.entry_rows_ok.Goals as goal
use Rattle.soundness.proofs.table_rows.entry_rows_ok.Goals.{After-all}

each : (c : After-all) → c.all.result ≡ all (entry_row_ok c.args.entries.now c.args.n) (from 0 c.args.m)
each c = all-range (entry_row_ok c.args.entries.now c.args.n) c.args.m _ c.all.ensures.runs (cc) (λ x b q k. search (rules, tests))

pub returns-then-all : goal.returns-then-all
unfolding entry_rows_ok
returns-then-all c = rw (← each (goal.at.returns-then-all c).After-all, c.if-all.true) c.zero_from.ensures

pub returns-else-all : goal.returns-else-all
unfolding entry_rows_ok
returns-else-all c = rw (← each (goal.at.returns-else-all c).After-all, c.if-all.false)
