-- `entries::table_ok`: each return follows the tests that lead there. Assumes nothing.
use Rattle.std.proofs.Common.{refl, sym, ◌∙◌}
use Rattle.theory.proofs.Lists.Laws.{T_true}
use Rattle.soundness.proofs.entries.Table.{table-values}
use Rattle.soundness.proofs.entries.table_ok.Goals as goal

-- a kind is wrong
pub returns-then-not-kinds_ok-clause-right : goal.returns-then-not-kinds_ok-clause-right
returns-then-not-kinds_ok-clause-right c b β k = rw (table-values b β _, sym (c.kinds_ok.ensures b β k) ∙ c.if-not-kinds_ok.true)

-- a same-as is wrong
pub returns-in-Wrong-clause-right : goal.returns-in-Wrong-clause-right
returns-in-Wrong-clause-right c b β k =
    rw (table-values b β _, sym (c.kinds_ok.ensures b β k) ∙ c.if-not-kinds_ok.false, sym (c.in-Wrong.ensures.right b β k.held.named))

-- no two entries have the same names
pub returns-in-Apart-clause-right : goal.returns-in-Apart-clause-right
returns-in-Apart-clause-right c b β k =
    rw (table-values b β _, sym (c.kinds_ok.ensures b β k) ∙ c.if-not-kinds_ok.false, sym (c.in-Apart.ensures.right b β k.held.named))
    (sym (T_true _ (c.in-Apart.ensures.apart refl)))

-- no kind and no same-as is wrong
pub returns-in-Shared-clause-right : goal.returns-in-Shared-clause-right
returns-in-Shared-clause-right c b β k =
    rw (table-values b β _, sym (c.kinds_ok.ensures b β k) ∙ c.if-not-kinds_ok.false, sym (c.in-Shared.ensures.right b β k.held.named))
    c.distinct_ok.ensures.distinct
