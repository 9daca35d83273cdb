-- `bind::early_refusal` meets its contract: each return follows the tests that lead there. Assumes nothing.
use Rattle.step.proofs.bind.Tests.{no_term_v, no_term_t, not_free, by_occurrence}
use Rattle.step.proofs.bind.early_refusal.Goals as goal

pub returns-then-terms-v : goal.returns-then-terms-v
returns-then-terms-v c = no_term_v _ _ _ _ _ c.if-terms-v.true

pub returns-then-terms-t : goal.returns-then-terms-t
returns-then-terms-t c = no_term_t _ _ _ _ _ c.if-terms-v.false c.if-terms-t.true

pub returns-then-not-is_free : goal.returns-then-not-is_free
returns-then-not-is_free c = not_free _ _ _ _ _ c.if-terms-v.false c.if-terms-t.false _ c.is_free.ensures c.if-not-is_free.true

pub returns-then-occurs_in : goal.returns-then-occurs_in
returns-then-occurs_in c =
    rw c.if-occurs_in.true at
    (by_occurrence _ _ _ _ _ c.if-terms-v.false c.if-terms-t.false _ c.is_free.ensures c.if-not-is_free.false _ c.occurs_in.ensures)

pub returns : goal.returns
returns c =
    rw c.if-occurs_in.false at
    (by_occurrence _ _ _ _ _ c.if-terms-v.false c.if-terms-t.false _ c.is_free.ensures c.if-not-is_free.false _ c.occurs_in.ensures)
