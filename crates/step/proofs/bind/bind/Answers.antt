-- `bind::bind` meets its contract: the tests before the walk refuse, or the variable is bound and the rest answers. Assumes
-- nothing.
use Rattle.std.proofs.Common.{arith}
use Rattle.std.proofs.lemmas.Result.{err_from_is_err_and}
use Rattle.step.proofs.bind.Chosen.{refuses, t_fits, v_fits, to_rebuild, chosen}
use Rattle.step.proofs.bind.bind.Goals as goal

pub returns-in_err-early_refusal-clause-chosen : goal.returns-in_err-early_refusal-clause-chosen
returns-in_err-early_refusal-clause-chosen c =
    let e = err_from_is_err_and c.from_residual.result c.from_residual.ensures.1 in
    rw (e.1, e.2) (λ lim lines a. refuses a _ _ _ c.in_err-early_refusal.ensures _)

pub overflow_add-bindings : goal.overflow_add-bindings
overflow_add-bindings c = omega (arith, t_fits c.requires.known _ _ c.in_ok-early_refusal.ensures)

pub bounds-bindings-v : goal.bounds-bindings-v
bounds-bindings-v c = v_fits c.requires.known _ _ c.in_ok-early_refusal.ensures

pub invariant_of-terms : goal.invariant_of-terms
invariant_of-terms c = record { good = (to_rebuild c.requires.known _ _ c.in_ok-early_refusal.ensures c.early_refusal.auto.flags).good }

pub rebuild-requires-clause-table : goal.rebuild-requires-clause-table
rebuild-requires-clause-table c = to_rebuild c.requires.known _ _ c.in_ok-early_refusal.ensures c.early_refusal.auto.flags

pub returns-clause-chosen : goal.returns-clause-chosen
returns-clause-chosen c = λ lim lines a. chosen a _ _ c.in_ok-early_refusal.ensures c.rebuild.auto.entries c.rebuild.ensures.settled
