-- `term_rows::binding_ok`: each return follows the tests that lead there. Assumes nothing.
use Rattle.std.proofs.Common.{eq-eqb, ne_eqb}
use Rattle.soundness.proofs.term_rows.Bindings.{unbound, bound_application, bound-variable}
use Rattle.soundness.proofs.term_rows.binding_ok.Goals as goal

pub returns-then-bound-eq0 : goal.returns-then-bound-eq0
returns-then-bound-eq0 c =
    let a = c.args in
    rw (eq-eqb _ _ c.if-bound-eq0.true) (unbound a.rows.now a.bindings.now a.n a.t c.if-bound-eq0.true)

pub returns-then-rows-t-eq0 : goal.returns-then-rows-t-eq0
returns-then-rows-t-eq0 c =
    let a = c.args in
    bound-variable a.rows.now a.bindings.now a.n a.t c.if-bound-eq0.false c.if-rows-t-eq0.true

pub returns-else-rows-t-eq0 : goal.returns-else-rows-t-eq0
returns-else-rows-t-eq0 c =
    let a = c.args in
    rw (ne_eqb _ _ c.if-rows-t-eq0.false)
    (bound_application a.rows.now a.bindings.now a.n a.t c.if-bound-eq0.false c.if-rows-t-eq0.false)
