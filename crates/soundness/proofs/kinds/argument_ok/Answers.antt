-- `kinds::argument_ok`: each return follows the tests that lead there. Assumes nothing.
use Rattle.std.proofs.Common.{◌≡◌, ◌&&◌, ◌<◌, length, eqb, sym, ◌∙◌, arith}
use Rattle.std.proofs.lemmas.Bool.{eq-eqb, ne_eqb}
use Rattle.model.specs.Term.{Book, Bindings}
use Rattle.layout.specs.limits.Rows.{at, table_of}
use Rattle.soundness.specs.kinds.Known.{Named}
use Rattle.soundness.specs.kinds.KindTests.{argument_right}
use Rattle.soundness.proofs.kinds.Rows.{is-left, is_right, left_side, right_side, argument-names, argument-none}
use Rattle.soundness.proofs.kinds.argument_ok.Goals as goal
use Rattle.soundness.proofs.kinds.argument_ok.Goals.{After-entry_at-e}

-- the test, on the sides of the entry that is read
sides : (c : After-entry_at-e) (b : Book) (β : Bindings) →
    let a = c.args in
    let e = c.entry_at-e.result in
    Named b β a.names.now a.entries.now a.m × (a.l < length b) × (a.r < length b) → argument_right b β (table_of a.entries.now a.m) a.i a.l a.r
    ≡ eqb (at a.names.now e.left) (at a.names.now a.l) && eqb (at a.names.now e.right) (at a.names.now a.r)
sides c b β k =
    let there = c.if-m-i.false in
    let read = c.entry_at-e.ensures in
    argument-names k.0 there _ _ k.1 k.2 ∙ rw (is-left k.0 there _ read, is_right k.0 there _ read)

pub returns-then-m-i : goal.returns-then-m-i
returns-then-m-i c b β k = sym (argument-none b β _ _ _ _ _ c.if-m-i.true)

pub bounds-names-e : goal.bounds-names-e
bounds-names-e c =
    let k = c.requires.known.0 in omega (arith, left_side k c.if-m-i.false _ c.entry_at-e.ensures, k.names_fit)

pub bounds-names-e-then-names-e : goal.bounds-names-e-then-names-e
bounds-names-e-then-names-e c =
    let k = c.requires.known.0 in omega (arith, right_side k c.if-m-i.false _ c.entry_at-e.ensures, k.names_fit)

pub returns-then-names-e : goal.returns-then-names-e
returns-then-names-e c b β k = rw (sides (goal.at.returns-then-names-e c).After-entry_at-e b β k, eq-eqb _ _ c.if-names-e.true)

pub returns-else-names-e : goal.returns-else-names-e
returns-else-names-e c b β k = rw (sides (goal.at.returns-else-names-e c).After-entry_at-e b β k, ne_eqb _ _ c.if-names-e.false)
