-- Each test, where those before it hold. Assumes nothing.
use Rattle.std.proofs.Common.{◌≡◌, Bool, true, false, ◌∙◌, sym, eq-eqb}
use Rattle.layout.proofs.limits.Symbols.{alike-variable, alike-words}
use Rattle.layout.proofs.limits.alike.Goals as goal
use Rattle.layout.proofs.limits.alike.Goals.{then-rows-left-ne0, else-rows-left-ne0}

both : {P : Type 0} {b : Bool} → b ≡ true → b ≡ false → P
both t f = cc

pub returns-then-rows-left : goal.returns-then-rows-left
returns-then-rows-left c =
    elim c.if-rows-left-ne0.branch [
      | then-rows-left-ne0 w ↦
          alike-words _ _ _ w.if-rows-left-ne0.true c.requires.left c.requires.right true (sym c.if-rows-left.true ∙ w.value-is)
      | else-rows-left-ne0 w ↦ both c.if-rows-left.true (rw (eq-eqb _ _ w.if-rows-left-ne0.false) at w.value-is)
    ]

pub returns-else-rows-left : goal.returns-else-rows-left
returns-else-rows-left c =
    elim c.if-rows-left-ne0.branch [
      | then-rows-left-ne0 w ↦
          c.if-rows-left.false ∙
          alike-words _ _ _ w.if-rows-left-ne0.true c.requires.left c.requires.right false (sym c.if-rows-left.false ∙ w.value-is)
      | else-rows-left-ne0 w ↦ c.if-rows-left.false ∙ alike-variable _ _ _ w.if-rows-left-ne0.false
    ]
