-- `kinds::arguments_ok`: the counts differ, or what `all` answers. Assumes nothing.
use Rattle.std.proofs.Common.{ℕ, ◌<◌, ◌∙◌, length, sym, inl, inr, arith, rules}
use Rattle.layout.specs.limits.Rows.{at, table_of}
use Rattle.soundness.proofs.rows.Loops.{all-range}
use Rattle.soundness.proofs.kinds.Arguments.{argument_at, other_left, other_right, arguments_all}
use Rattle.soundness.proofs.kinds.arguments_ok.Goals as goal

pub returns-then-args-ls : goal.returns-then-args-ls
returns-then-args-ls c b β k =
    elim c.then-args-ls.either [ inl d ↦ sym (other_left b β _ _ _ _ d) | inr d ↦ sym (other_right b β _ _ _ _ d.1) ]

pub returns : goal.returns
returns c b β k =
    let a = c.args in
    let test = argument_at b β (table_of a.entries.now a.m) a.args.now a.ls.now a.rs.now in
    let left : (j : ℕ) → j < length a.args.now → at a.ls.now j < length b = λ j l. k.1 j (omega arith) in
    let right : (j : ℕ) → j < length a.args.now → at a.rs.now j < length b = λ j l. k.2 j (omega arith) in
    all-range test (length a.args.now) _ c.all.ensures.runs (cc) (λ x r q h. search rules)
    ∙ sym (arguments_all b β _ _ _ _ c.if-args-ls.false c.if-args-rs.false)
