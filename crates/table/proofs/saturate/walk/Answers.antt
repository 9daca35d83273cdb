-- `saturate::walk` meets its contract: each visit is one step of the walk. Assumes nothing.
use Rattle.std.proofs.Common.{rules, ◌≡◌, ◌+◌, cond, ◌&&◌, ltb, arith, lt-ltb, le-ltb}
use mathlib.Core.Bool.{and-false}
use Rattle.std.proofs.lemmas.Result.{err_from_is_err_and}
use Rattle.table.proofs.visit.Sizes.{index_sizes}
use Rattle.table.proofs.saturate.Walking.{walking_none, walking_full, walking_more, walking_all}
use Rattle.table.proofs.saturate.walk.Goals as goal
use Rattle.table.proofs.saturate.walk.Goals.{then-v+then-i-m, else-v, else-v-via-then-v+else-i-m, else-v-via-else-v}

pub loop-i-init : goal.loop-i-init
loop-i-init c = record { walking = walking_none _ _ _ _ _ _ _ _ _; same = search rules }

pub returns-in_err-v-clause-walked : goal.returns-in_err-v-clause-walked
returns-in_err-v-clause-walked c =
    let e = err_from_is_err_and c.from_residual.result c.from_residual.ensures.1 in
    rw (e.1, e.2) (walking_full c.loop-i.invariant.walking c.loop-i-test.true c.in_err-v.ensures.visited)

pub loop-i-preserved : goal.loop-i-preserved
loop-i-preserved c =
    let raised : c.if-v.w.turned ≡ c.loop-i.w.turned + cond (c.in_ok-v.v.turned && ltb c.loop-i.i c.args.m) 1 0 =
    elim c.if-v.branch [
      | then-v+then-i-m w ↦ rw (w.w-is, w.if-v.true, lt-ltb c.loop-i.i c.args.m w.if-i-m.true)
      | else-v w ↦
          elim w.else-v.branch [
            | else-v-via-then-v+else-i-m w' ↦ rw (w.w-is, le-ltb c.loop-i.i c.args.m w'.if-i-m.false, and-false) (omega arith)
            | else-v-via-else-v w' ↦ rw (w.w-is, w'.if-v.false) (omega arith)
          ]
    ] in
    record {
      walking = walking_more c.loop-i.invariant.walking c.loop-i-test.true c.in_ok-v.ensures.visited raised
          (index_sizes c.visit.auto.entries c.visit.ensures.same_slices);
      same = search rules;
    }

pub returns-clause-walked : goal.returns-clause-walked
returns-clause-walked c = walking_all c.loop-i.invariant.walking c.loop-i-test.false
