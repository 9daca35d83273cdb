-- `move_terms` meets its contract: each term is moved behind those before it. Assumes nothing.
use Rattle.std.proofs.Common.{◌&&◌, ap, length, arith}
use Rattle.archive.proofs.moving.Terms.{terms-none, term-small, terms-next, terms-all}
use Rattle.archive.proofs.moving.move_terms.Goals as goal

pub loop-i-init : goal.loop-i-init
loop-i-init c = terms-none _ _ _ _ c.requires.2 c.length_of-bytes.ensures

pub move_term-term-requires : goal.move_term-term-requires
move_term-term-requires c =
    let r = c.requires.0 in
    (r.row _ (r.sources _ c.loop-i-test.true), omega arith)

pub overflow_add-bytes : goal.overflow_add-bytes
overflow_add-bytes c =
    let more = term-small _ _ _ _ c.requires.0 _ c.loop-i-test.true c.move_term-term.ensures.bytes in
    omega (arith, c.loop-i.invariant.small, more, c.requires.1)

pub loop-i-preserved : goal.loop-i-preserved
loop-i-preserved c =
    let done = c.move_term-term.ensures in
    terms-next c.args.rows.now (length c.args.source.now) c.args.source.now c.args.target.now c.requires.0 c.loop-i.invariant c.loop-i-test.true
    c.requires.1 _ done.bytes done.moved _ (ap (λ b. c.loop-i.lower && b) done.lower)

pub returns : goal.returns
returns c =
    let all = terms-all _ _ _ _ c.requires.0 c.loop-i.invariant c.loop-i-test.false in
    record { lower = all.0; bytes = all.1.0; moved = all.1.1 }
