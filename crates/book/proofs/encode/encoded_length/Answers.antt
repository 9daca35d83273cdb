-- `encoded_length` meets its contract: the sum fits, and grows by the length of each term. Assumes nothing.
use Rattle.std.proofs.Common.{arith, ◌≡◌, ℕ, ap, length}
use Rattle.runs.proofs.Numbers.{length-write}
use Rattle.book.specs.encode.Encoding.{terms_bytes}
use Rattle.book.proofs.encode.Terms.{terms-none, length-terms-more, encodable-terms, encodable-row}
use Rattle.book.proofs.encode.Encoding.{length-book}
use Rattle.book.proofs.encode.encoded_length.Goals as goal

pub overflow_cast-terms : goal.overflow_cast-terms
overflow_cast-terms c = omega (arith, encodable-terms _ _ c.requires)

pub loop-t-init : goal.loop-t-init
loop-t-init c = let none = ap length (terms-none c.args.rows.now) in (omega arith, omega arith)

pub term_length-sum-requires : goal.term_length-sum-requires
term_length-sum-requires c = encodable-row _ _ c.requires c.loop-t.t c.loop-t-test.true

pub overflow_add-sum : goal.overflow_add-sum
overflow_add-sum c =
    let few = encodable-terms _ _ c.requires in
    omega (arith, length-write c.args.terms, c.loop-t.invariant.0, c.loop-t.invariant.1)

pub loop-t-preserved : goal.loop-t-preserved
loop-t-preserved c =
    let more = length-terms-more c.args.rows.now c.loop-t.t in
    (omega arith, omega arith)

pub returns : goal.returns
returns c =
    let done : c.loop-t.t ≡ c.args.terms = omega arith in
    let all = ap (λ (t : ℕ). length (terms_bytes c.args.rows.now t)) done in
    rw (length-book c.args.rows.now c.args.terms) (omega arith)
