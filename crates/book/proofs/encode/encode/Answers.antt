-- `encode` meets its contract: the number of terms is laid at the front, and term after term behind it. Assumes nothing.
use Rattle.std.proofs.Common.{arith}
use Rattle.runs.proofs.Over.{laid_none}
use Rattle.book.proofs.encode.Terms.{terms-none, encodable-terms, encodable-small, encodable-row}
use Rattle.book.proofs.encode.Encoding.{first_fits, term_fits, term-laid, book-laid}
use Rattle.book.proofs.encode.encode.Goals as goal

pub overflow_cast-terms : goal.overflow_cast-terms
overflow_cast-terms c = omega (arith, encodable-terms _ _ c.requires.0)

pub put_number-at-requires : goal.put_number-at-requires
put_number-at-requires c =
    (omega (arith, encodable-terms _ _ c.requires.0), first_fits _ _ c.args.out.now c.requires.1)

pub loop-t-init : goal.loop-t-init
loop-t-init c = rw (terms-none c.args.rows.now) (laid_none c.put_number-at.new.out c.put_number-at.result)

pub put_term-at-requires : goal.put_term-at-requires
put_term-at-requires c =
    let loop = c.loop-t in
    let first = c.put_number-at.ensures in (
      encodable-row _ _ c.requires.0 loop.t c.loop-t-test.true,
      encodable-small _ _ c.requires.0,
      term_fits _ _ _ c.requires.1 _ _ (first.next, first.bytes) loop.t (omega arith) _ _ loop.invariant c.loop-t-test.true,
    )

pub loop-t-preserved : goal.loop-t-preserved
loop-t-preserved c =
    let loop = c.loop-t in
    let first = c.put_number-at.ensures in
    let term = c.put_term-at.ensures in
    term-laid _ _ _ c.requires.1 _ _ (first.next, first.bytes) loop.t (omega arith) _ _ loop.invariant _ _ (term.next, term.bytes)

pub returns : goal.returns
returns c =
    let loop = c.loop-t in
    let first = c.put_number-at.ensures in
    let book = book-laid _ _ _ c.requires.1 _ _ (first.next, first.bytes) loop.t (omega arith) _ _ loop.invariant (omega arith) in
    record { count = book.0; bytes = book.1 }
