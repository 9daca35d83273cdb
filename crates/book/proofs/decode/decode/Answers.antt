-- No bytes are the book without terms; of some, the number of terms is within the limit, the terms follow, and no byte is left.
use Rattle.std.proofs.Common.{◌*◌, ◌<◌, length, arith, true-eqb, false-eqb}
use Rattle.std.proofs.lemmas.Result.{err_from_is_err_and}
use Rattle.refusal.specs.declared.Refusal.TheVariants.{OutOfRange}
use Rattle.model.specs.Area.{term_words}
use Rattle.layout.specs.limits.Limits.{limits_of}
use Rattle.book.proofs.reader.Below.{part_says, below-small}
use Rattle.book.proofs.decode.Whole.{zeros-length, no_bytes_lem, refused-count, refused-terms, refused_end, whole_book}
use Rattle.book.proofs.decode.decode.Goals as goal

pub returns-then-is_empty : goal.returns-then-is_empty
returns-then-is_empty c = no_bytes_lem (limits_of c.args.lim) _ (term_words * c.args.lim.terms) c.args.rows.now (true-eqb _ _ c.if-is_empty.ensures) c.requires

pub returns-in_err-terms : goal.returns-in_err-terms
returns-in_err-terms c =
    let some : 0 < length c.args.bytes.now = omega (arith, false-eqb _ _ c.if-is_empty.ensures) in
    let p = err_from_is_err_and c.from_residual.result c.from_residual.ensures.1 in
    rw (p.1, p.2)
    (refused-count (limits_of c.args.lim) c.args.bytes.now (term_words * c.args.lim.terms) c.args.rows.now some _
    (part_says c.args.bytes.now 0 _ OutOfRange c.in_err-terms.ensures))

pub read_terms-requires : goal.read_terms-requires
read_terms-requires c =
    let read = part_says c.args.bytes.now 0 _ OutOfRange c.in_ok-terms.ensures in
    let long = zeros-length _ c.requires in
    (read.1, omega (arith, below-small _ 4 _ _ _ read.0), rw long c.requires)

pub returns-in_err-end : goal.returns-in_err-end
returns-in_err-end c =
    let some : 0 < length c.args.bytes.now = omega (arith, false-eqb _ _ c.if-is_empty.ensures) in
    let read = part_says c.args.bytes.now 0 _ OutOfRange c.in_ok-terms.ensures in
    let p = err_from_is_err_and c.from_residual-in_err-end.result c.from_residual-in_err-end.ensures.1 in
    rw (p.1, p.2) (refused-terms (limits_of c.args.lim) _ _ c.read_terms.new.rows some _ _ read.0 (zeros-length _ c.requires) _ c.in_err-end.ensures)

pub returns-then-end-bytes : goal.returns-then-end-bytes
returns-then-end-bytes c =
    let some : 0 < length c.args.bytes.now = omega (arith, false-eqb _ _ c.if-is_empty.ensures) in
    let read = part_says c.args.bytes.now 0 _ OutOfRange c.in_ok-terms.ensures in
    refused_end (limits_of c.args.lim) _ _ _ some _ _ read.0 (zeros-length _ c.requires) _ c.in_ok-end.ensures c.if-end-bytes.true

pub returns : goal.returns
returns c =
    let some : 0 < length c.args.bytes.now = omega (arith, false-eqb _ _ c.if-is_empty.ensures) in
    let read = part_says c.args.bytes.now 0 _ OutOfRange c.in_ok-terms.ensures in
    whole_book (limits_of c.args.lim) _ _ _ some _ _ read.0 (zeros-length _ c.requires) _ c.in_ok-end.ensures c.if-end-bytes.false
