-- `write::Source::entry_numbers` meets its contract: a hole has three numbers, a common entry four and one for each argument.
-- Assumes nothing.
use Rattle.std.proofs.Common.{sym, ℕ, arith, length-append}
use Rattle.report.proofs.numbering.Rows.{few-read, places-read, length-read}
use Rattle.report.proofs.write.Given.{given_readable}
use Rattle.report.proofs.write.Rows.{left-named, right-named, small-read, marked-read, hole-numbers, common_filled}
use Rattle.report.proofs.write.Source.entry_numbers.Goals as goal

pub entry_at-e-requires : goal.entry_at-e-requires
entry_at-e-requires c = (given_readable c.args.self _ c.requires).fits.within

pub bounds-self-e : goal.bounds-self-e
bounds-self-e c = left-named (given_readable c.args.self _ c.requires) _ c.entry_at-e.ensures

pub bounds-self-e-2 : goal.bounds-self-e-2
bounds-self-e-2 c = right-named (given_readable c.args.self _ c.requires) _ c.entry_at-e.ensures

pub returns-then-e-eq0 : goal.returns-then-e-eq0
returns-then-e-eq0 c = λ s shows. hole-numbers shows.0 _ c.requires _ c.entry_at-e.ensures c.if-e-eq0.true

pub overflow_add-array : goal.overflow_add-array
overflow_add-array c =
    omega (arith, small-read (given_readable c.args.self _ c.requires) _ c.entry_at-e.ensures c.if-e-eq0.false)

pub slice_bounds-arguments-end : goal.slice_bounds-arguments-end
slice_bounds-arguments-end c =
    places-read (given_readable c.args.self _ c.requires).fits _ c.entry_at-e.ensures c.if-e-eq0.false

pub slice_bounds-renumber-end : goal.slice_bounds-renumber-end
slice_bounds-renumber-end c =
    sym (length-read (given_readable c.args.self _ c.requires).fits _ c.entry_at-e.ensures c.if-e-eq0.false)

pub renumber-requires-clause-by_index : goal.renumber-requires-clause-by_index
renumber-requires-clause-by_index c =
    marked-read (given_readable c.args.self _ c.requires) _ c.entry_at-e.ensures c.if-e-eq0.false

pub invariant_of-result-2 : goal.invariant_of-result-2
invariant_of-result-2 c =
    let few = few-read (given_readable c.args.self _ c.requires).fits _ c.entry_at-e.ensures c.if-e-eq0.false in
    record { few = omega (arith, few, c.renumber.auto.out, length-append {A = ℕ}) }

pub returns : goal.returns
returns c = λ s shows. common_filled shows.0 _ c.requires _ c.entry_at-e.ensures c.if-e-eq0.false _ _ c.renumber.ensures
