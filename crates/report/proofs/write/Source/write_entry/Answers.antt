-- `write::Source::write_entry` meets its contract: the bytes are those of the entry's numbers. Assumes nothing.
use Rattle.std.proofs.Common.{◌∙◌, arith}
use Rattle.report.proofs.write.Bytes.{run-laid}
use Rattle.report.proofs.write.Given.{given_le, given_row}
use Rattle.report.proofs.write.Source.write_entry.Goals as goal

pub put_run-requires : goal.put_run-requires
put_run-requires c =
    let words = c.words.result.now in (
      given_row c.args.self _ c.requires.n_in_bounds words (λ s shows. c.words.ensures ∙ c.entry_numbers-numbers.ensures s shows),
      given_le c.args.self _ _ (λ s shows. rw (c.words.ensures, c.entry_numbers-numbers.ensures s shows) (omega (arith, c.requires.room s shows))),
    )

pub returns : goal.returns
returns c = λ s shows.
    run-laid _ _ (c.words.ensures ∙ c.entry_numbers-numbers.ensures s shows) _ _ _ (c.put_run.ensures.next, c.put_run.ensures.bytes)
