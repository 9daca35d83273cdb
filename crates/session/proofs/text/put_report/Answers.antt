-- `text::put_report` meets its contract: 0, the numbers of the report, and the end of the line. Assumes nothing.
use Rattle.std.proofs.Common.{rules, refl, arith}
use Rattle.session.specs.text.Text.{numbers_in}
use Rattle.session.proofs.text.Digits.{decimal_short}
use Rattle.session.proofs.text.Numbers.{following_short}
use Rattle.session.proofs.text.Lines.{line_front}
use Rattle.session.proofs.text.put_report.Goals as goal

pub put_numbers-requires : goal.put_numbers-requires
put_numbers-requires c = omega (arith, decimal_short 0 (omega arith))

pub end_line-requires : goal.end_line-requires
end_line-requires c = omega (arith, decimal_short 0 (omega arith), following_short c.args.bytes.now)

pub returns : goal.returns
returns c =
    let line = line_front 0 (numbers_in c.args.bytes.now) refl (omega (arith, decimal_short 0 (omega arith))) c.put_decimal.ensures (omega (arith, decimal_short 0 (omega arith), following_short c.args.bytes.now)) c.put_numbers.ensures c.end_line.ensures in
    record { count = line.0; bytes = search (rules, line.1) }
