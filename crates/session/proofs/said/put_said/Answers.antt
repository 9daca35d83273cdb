-- `said::put_said` meets its contract: each part has room, and stands behind those before it (proofs/said/Saying.antt). Assumes nothing.
use Rattle.std.proofs.Common.{rules, refl, arith}
use Rattle.session.specs.said.Said.{ascii}
use Rattle.session.proofs.text.Digits.{decimal_short}
use Rattle.session.proofs.said.Saying.{words_short, said_front}
use Rattle.session.proofs.said.put_said.Goals as goal

pub put_bytes-requires-2 : goal.put_bytes-requires-2
put_bytes-requires-2 g c = omega (arith, decimal_short c.args.position (omega arith))

pub put_decimal-requires-2 : goal.put_decimal-requires-2
put_decimal-requires-2 g c = omega (arith, decimal_short c.args.position (omega arith))

pub put_bytes-requires-3 : goal.put_bytes-requires-3
put_bytes-requires-3 g c = omega (arith, decimal_short c.args.position (omega arith), decimal_short c.number-number.result (omega arith))

pub put_bytes-requires-4 : goal.put_bytes-requires-4
put_bytes-requires-4 g c =
    rw c.words.ensures
    (omega (arith, decimal_short c.args.position (omega arith), decimal_short c.number-number.result (omega arith), words_short c.number-number.result))

pub end_line-requires : goal.end_line-requires
end_line-requires g c =
    let put = rw c.words.ensures at c.put_bytes-4.ensures in
    omega (arith, decimal_short c.args.position (omega arith), decimal_short c.number-number.result (omega arith), words_short c.number-number.result)

pub returns : goal.returns
unfolding ascii
returns g c =
    let words = rw c.words.ensures at c.put_bytes-4.ensures in
    let said = said_front c.args.position c.number-number.result (omega arith) (omega arith) refl c.requires c.put_bytes.ensures c.put_decimal.ensures c.put_bytes-2.ensures c.put_decimal-2.ensures c.put_bytes-3.ensures words c.end_line.ensures in
    rw (← c.number-number.ensures) (record { count = said.0; bytes = search (rules, said.1) })
