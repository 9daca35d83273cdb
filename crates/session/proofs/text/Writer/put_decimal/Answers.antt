-- `text::Writer::put_decimal` meets its contract: what is printed are the digits. Assumes nothing.
use Rattle.std.proofs.Common.{◌≡◌, sym, ◌∙◌, arith, ℕ, ◌<◌}
use Rattle.std.specs.Fmt.{decimal as printed}
use Rattle.session.specs.text.Text.{decimal}
use Rattle.session.proofs.text.Digits.{decimal-printed}
use Rattle.session.proofs.text.Writer.put_decimal.Goals as goal

-- what is printed of an operand that is the number
printed_as : (x n : ℕ) → x ≡ n → n < 4294967296 → decimal n ≡ printed x
printed_as x n e w = rw e (decimal-printed n w)

pub returns : goal.returns
returns c =
    let same : decimal c.args.n ≡ c.as_bytes.result.now =
    printed_as _ c.args.n (omega arith) (omega arith) ∙ sym (c.as_bytes.ensures.value ∙ c.format.ensures.text)
    in
    rw same c.put_bytes.ensures
