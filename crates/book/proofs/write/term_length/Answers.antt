-- `term_length` meets its contract: a term's bytes are those of its numbers, at most three for each. Assumes nothing.
use Rattle.std.proofs.Common.{◌≡◌, ap, ◌∙◌, List, ℕ, length, arith, take_all}
use Rattle.model.specs.Report.{number_bytes}
use Rattle.runs.proofs.Numbers.{length-numbers}
use Rattle.book.specs.encode.Encoding.{term_bytes}
use Rattle.book.proofs.write.term_length.Goals as goal

-- the bytes of a slice of the numbers that is all of them
bytes_as : (ns x : List ℕ) → x ≡ ns → length (number_bytes x) ≡ length (number_bytes ns)
bytes_as ns x e = ap (λ ns. length (number_bytes ns)) e

pub returns : goal.returns
unfolding term_bytes
returns c =
    let numbers = c.numbers_of-numbers in
    let all = c.run_length.ensures ∙ bytes_as numbers.result.now _ (grind (arith, take_all, numbers.ensures.few)) in
    record { few = omega (arith, length-numbers numbers.result.now, numbers.ensures.few, all); count = all ∙ bytes_as _ _ numbers.ensures.numbers }
