-- Each word adds its bytes, at most three. Assumes nothing.
use Rattle.std.proofs.Common.{◌≡◌, ap, ◌∙◌, ℕ, length, get_or, arith}
use Rattle.leb128.specs.Number.{max_groups, write}
use Rattle.runs.proofs.Numbers.{numbers-none, length-part, length-numbers-more, length-write}
use Rattle.runs.proofs.run_length.Goals as goal

-- the bytes of an operand that is the word
length_as : (x w : ℕ) → x ≡ w → length (write max_groups x) ≡ length (write max_groups w)
length_as x w e = ap (λ n. length (write max_groups n)) e

pub loop-w-init : goal.loop-w-init
loop-w-init c = rw numbers-none

pub overflow_add-sum : goal.overflow_add-sum
overflow_add-sum c = omega (arith, length-part c.args.words.now c.loop-w.w-index, length-write)

pub loop-w-preserved : goal.loop-w-preserved
loop-w-preserved c =
    let i = c.loop-w.w-index in
    let words = c.args.words.now in
    let adds = c.length_of-sum.ensures ∙ length_as _ (get_or words i 0) (omega arith) in
    omega (arith, length-numbers-more words i (omega arith), adds)
