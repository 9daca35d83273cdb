-- `move_term` meets its contract: a variable's row stays as it is, and any other is its symbol, its count and its arguments. Assumes
-- nothing.
use Rattle.std.proofs.Common.{◌≡◌, ℕ, ◌+◌, ◌-◌, arith}
use Rattle.archive.proofs.moving.Arguments.{number_small, variable-moved, arguments-room, arguments-named, arguments-small, applied-moved}
use Rattle.archive.proofs.moving.move_term.Goals as goal

-- the length of a part of a slice
part : (a n : ℕ) → a + n - a ≡ n
part a n = omega arith

pub returns-then-symbol-eq0 : goal.returns-then-symbol-eq0
returns-then-symbol-eq0 c =
    let moved = variable-moved _ _ _ c.requires.0 _ _ _ c.if-symbol-eq0.true in
    record { lower = moved.0; bytes = moved.1.0; moved = moved.1.1 }

pub move_arguments-arguments-requires : goal.move_arguments-arguments-requires
move_arguments-arguments-requires c =
    let r = c.requires.0 in
    let e = c.if-symbol-eq0.false in
    (arguments-room _ _ _ r e _ (part _ _) _ _ _ _ _ (part _ _) c.requires.1, arguments-named _ _ _ r e _ (part _ _))

pub overflow_add-result : goal.overflow_add-result
overflow_add-result c = omega (arith, number_small _ c.length_of.ensures, number_small _ c.length_of-2.ensures)

pub overflow_add-result-2 : goal.overflow_add-result-2
overflow_add-result-2 c =
    let few = arguments-small _ _ _ c.requires.0 c.if-symbol-eq0.false _ (part _ _) c.move_arguments-arguments.ensures.bytes in
    omega (arith, number_small _ c.length_of.ensures, number_small _ c.length_of-2.ensures, few)

pub returns : goal.returns
returns c =
    let done = c.move_arguments-arguments.ensures in
    applied-moved _ _ _ c.requires.0 c.if-symbol-eq0.false _ (part _ _) _ _ _ _ _ _ _ _ _ (part _ _) c.requires.1 done.lower
    c.length_of.ensures c.length_of-2.ensures done.bytes done.moved
