-- The position up to which a book is read lies within it. Assumes nothing.
use Rattle.std.proofs.Common.{◌≡◌, List, ℕ, ◌+◌, ◌-◌, ◌≤◌, arith, length, take, drop}
use lib.ListN.{length-take}
use Rattle.model.specs.Limits.{office}
use Rattle.book.specs.unread.Unread.{read_to}

pub within_book : (input : List ℕ) (at size : ℕ) {r : ℕ} → r ≡ read_to office (take (at + size - at) (drop at input)) → r ≤ size
unfolding read_to
within_book input at size e =
    let short : length (take (at + size - at) (drop at input)) ≤ at + size - at = simp length-take (omega arith) in omega arith
