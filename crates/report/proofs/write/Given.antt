-- What holds because a report's source shows some state. Assumes nothing.
use Rattle.std.proofs.Common.{ℕ, List, ◌≡◌, ◌<◌, ◌≤◌, length}
use Rattle.std.proofs.Math.Bridge.{le_prop}
use Rattle.std.proofs.Math.Dec.{T_prop}
use Rattle.std.proofs.Math.Logic.{∥∥₁_elim}
use Rattle.std.proofs.Props.{props}
use Rattle.model.specs.Step.{State}
use Rattle.layout.specs.limits.Rows.{at}
use Rattle.runs.specs.Runs.{small_words}
use Rattle.report.specs.declared.write.Source.{Source}
use Rattle.report.specs.write.Shown.{row_numbers, EntryReadable}
use Rattle.report.specs.write.Source.{Shows}
use Rattle.report.proofs.write.Rows.{within, readable}
use Rattle.report.proofs.write.Bytes.{head_small, row_small}

small_words-prop : (words : List ℕ) → IsProp (small_words words)
unfolding small_words
small_words-prop words = T_prop _

module _ (r : Source) where
  -- what holds of each state that is shown, holds
  given : {P : Type 0} → IsProp P → ((s : State) → Shows s r → P) → P
  given p h = ∥∥₁_elim r.given p (λ g. h g.state g.holds)

  pub given_le : (a b : ℕ) → ((s : State) → Shows s r → a ≤ b) → a ≤ b
  given_le a b = given le_prop

  -- the numbers before the entries are small
  pub given_head : small_words r.head.now
  given_head = given (small_words-prop _) (λ s shows. rw shows.1 (head_small shows.0.tabled))

  module _ (n : ℕ) (l : n < length r.met.now) where
    -- row n can be read
    pub given_readable : EntryReadable r.names.now r.entries.now r.numbers.now (at r.met.now n)
    given_readable = given (hlevel props) (λ s shows. readable shows.0 n l)

    -- its numbers are small
    pub given_row : (words : List ℕ) → ((s : State) → Shows s r → words ≡ row_numbers s n) → small_words words
    given_row words h = given (small_words-prop words) (λ s shows. rw (h s shows) (row_small shows.0.tabled n (within shows.0 n l)))
