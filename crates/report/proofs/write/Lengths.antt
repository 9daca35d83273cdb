-- The length of the report, added up entry after entry. Assumes nothing.
use Rattle.std.proofs.Common.{◌≡◌, ◌∙◌, List, ℕ, ◌+◌, ◌≤◌, ◌<◌, length, ap, arith, length-append}
use Rattle.model.specs.Step.{State}
use Rattle.model.specs.Report.{number_bytes, report_bytes}
use Rattle.report.specs.write.Shown.{classes, head_numbers, Shown}
use Rattle.report.proofs.write.Rows.{within}
use Rattle.report.proofs.write.Bytes.{head_bytes, row_bytes, rows_bytes, rows_none, length-rows-more, report-parts, rows_short, report-few}

-- at first, the sum is the length of the numbers before the entries
pub sum-none : (s : State) (head : List ℕ) (sum : ℕ) → head ≡ head_numbers s → sum ≡ length (number_bytes head)
    → sum ≡ length (head_bytes s) + length (rows_bytes s 0)
sum-none s head sum f e =
    let first : sum ≡ length (head_bytes s) = e ∙ rw f in
    rw (rows_none s) (omega arith)

module _ {s : State} {names entries met numbers : List ℕ} (shown : Shown s names entries met numbers) (sum n : ℕ)
    (h : sum ≡ length (head_bytes s) + length (rows_bytes s n)) where
  module _ (l : n < length met) (r : ℕ) (g : r ≡ length (row_bytes s n)) where
    -- an entry more
    pub sum_more : sum + r ≡ length (head_bytes s) + length (rows_bytes s (n + 1))
    sum_more = omega (arith, length-rows-more s n (within shown n l))

    -- which fits
    pub sum_fits : sum + r ≤ 100000
    sum_fits = omega (arith, sum_more, rows_short s (n + 1), report-few shown.tabled)

  -- all entries
  pub sum-all : n ≡ length met → sum ≡ length (report_bytes s)
  sum-all e =
      let all : n ≡ length (classes s) = e ∙ ap length shown.is-order in
      h ∙ rw (all, report-parts s, length-append)
