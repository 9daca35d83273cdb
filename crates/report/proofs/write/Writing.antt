-- Writing the report: the numbers before the entries are laid at the front, then entry after entry behind them. Assumes
-- nothing.
use Rattle.std.proofs.Common.{◌≡◌, List, ◌++◌, ℕ, ◌+◌, ◌-◌, ◌≤◌, ◌<◌, length, take, drop, append-nil, append_assoc, length-append, arith}
use Rattle.model.specs.Step.{State}
use Rattle.model.specs.Report.{number_bytes, report_bytes}
use Rattle.runs.proofs.Over.{Laid, laid_more, laid_front, tail, tail_length, tail_laid}
use Rattle.report.specs.write.Shown.{classes, head_numbers}
use Rattle.report.proofs.write.Bytes.{head_bytes, row_bytes, rows_bytes, rows_none, rows_more, length-rows-more, report-parts, rows_short}

-- what is written before entry n
abbrev pub bytes_before : State → ℕ → List ℕ
bytes_before s n = head_bytes s ++ rows_bytes s n

-- at first, the numbers before the entries
pub head_laid : (s : State) (head out₀ out : List ℕ) (at : ℕ) → head ≡ head_numbers s → Laid out₀ 0 (number_bytes head) out at
    → Laid out₀ 0 (bytes_before s 0) out at
head_laid s head out₀ out at e laid = rw (rows_none s, append-nil, ← e) laid

module _ (s : State) (out₀ out : List ℕ) (at n : ℕ) (room : length (report_bytes s) ≤ length out₀) (laid : Laid out₀ 0 (bytes_before s n) out at) where
  -- it fits
  pub written_fits : at ≤ length out₀
  written_fits = omega (arith, rows_short s n, length-append (head_bytes s) (rows_bytes s n))

  module _ (same : length out ≡ length out₀) (l : n < length (classes s)) where
    -- there is room for entry n
    pub entry_room : length (row_bytes s n) ≤ length (tail out at)
    entry_room =
        rw (tail_length out at)
        (omega (arith, length-append (head_bytes s) (rows_bytes s n), rows_short s (n + 1), length-rows-more s n l))

    -- which is laid too
    pub entry_laid : (r : ℕ) (last : List ℕ) → (r ≡ length (row_bytes s n)) × (last ≡ row_bytes s n ++ drop r (tail out at))
        → Laid out₀ 0 (bytes_before s (n + 1)) (take at out ++ (last ++ drop (length out - at) (drop at out))) (at + r)
    entry_laid r last h =
        rw (rows_more s n l, ← append_assoc (head_bytes s) (rows_bytes s n) (row_bytes s n))
        (laid_more out₀ 0 (bytes_before s n) out at (omega (arith, written_fits)) laid (row_bytes s n) _ _ (tail_laid out at (row_bytes s n) last r h.0 h.1))

  -- all entries are the report
  pub report_laid : n ≡ length (classes s) → (at ≡ length (report_bytes s)) × (out ≡ report_bytes s ++ drop at out₀)
  report_laid e = laid_front out₀ (report_bytes s) out at (rw (report-parts s, ← e) laid)
