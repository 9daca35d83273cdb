-- A state whose classes were just numbered: what is written of it. Assumes nothing.
use Rattle.std.proofs.Common.{◌≡◌, sym, ap, ◌∙◌, List, ◌++◌, ℕ, ◌+◌, ◌≤◌, arith, length, take, length-append, take_at, length-take-le}
use Rattle.std.proofs.Math.ListN.{length-map}
use Rattle.model.specs.Step.{State}
use Rattle.layout.specs.limits.Rows.{table_of}
use Rattle.report.specs.numbering.Numbering.{Entries, Closed, Numbered}
use Rattle.report.specs.write.Shown.{classes, Tabled, head_numbers, Told, Shown}
use Rattle.report.proofs.write.Tables.{closed, line-entries, numbered}

-- there are two numbers more than lines before the entries
head_length : (s : State) → length (head_numbers s) ≡ length s.lines + 2
unfolding head_numbers
head_length s = rw (length-append, length-map) (omega arith)

module _ {s : State} {names lines entries : List ℕ} {m : ℕ} (t : Told s names lines entries) (e : m ≡ length s.entries) where
  -- the classes can be numbered
  pub told_closed : Closed entries m × Entries m lines
  told_closed = rw (e, t.is-lines) (closed t.held, line-entries t.held)

  module _ {met numbers : List ℕ} {n : ℕ} (h : Numbered (table_of entries m) lines met numbers n) where
    -- then they are marked, in order
    marked : Tabled s entries numbers × (take n met ≡ classes s)
    marked = numbered t.held met numbers n (rw (e, t.is-lines) at h)

    pub told_tabled : Tabled s entries numbers
    told_tabled = marked.0

    pub told_fits : n ≤ length met
    told_fits = omega (arith, h.counted.few, h.counted.room.met_fit)

    pub told_count : n ≡ length (classes s)
    told_count = sym (length-take-le n met told_fits) ∙ ap length marked.1

    pub told_shown : Shown s names entries (take n met) numbers
    told_shown = record { tabled = marked.0; named = t.named; is-order = marked.1 }

  -- the numbers before the entries stand at the front
  pub told_head : (head rest : List ℕ) → head ≡ head_numbers s ++ rest → take (length lines + 2) head ≡ head_numbers s
  told_head head rest g = rw g (take_at (head_numbers s) rest (length lines + 2) (rw t.is-lines (head_length s)))
