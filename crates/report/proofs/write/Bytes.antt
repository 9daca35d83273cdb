-- The report's bytes: those before the entries, then entry after entry; each number is small, and there are few. Assumes
-- nothing.
use Rattle.std.proofs.Common.{◌≡◌, refl, sym, ap, ◌∙◌, List, [], ◌++◌, append_assoc, append-nil, ℕ, suc, ◌+◌, ◌≤◌, ◌<◌, add-one, arith, length, get_or, take, drop, length-append, take-append-drop, take-suc, leb, le→leb}
use Rattle.std.proofs.Math.Seq.{take-length}
use Rattle.leb128.specs.Number.{max_number}
use Rattle.model.specs.Lists.{concat_map}
use Rattle.model.specs.Step.{State}
use Rattle.model.specs.Report.{entry_numbers, report, number_bytes, report_bytes}
use Rattle.theory.proofs.Lists.Laws.{concat_map-append, all_intro}
use Rattle.theory.proofs.Lists.Rows.{Below, below-nil, below-cons, below-append}
use Rattle.theory.proofs.Report.Numbering.{order_short}
use Rattle.theory.proofs.Report.Small.{small-numbers, small_row, report_short, report_bytes_short}
use Rattle.runs.specs.Runs.{small_words}
use Rattle.runs.proofs.Numbers.{numbers-append}
use Rattle.runs.proofs.Over.{Laid, laid_front}
use Rattle.report.specs.write.Shown.{classes, Tabled, head_numbers, row_numbers}
use Rattle.report.proofs.write.Tables.{facts}
use Rattle.report.proofs.write.Heads.{few-lines, few-classes}

-- some words, laid at the front of a slice
pub run-laid : (words xs : List ℕ) → words ≡ xs → (out end : List ℕ) (r : ℕ) → Laid out 0 (number_bytes words) end r
    → (r ≡ length (number_bytes xs)) × (end ≡ number_bytes xs ++ drop r out)
run-laid words xs e out end r laid = laid_front out (number_bytes xs) end r (rw e at laid)

-- the numbers of the first n entries
unfoldable pub rows_numbers : State → ℕ → List ℕ
rows_numbers s n = concat_map (entry_numbers s.entries s.book s.bound (classes s)) (take n (classes s))

-- the bytes before the entries, of an entry, and of the first n entries
abbrev pub head_bytes : State → List ℕ
head_bytes s = number_bytes (head_numbers s)

abbrev pub row_bytes : State → ℕ → List ℕ
row_bytes s n = number_bytes (row_numbers s n)

abbrev pub rows_bytes : State → ℕ → List ℕ
rows_bytes s n = number_bytes (rows_numbers s n)

module _ (s : State) where
  pub rows_none : rows_bytes s 0 ≡ []
  unfolding rows_numbers concat_map number_bytes
  rows_none = refl

  -- one entry more
  pub rows_more : (n : ℕ) → n < length (classes s) → rows_bytes s (n + 1) ≡ rows_bytes s n ++ row_bytes s n
  unfolding rows_numbers row_numbers concat_map
  rows_more n l = rw (add-one, take-suc (classes s) n 0 l, concat_map-append, append-nil, numbers-append)

  pub length-rows-more : (n : ℕ) → n < length (classes s) → length (rows_bytes s (n + 1)) ≡ length (rows_bytes s n) + length (row_bytes s n)
  length-rows-more n l = rw (rows_more n l, length-append)

  -- the report is the numbers before the entries and all entries
  pub report-parts : report_bytes s ≡ head_bytes s ++ rows_bytes s (length (classes s))
  unfolding report_bytes report head_numbers rows_numbers
  report-parts = rw (← numbers-append, append_assoc, take-length)

  -- the first n entries, and the others
  rows_split : (n : ℕ)
      → rows_bytes s (length (classes s)) ≡ rows_bytes s n ++ number_bytes (concat_map (entry_numbers s.entries s.book s.bound (classes s)) (drop n (classes s)))
  unfolding rows_numbers
  rows_split n =
      let numbers = entry_numbers s.entries s.book s.bound (classes s) in
      ap (λ (xs : List ℕ). number_bytes (concat_map numbers xs)) (take-length (classes s) ∙ sym (take-append-drop n (classes s))) ∙
      rw (concat_map-append, numbers-append)

  -- fewer entries take no more bytes
  pub rows_short : (n : ℕ) → length (head_bytes s) + length (rows_bytes s n) ≤ length (report_bytes s)
  rows_short n = rw (report-parts, length-append, rows_split n, length-append) (omega arith)

-- small numbers are small words
small-words : (xs : List ℕ) → Below (suc max_number) xs → small_words xs
unfolding small_words
small-words xs h = all_intro (λ w. leb w max_number) xs 0 (λ i l. le→leb (get_or xs i 0) max_number (omega (arith, h.at i)))

module _ {s : State} {entries numbers : List ℕ} (t : Tabled s entries numbers) where
  pub head_small : small_words (head_numbers s)
  unfolding head_numbers
  head_small =
      small-words _
      (below-cons (omega (arith, few-lines t))
      (below-append _ (small-numbers s.entries (classes s) (few-classes t) s.lines) (below-cons (omega (arith, few-classes t)) (below-nil (omega arith)))))

  pub row_small : (n : ℕ) → n < length (classes s) → small_words (row_numbers s n)
  unfolding row_numbers
  row_small n l = small-words _ (small_row t.held.limits s t.held.modest (facts t.held) n l).0

  -- there are few bytes
  pub report-few : length (report_bytes s) ≤ 100000
  report-few =
      omega (
        arith,
        report_bytes_short s,
        report_short t.held.limits s t.held.modest (facts t.held),
        few-lines t,
        (facts t.held).few-lines,
        (facts t.held).few-entries,
        (facts t.held).capacity-fits,
        t.held.modest.lines,
        t.held.modest.capacity,
        order_short s.book s.bound s.entries (facts t.held).table s.lines (facts t.held).line-entries,
      )
