-- Every number of the report of a sound state is one that the bytes can hold, and the report is short. Assumes nothing.
use mathlib.Core.Path.{◌≡◌}
use mathlib.Core.List.{List, map}
use Prim.Native.Nat.{ℕ, suc, ◌+◌, ◌*◌, ◌≤◌, ◌<◌}
use native.Mathlib.Omega.{arith}
use lib.ListN.{length, get_or, length-append, length-map}
use lib.Dec.{eqb}
use Rattle.leb128.specs.Number.{max_groups, max_number, write}
use Rattle.leb128.proofs.Laws.{writes_bytes}
use Rattle.model.specs.Limits.{Limits, max_arity, max_symbol}
use Rattle.model.specs.Term.{Node, symbol, arguments, Book, Bindings}
use Rattle.model.specs.Table.{Kind, hole, common, Entry, Table, entry}
use Rattle.model.specs.Step.{State}
use Rattle.model.specs.Report.{class, order, number, kind_numbers, entry_numbers, report, number_bytes, report_bytes}
use Rattle.theory.specs.Modest.{Modest}
use Rattle.theory.proofs.Soundness.Facts.{SoundFacts, KindRight}
use Rattle.theory.proofs.Lists.Laws.{first-le}
use Rattle.theory.proofs.Lists.Rows.{Below, below-nil, below-cons, below-append, below_rows, below_all, rows_short}
use Rattle.theory.proofs.Values.Equations.{name-lt}
use Rattle.theory.proofs.Table.Search.{get_or-map-lt}
use Rattle.theory.proofs.Area.Layout.{root_arity}
use Rattle.theory.proofs.Area.Small.{root-symbol}
use Rattle.theory.proofs.Report.Numbering.{numbering, order_short}

-- a list whose numbers are at most maxNumber
abbrev pub Small : List ℕ → Type 0
Small = Below (suc max_number)

-- such a list of at most w numbers
abbrev pub SmallRow : ℕ → List ℕ → Type 0
SmallRow w ns = Small ns × (length ns ≤ w)

-- the new numbers of entries are below any number above that of those numbered
pub numbers-below : (es : Table) (met : List ℕ) (w : ℕ) → length met < w → (is : List ℕ) → Below w (map (number es met) is)
unfolding number
numbers-below es met w few is =
    below_all (map (number es met) is) (omega arith)
    (λ j l.
    let here : j < length is = omega (arith, length-map is (number es met)) in
    rw (get_or-map-lt (number es met) is j 0 0 here) (omega (arith, first-le (eqb (class es (get_or is j 0))) met)))

module _ (es : Table) (met : List ℕ) (few : length met ≤ max_number) where
  -- so they are small
  pub small-numbers : (is : List ℕ) → Small (map (number es met) is)
  small-numbers = numbers-below es met (suc max_number) (omega arith)

  -- a kind that is right
  small-kind : (b : Book) (β : Bindings) (k : Kind) (l r : Node) → KindRight b β es k l r → symbol l ≤ max_symbol
      → length (arguments l) ≤ max_arity → SmallRow (2 + max_arity) (kind_numbers es met k)
  unfolding kind_numbers
  small-kind b β hole l r h p q = (below-cons (omega arith) (below-nil (omega arith)), omega arith)
  small-kind b β (common s args) l r h p q =
      let e : s ≡ symbol l = h.the_symbol in
      let c : length args ≡ length (arguments l) = h.count_left in
      (below-cons (omega arith) (below-cons (omega arith) (small-numbers args)), omega (arith, length-map args (number es met)))

-- the classes that the report of a state numbers
abbrev pub numbered : State → List ℕ
numbered s = order s.entries s.lines

module _ (lim : Limits) (s : State) (m : Modest lim) (f : SoundFacts lim s) where
  -- few enough for their numbers to be small
  pub few_numbered : length (numbered s) ≤ max_number
  few_numbered = omega (arith, order_short s.book s.bound s.entries f.table s.lines f.line-entries)

  -- an entry
  small-entry : (i : ℕ) → i < length s.entries → SmallRow (4 + max_arity) (entry_numbers s.entries s.book s.bound (numbered s) i)
  unfolding entry_numbers
  small-entry i l =
      let e : Entry = entry s.entries i in
      let p : e.left < length s.book = f.table.left-term i l in
      let q : e.right < length s.book = f.table.right-term i l in
      let k = small-kind s.entries (numbered s) few_numbered s.book s.bound e.kind _ _ (f.table.kind-right i l)
      (root-symbol lim s m f e.left p) (root_arity lim s f e.left p) in (
        below-cons (omega (arith, name-lt s.book s.bound e.left p))
            (below-cons (omega (arith, name-lt s.book s.bound e.right q)) k.0),
        omega (arith, k.1),
      )

  -- the entry of the class with number n
  pub small_row : (n : ℕ) → n < length (numbered s)
      → SmallRow (4 + max_arity) (entry_numbers s.entries s.book s.bound (numbered s) (get_or (numbered s) n 0))
  small_row n l =
      small-entry (get_or (numbered s) n 0)
      ((numbering s.book s.bound s.entries f.table s.lines f.line-entries).classes n l).0

  -- the report
  small-report : Small (report s)
  unfolding report
  small-report =
      below-cons (omega arith)
      (below-append _ (small-numbers s.entries (numbered s) few_numbered s.lines)
      (below-cons (omega (arith, few_numbered)) (below_rows _ 0 (numbered s) (omega arith) (λ n l. (small_row n l).0))))

  -- its numbers are at most maxNumber
  pub report-small : (i : ℕ) → i < length (report s) → get_or (report s) i 0 ≤ max_number
  report-small i l = omega (arith, small-report.at i)

  -- how many numbers there are
  pub report_short : length (report s) ≤ 2 + length s.lines + (4 + max_arity) * length (order s.entries s.lines)
  unfolding report
  report_short =
      let rows = entry_numbers s.entries s.book s.bound (numbered s) in
      rw (length-append, length-map) (omega (arith, rows_short rows (4 + max_arity) 0 (numbered s) (λ n l. (small_row n l).1)))

-- how many bytes there are
pub report_bytes_short : (s : State) → length (report_bytes s) ≤ max_groups * length (report s)
unfolding report_bytes number_bytes
report_bytes_short s = rows_short (write max_groups) max_groups 0 (report s) (λ i l. (writes_bytes max_groups (get_or (report s) i 0)).1)
