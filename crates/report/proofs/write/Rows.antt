-- The numbers of an entry, from its row: what is read, and what they are for a hole and for a common entry. Assumes nothing.
use Rattle.std.proofs.Common.{◌≡◌, sym, ap, subst, ◌∙◌, List, [], ◌∷◌, ◌++◌, map, append-nil, ℕ, suc, ◌+◌, ◌*◌, ◌≤◌, ◌<◌, add-one, arith, length, take, drop, take_at}
use Rattle.std.proofs.Math.ListN.{length-map}
use Rattle.model.specs.Limits.{max_symbol}
use Rattle.model.specs.Term.{Node, symbol, Book, Bindings}
use Rattle.model.specs.Table.{Kind, hole, common, Entry, Table, entry}
use Rattle.model.specs.Step.{State}
use Rattle.model.specs.Area.{entry_row_words}
use Rattle.model.specs.Report.{kind_arguments, kind_numbers, entry_numbers}
use Rattle.theory.proofs.Soundness.Facts.{KindRight}
use Rattle.theory.proofs.Area.Small.{root-symbol}
use Rattle.layout.specs.limits.Rows.{at, loaded_entry}
use Rattle.layout.specs.entry.Row.{row_of}
use Rattle.layout.specs.declared.entry.Entry.{Entry as Row}
use Rattle.layout.proofs.entry.Fields.{left-read, right-read, kind-read, symbol-read}
use Rattle.report.specs.numbering.Numbering.{new_number}
use Rattle.report.proofs.numbering.Rows.{row-hole, row_common, common-arguments, length-read, arguments_are}
use Rattle.report.specs.write.Shown.{classes, Tabled, row_numbers, Shown, EntryReadable}
use Rattle.report.proofs.write.Tables.{Marks, facts, entry_row, row_fits, class-present, arguments-marked, argument-numbers}

-- the symbol of a right common kind is small
kind-symbol : (b : Book) (β : Bindings) (es : Table) (s : ℕ) (args : List ℕ) (k : Kind) (l r : Node) → k ≡ common s args → KindRight b β es k l r
    → symbol l ≤ max_symbol → s ≤ max_symbol
kind-symbol b β es s args k l r e h p =
    let right = subst (λ (k : Kind). KindRight b β es k l r) e h in
    omega (arith, right.the_symbol)

-- a row that is no hole has its symbol and its arguments
row-symbol : (entries : List ℕ) (i : ℕ) → (at entries (entry_row_words * i + 2) ≡ 0 → ⊥)
    → (loaded_entry entries i).kind ≡ common (at entries (entry_row_words * i + 3)) (kind_arguments (loaded_entry entries i).kind)
row-symbol entries i h = row_common entries i h ∙ rw (common-arguments entries i h)

-- what is read of an entry: its sides are named, its symbol is small, and its arguments have marks
module _ {names entries numbers : List ℕ} {i : ℕ} (h : EntryReadable names entries numbers i) (e : Row)
    (read : row_of e ≡ take entry_row_words (drop (entry_row_words * i) entries)) where
  pub left-named : e.left < length names
  left-named = rw (left-read entries i h.fits.within e read) h.left-fits

  pub right-named : e.right < length names
  right-named = rw (right-read entries i h.fits.within e read) h.right-fits

  module _ (k : e.kind ≡ 0 → ⊥) where
    pub small-read : e.symbol ≤ max_symbol
    small-read =
        rw (symbol-read entries i h.fits.within e read) (h.small-symbol (λ z. k (kind-read entries i h.fits.within e read ∙ z)))

    pub marked-read : Marks entries numbers (take e.count e.arguments)
    marked-read = rw (arguments_are h.fits e read k) h.marked

-- four numbers, and the others behind them
filled : (a b c d : ℕ) (xs rest : List ℕ) (n : ℕ) → length xs ≡ n → take (4 + n) (a ∷ b ∷ c ∷ d ∷ (xs ++ rest)) ≡ a ∷ b ∷ c ∷ d ∷ xs
filled a b c d xs rest n f =
    let more : 4 + n ≡ suc (suc (suc (suc n))) = omega arith in
    rw (more, take_at xs rest n f)

module _ {s : State} {names entries met numbers : List ℕ} (shown : Shown s names entries met numbers) (n : ℕ) (l : n < length met) where
  t : Tabled s entries numbers
  t = shown.tabled

  -- the class with number n
  pub within : n < length (classes s)
  within = subst (λ (xs : List ℕ). n < length xs) shown.is-order l

  is-class : at met n ≡ at (classes s) n
  is-class = ap (λ (xs : List ℕ). at xs n) shown.is-order

  abbrev i : ℕ
  i = at (classes s) n

  present : i < length s.entries
  present = class-present t n within

  is_row : entry s.entries i ≡ loaded_entry entries i
  is_row = entry_row t.held i present

  left-term : (loaded_entry entries i).left < length s.book
  left-term = subst (λ (e : Entry). e.left < length s.book) is_row ((facts t.held).table.left-term i present)

  right-term : (loaded_entry entries i).right < length s.book
  right-term = subst (λ (e : Entry). e.right < length s.book) is_row ((facts t.held).table.right-term i present)

  symbol-small : (at entries (entry_row_words * i + 2) ≡ 0 → ⊥) → at entries (entry_row_words * i + 3) ≤ max_symbol
  symbol-small h =
      kind-symbol s.book s.bound s.entries _ _ (entry s.entries i).kind _ _
      (ap (λ (e : Entry). e.kind) is_row ∙ row-symbol entries i h) ((facts t.held).table.kind-right i present)
      (root-symbol t.held.limits s t.held.modest (facts t.held) (entry s.entries i).left ((facts t.held).table.left-term i present))

  -- its row can be read
  pub readable : EntryReadable names entries numbers (at met n)
  unfolding loaded_entry
  readable =
      subst (EntryReadable names entries numbers) (sym is-class)
      (record {
        fits = row_fits t.held i present;
        left-fits = omega (arith, left-term, shown.named.names_fit);
        right-fits = omega (arith, right-term, shown.named.names_fit);
        small-symbol = symbol-small;
        marked = arguments-marked t n within;
      })

  -- the numbers of its entry, by its kind
  by_kind : (k : Kind) → (loaded_entry entries i).kind ≡ k
      → row_numbers s n ≡ at names (at entries (entry_row_words * i)) ∷ at names (at entries (entry_row_words * i + 1)) ∷ kind_numbers s.entries (classes s) k
  unfolding row_numbers entry_numbers loaded_entry
  by_kind k e =
      rw (is_row, ← e, shown.named.is_name (loaded_entry entries i).left left-term, shown.named.is_name (loaded_entry entries i).right right-term)

  -- as they are read
  module _ (e : Row) (read : row_of e ≡ take entry_row_words (drop (entry_row_words * at met n) entries)) where
    is-left : e.left ≡ at entries (entry_row_words * i)
    is-left = rw is-class at (left-read entries (at met n) readable.fits.within e read)

    is_right : e.right ≡ at entries (entry_row_words * i + 1)
    is_right = rw is-class at (right-read entries (at met n) readable.fits.within e read)

    is-kind : e.kind ≡ at entries (entry_row_words * i + 2)
    is-kind = rw is-class at (kind-read entries (at met n) readable.fits.within e read)

    is-symbol : e.symbol ≡ at entries (entry_row_words * i + 3)
    is-symbol = rw is-class at (symbol-read entries (at met n) readable.fits.within e read)

    pub hole-numbers : e.kind ≡ 0 → at names e.left ∷ at names e.right ∷ 0 ∷ [] ≡ row_numbers s n
    unfolding kind_numbers
    hole-numbers h = rw (is-left, is_right) (sym (by_kind hole (row-hole entries i (sym is-kind ∙ h))))

    module _ (h : e.kind ≡ 0 → ⊥) where
      abbrev args : List ℕ
      args = take e.count e.arguments

      common-numbers : row_numbers s n ≡ at names e.left ∷ at names e.right ∷ (e.symbol + 1) ∷ e.count ∷ map (new_number entries numbers) args
      unfolding kind_numbers
      common-numbers =
          let same : args ≡ kind_arguments (loaded_entry entries i).kind = rw is-class at (arguments_are readable.fits e read h) in
          let count : length (kind_arguments (loaded_entry entries i).kind) ≡ e.count = rw same at (length-read readable.fits e read h) in
          by_kind _ (row-symbol entries i (λ z. h (is-kind ∙ z))) ∙
          rw (same, argument-numbers t n within, is-left, is_right, is-symbol, add-one (at entries (entry_row_words * i + 3)), count)

      -- behind the first four, the numbers of the arguments complete those of a common entry
      pub common_filled : (last rest : List ℕ) → last ≡ map (new_number entries numbers) args ++ rest
          → take (4 + e.count) (at names e.left ∷ at names e.right ∷ (e.symbol + 1) ∷ e.count ∷ (last ++ [])) ≡ row_numbers s n
      common_filled last rest f =
          rw (append-nil, f, filled (at names e.left) (at names e.right) (e.symbol + 1) e.count (map (new_number entries numbers) args) rest e.count (rw length-map (length-read readable.fits e read h)))
          (sym common-numbers)
