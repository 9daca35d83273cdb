-- What the rows of entries and of terms hold, where their names and roots are known. Assumes nothing.
use Rattle.std.proofs.Common.{◌≡◌, ap, ◌∙◌, List, false, ◌&&◌, ℕ, ◌+◌, ◌*◌, ◌-◌, ◌≤◌, ◌<◌, arith, lt-ltb, le-ltb, length, get_or, take, drop, take-take, eqb, ltb→lt}
use Rattle.model.specs.Limits.{max_arity}
use Rattle.model.specs.Lists.{all, from}
use Rattle.model.specs.Term.{var, arguments, Book, Bindings, root}
use Rattle.model.specs.Table.{Entry, entry}
use Rattle.model.specs.Area.{term_words, entry_row_words, kind_ok}
use Rattle.theory.proofs.Lists.Laws.{and_left}
use Rattle.theory.proofs.Soundness.Facts.{Formed, Acyclic}
use Rattle.theory.proofs.Soundness.Proper.{proper_facts}
use Rattle.theory.proofs.Soundness.Terms.{all-below}
use Rattle.theory.proofs.Values.Ends.{argument-lt}
use Rattle.theory.proofs.Values.Equations.{deref-lt}
use Rattle.layout.specs.limits.Rows.{at, node_of, kind_of, loaded_entry, table_of}
use Rattle.layout.specs.entry.Row.{row_of}
use Rattle.layout.specs.declared.entry.Entry.{Entry as Row}
use Rattle.layout.proofs.entry.Fields.{left-read, right-read, kind-read, symbol-read, count-read, arguments-read}
use Rattle.layout.proofs.limits.Rows.{length-table_of, get_or-book_of, get_or-table_of, node-app}
use Rattle.soundness.specs.rows.RowTests.{zero_from, entry_row_ok, entry_rows_ok}
use Rattle.soundness.proofs.sound.Facts.{EntryRow}
use Rattle.soundness.proofs.sound.Tests.{entry_row}
use Rattle.soundness.specs.kinds.Known.{Named, RowsKnown, Known, Terms}
use Rattle.soundness.specs.kinds.KindTests.{argument_right, kind_right}
use Rattle.soundness.proofs.kinds.Names.{holds-names}

-- the parts of entry i are words of its row
module _ (entries : List ℕ) (m i : ℕ) (l : i < m) where
  pub entry-loaded : entry (table_of entries m) i ≡ loaded_entry entries i
  entry-loaded = get_or-table_of entries m i l

  pub entry-left : (entry (table_of entries m) i).left ≡ at entries (entry_row_words * i)
  unfolding loaded_entry
  entry-left = ap (λ (e : Entry). e.left) entry-loaded

  pub entry-right : (entry (table_of entries m) i).right ≡ at entries (entry_row_words * i + 1)
  unfolding loaded_entry
  entry-right = ap (λ (e : Entry). e.right) entry-loaded

  pub entry-kind : (entry (table_of entries m) i).kind ≡ kind_of entries (entry_row_words * i + 2)
  unfolding loaded_entry
  entry-kind = ap (λ (e : Entry). e.kind) entry-loaded

  pub entry-same_as : (entry (table_of entries m) i).same_as ≡ at entries (entry_row_words * i + entry_row_words - 1)
  unfolding loaded_entry
  entry-same_as = ap (λ (e : Entry). e.same_as) entry-loaded

module _ {b : Book} {β : Bindings} {names entries : List ℕ} {m : ℕ} (k : Named b β names entries m) {i : ℕ} (l : i < m) where
  row : EntryRow entries (length b) i
  unfolding entry_rows_ok
  row =
      (entry_row entries (length b) i).0
      (all-below (entry_row_ok entries (length b)) m
      (and_left (all (entry_row_ok entries (length b)) (from 0 m)) (zero_from entries (entry_row_words * m)) k.entry-rows) i l)

  -- the sides are terms
  pub left_lt : at entries (entry_row_words * i) < length b
  left_lt = ltb→lt _ _ row.left

  pub right_lt : at entries (entry_row_words * i + 1) < length b
  right_lt = ltb→lt _ _ row.right

  pub left-term : (entry (table_of entries m) i).left < length b
  left-term = rw (entry-left entries m i l) left_lt

  pub right-term : (entry (table_of entries m) i).right < length b
  right-term = rw (entry-right entries m i l) right_lt

  pub row_within : entry_row_words * i + entry_row_words ≤ length entries
  row_within = omega (arith, k.entries_fit)

  -- the fields of the entry, where it is read
  module _ (e : Row) (read : row_of e ≡ take entry_row_words (drop (entry_row_words * i) entries)) where
    pub is-left : e.left ≡ at entries (entry_row_words * i)
    is-left = left-read entries i row_within e read

    pub is_right : e.right ≡ at entries (entry_row_words * i + 1)
    is_right = right-read entries i row_within e read

    pub left_side : e.left < length b
    left_side = rw is-left left_lt

    pub right_side : e.right < length b
    right_side = rw is_right right_lt

    pub is-kind : e.kind ≡ at entries (entry_row_words * i + 2)
    is-kind = kind-read entries i row_within e read

    pub is-symbol : e.symbol ≡ at entries (entry_row_words * i + 2 + 1)
    is-symbol = let there : entry_row_words * i + 2 + 1 ≡ entry_row_words * i + 3 = omega arith in rw there (symbol-read entries i row_within e read)

    pub few : e.count ≤ max_arity
    few = rw (count-read entries i row_within e read) row.count

    pub are_arguments : take e.count e.arguments ≡ take (at entries (entry_row_words * i + 2 + 2)) (drop (entry_row_words * i + 2 + 3) entries)
    are_arguments =
        let there : entry_row_words * i + 2 + 2 ≡ entry_row_words * i + 4 = omega arith in
        let first : entry_row_words * i + 2 + 3 ≡ entry_row_words * i + 5 = omega arith in
        rw (there, first, arguments-read entries i row_within e read, take-take e.count max_arity (drop (entry_row_words * i + 5) entries) few, count-read entries i row_within e read)

  -- entry i has the values of two terms where the names of its sides are theirs
  pub argument-names : (t u : ℕ) → t < length b → u < length b → argument_right b β (table_of entries m) i t u
      ≡ eqb (at names (at entries (entry_row_words * i))) (at names t) && eqb (at names (at entries (entry_row_words * i + 1))) (at names u)
  unfolding argument_right
  argument-names t u p q =
      rw (
        length-table_of entries m,
        lt-ltb i m l,
        holds-names b β t u (entry (table_of entries m) i) p q left-term right-term,
        entry-left entries m i l,
        entry-right entries m i l,
        k.is_name t p,
        k.is_name u q,
        k.is_name _ left_lt,
        k.is_name _ right_lt,
      )

-- there is no entry i
pub argument-none : (b : Book) (β : Bindings) (entries : List ℕ) (m i t u : ℕ) → m ≤ i → argument_right b β (table_of entries m) i t u ≡ false
unfolding argument_right
argument-none b β entries m i t u h = rw (length-table_of entries m, le-ltb i m h)

module _ {b : Book} {β : Bindings} {rows names entries : List ℕ} {m : ℕ} (k : RowsKnown b β rows names entries m) where
  pub formed : Formed b β
  formed = (proper_facts b β k.is-proper).0

  acyclic : Acyclic b β
  acyclic = (proper_facts b β k.is-proper).1

  -- term t is the node in row t
  pub term-row : (t : ℕ) → t < length b → get_or b t var ≡ node_of rows t
  term-row t l = ap (λ (c : Book). get_or c t var) k.is-book ∙ get_or-book_of rows (length b) t l

  -- the arguments lie in the rows, and those of an application are terms
  pub row-end : (t : ℕ) → t < length b → term_words * t + 2 + at rows (term_words * t + 1) ≤ length rows
  row-end t l = omega (arith, k.few-arguments t l, k.rows_fit)

  pub argument-terms : (t : ℕ) → t < length b → (at rows (term_words * t) ≡ 0 → ⊥)
      → Terms b (take (at rows (term_words * t + 1)) (drop (term_words * t + 2) rows))
  unfolding arguments
  argument-terms t l d = rw (term-row t l, node-app rows t d) at (argument-lt b β formed t l)

-- what a term stands for is a term, in its row
module _ {b : Book} {β : Bindings} {rows roots names entries : List ℕ} {m : ℕ} (k : Known b β rows roots names entries m) {t : ℕ} (l : t < length b) where
  pub root-lt : at roots t < length b
  root-lt = rw (k.is-root t l) (deref-lt b β (formed k.held) (acyclic k.held) t l)

  pub root-row : root b β t ≡ node_of rows (at roots t)
  unfolding root
  root-row = rw (← k.is-root t l) (term-row k.held (at roots t) root-lt)

-- the kind of entry i is tested on the rows of what its sides stand for
pub kind-roots : {b : Book} {β : Bindings} {rows roots names entries : List ℕ} {m : ℕ} → Known b β rows roots names entries m → {i : ℕ} → i < m →
    let es = table_of entries m in
    kind_right b β es (entry es i)
    ≡ kind_ok b β es (entry es i).kind (node_of rows (at roots (at entries (entry_row_words * i)))) (node_of rows (at roots (at entries (entry_row_words * i + 1))))
unfolding kind_right
kind-roots {entries = entries} {m = m} k {i} l =
    rw (entry-left entries m i l, entry-right entries m i l, root-row k (left_lt k.held.named l), root-row k (right_lt k.held.named l))
