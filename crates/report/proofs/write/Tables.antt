-- What a sound state's table in rows gives: rows that can be read, and the new numbers of entries by the marks. Assumes
-- nothing.
use Rattle.std.proofs.Common.{◌≡◌, refl, sym, ap, ap₂, subst, ◌∙◌, List, [], ◌∷◌, map, ℕ, suc, ◌≤◌, ◌<◌, zero-le, suc-le-suc, arith, eq-eqb, length, get_or, take, eqb}
use Rattle.std.proofs.Math.ListN.{length-map}
use Rattle.model.specs.Limits.{max_arity}
use Rattle.model.specs.Lists.{first}
use Rattle.model.specs.Table.{Entry, Table, entry}
use Rattle.model.specs.Step.{State}
use Rattle.model.specs.Report.{kind_arguments, class, argument_classes, number}
use Rattle.theory.specs.Numbering.{NumberedBelow, Numbering}
use Rattle.theory.proofs.Lists.Laws.{true_T, first-least}
use Rattle.theory.proofs.Soundness.Facts.{SoundFacts}
use Rattle.theory.proofs.Soundness.Test.{sound_facts}
use Rattle.theory.proofs.Table.Search.{get_or-map-lt}
use Rattle.theory.proofs.Area.Layout.{entry_arity}
use Rattle.theory.proofs.Report.Meeting.{kind-arguments-below, class_has}
use Rattle.theory.proofs.Report.Numbering.{numbering}
use Rattle.layout.specs.limits.Rows.{at, loaded_entry, table_of}
use Rattle.layout.proofs.limits.Rows.{get_or-table_of}
use Rattle.report.specs.numbering.Numbering.{Entries, EntryFits, Closed, Marked, new_number, Numbered}
use Rattle.report.proofs.numbering.Marks.{mark_in}
use Rattle.report.specs.write.Shown.{classes, SoundTable, Tabled}

-- the classes of all entries of a list have marks
abbrev pub Marks : List ℕ → List ℕ → List ℕ → Type 0
Marks entries numbers xs = (j : ℕ) → j < length xs → Marked entries numbers (at xs j)

-- functions that agree on a list give the same
map-alike : (f g : ℕ → ℕ) (xs : List ℕ) → ((j : ℕ) → j < length xs → f (at xs j) ≡ g (at xs j)) → map f xs ≡ map g xs
map-alike f g [] h = refl
map-alike f g (x ∷ xs) h = ap₂ ◌∷◌ (h 0 (suc-le-suc zero-le)) (map-alike f g xs (λ j l. h (suc j) (suc-le-suc l)))

-- a class that is numbered is found
numbered_first : (met : List ℕ) (x : ℕ) → NumberedBelow met (length met) x → first (eqb x) met < length met
numbered_first met x h =
    let here = first-least (eqb x) met 0 h.number h.below (true_T (eqb x (get_or met h.number 0)) (eq-eqb x _ (sym h.is))) in
    omega (arith, h.below)

module _ {s : State} {entries : List ℕ} (t : SoundTable s entries) where
  pub facts : SoundFacts t.limits s
  facts = sound_facts t.limits s t.sound

  pub in_order : Numbering s.entries s.lines (classes s)
  in_order = numbering s.book s.bound s.entries facts.table s.lines facts.line-entries

  module _ (i : ℕ) (l : i < length s.entries) where
    -- entry i is in row i
    pub entry_row : entry s.entries i ≡ loaded_entry entries i
    entry_row = ap (λ (es : Table). entry es i) t.is-table ∙ get_or-table_of entries (length s.entries) i l

    class-row : class s.entries i ≡ (loaded_entry entries i).same_as
    unfolding class
    class-row = ap (λ (e : Entry). e.same_as) entry_row

    -- its class is an entry
    class-below : class s.entries i < length s.entries
    class-below = (class_has s.book s.bound s.entries facts.table i l).present

    -- its arguments are entries
    arguments-below : Entries (length s.entries) (kind_arguments (entry s.entries i).kind)
    arguments-below = kind-arguments-below s.book s.bound s.entries (entry s.entries i).kind _ _ (facts.table.kind-right i l)

    row-arguments : Entries (length s.entries) (kind_arguments (loaded_entry entries i).kind)
    row-arguments = subst (λ (e : Entry). Entries (length s.entries) (kind_arguments e.kind)) entry_row arguments-below

    -- row i can be read
    pub row_fits : EntryFits entries i
    row_fits =
        record {
          within = omega (arith, t.rows_fit);
          few = subst (λ (e : Entry). length (kind_arguments e.kind) ≤ max_arity) entry_row (entry_arity t.limits s facts i l);
        }

  -- so the classes can be numbered
  pub closed : Closed entries (length s.entries)
  closed =
      record {
        row = row_fits;
        arguments = subst (λ (es : Table). (i : ℕ) → i < length s.entries → Entries (length s.entries) (kind_arguments (entry es i).kind)) t.is-table arguments-below;
        classes = subst (λ (es : Table). (i : ℕ) → i < length s.entries → class es i < length s.entries) t.is-table class-below;
      }

  pub line-entries : Entries (length s.entries) s.lines
  line-entries = facts.line-entries

  -- and once they are, their marks stand
  pub numbered : (met numbers : List ℕ) (n : ℕ) → Numbered (table_of entries (length s.entries)) s.lines met numbers n
      → Tabled s entries numbers × (take n met ≡ classes s)
  numbered met numbers n h =
      let k : Numbered s.entries s.lines met numbers n = rw (← t.is-table) at h in
      (record { held = t; numbers_fit = k.counted.room.numbers_fit; is-mark = λ x l. k.counted.marks x l ∙ rw k.in_order }, k.in_order)

module _ {s : State} {entries numbers : List ℕ} (t : Tabled s entries numbers) where
  held : SoundTable s entries
  held = t.held

  module _ (i : ℕ) (l : i < length s.entries) (h : NumberedBelow (classes s) (length (classes s)) (class s.entries i)) where
    mark-is : at numbers (loaded_entry entries i).same_as ≡ suc (number s.entries (classes s) i)
    unfolding number
    mark-is =
        let x : ℕ = class s.entries i in
        rw (← class-row held i l)
        (t.is-mark x (class-below held i l) ∙ mark_in (classes s) x (numbered_first (classes s) x h))

    -- an entry whose class is numbered has a mark
    entry-marked : Marked entries numbers i
    entry-marked =
        record {
          within = (row_fits held i l).within;
          class-fits = rw (← class-row held i l) (omega (arith, t.numbers_fit, class-below held i l));
          marked = omega (arith, mark-is);
        }

    -- which gives its new number
    new-number : new_number entries numbers i ≡ number s.entries (classes s) i
    new-number = omega (arith, mark-is)

  -- so it is for a list of entries whose classes are numbered
  module _ (xs : List ℕ) (present : Entries (length s.entries) xs)
      (h : (j : ℕ) → j < length xs → NumberedBelow (classes s) (length (classes s)) (class s.entries (at xs j))) where
    all-marked : Marks entries numbers xs
    all-marked j l = entry-marked (at xs j) (present j l) (h j l)

    new-numbers : map (new_number entries numbers) xs ≡ map (number s.entries (classes s)) xs
    new-numbers = map-alike _ _ xs (λ j l. new-number (at xs j) (present j l) (h j l))

  -- for the lines
  pub lines-marked : Marks entries numbers s.lines
  lines-marked = all-marked s.lines (line-entries held) (in_order held).lines_numbered

  pub line-numbers : map (new_number entries numbers) s.lines ≡ map (number s.entries (classes s)) s.lines
  line-numbers = new-numbers s.lines (line-entries held) (in_order held).lines_numbered

  -- and for the arguments of the class with number n
  module _ (n : ℕ) (l : n < length (classes s)) where
    pub class-present : at (classes s) n < length s.entries
    class-present = ((in_order held).classes n l).0

    abbrev args : List ℕ
    args = kind_arguments (loaded_entry entries (at (classes s) n)).kind

    arguments-classes : argument_classes s.entries (at (classes s) n) ≡ map (class s.entries) args
    unfolding argument_classes
    arguments-classes = ap (λ (e : Entry). map (class s.entries) (kind_arguments e.kind)) (entry_row held (at (classes s) n) class-present)

    arguments_numbered : (j : ℕ) → j < length args → NumberedBelow (classes s) (length (classes s)) (class s.entries (at args j))
    arguments_numbered j k =
        rw (get_or-map-lt (class s.entries) args j 0 0 k) at
        (rw arguments-classes at ((in_order held).arguments_numbered n j l) (rw length-map k))

    pub arguments-marked : Marks entries numbers args
    arguments-marked = all-marked args (row-arguments held (at (classes s) n) class-present) arguments_numbered

    pub argument-numbers : map (new_number entries numbers) args ≡ map (number s.entries (classes s)) args
    argument-numbers = new-numbers args (row-arguments held (at (classes s) n) class-present) arguments_numbered
