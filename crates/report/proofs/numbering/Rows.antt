-- What a row of a table holds: its class and its arguments. Assumes nothing.
use Rattle.std.proofs.Common.{◌≡◌, sym, ap, ◌∙◌, List, [], map, ℕ, ◌+◌, ◌*◌, ◌≤◌, ◌<◌, arith, eq-eqb, ne_eqb, length, take, drop, length-take, length-drop, length-take-le, take-take}
use Rattle.model.specs.Limits.{max_arity}
use Rattle.model.specs.Table.{hole, common, Entry, entry}
use Rattle.model.specs.Area.{entry_row_words}
use Rattle.model.specs.Report.{kind_arguments, class, argument_classes}
use Rattle.layout.specs.limits.Rows.{at, kind_of, loaded_entry, table_of}
use Rattle.layout.specs.entry.Row.{row_of}
use Rattle.layout.specs.declared.entry.Entry.{Entry as Row}
use Rattle.layout.proofs.limits.Rows.{get_or-table_of}
use Rattle.layout.proofs.entry.Fields.{kind-read, count-read, arguments-long, arguments-read, same_as_read}
use Rattle.report.specs.numbering.Numbering.{Entries, EntryFits, Closed}

module _ (entries : List ℕ) (i : ℕ) where
  -- the kind in a row: a hole, or common, with as many arguments as its count says
  pub row-hole : at entries (entry_row_words * i + 2) ≡ 0 → (loaded_entry entries i).kind ≡ hole
  unfolding loaded_entry kind_of
  row-hole e = rw (eq-eqb (at entries (entry_row_words * i + 2)) 0 e)

  pub row_common : (at entries (entry_row_words * i + 2) ≡ 0 → ⊥)
      → (loaded_entry entries i).kind ≡ common (at entries (entry_row_words * i + 3))
      (take (at entries (entry_row_words * i + 4)) (drop (entry_row_words * i + 5) entries))
  unfolding loaded_entry kind_of
  row_common h =
      let row : ℕ = entry_row_words * i in
      let symbol : row + 2 + 1 ≡ row + 3 = omega arith in
      let count : row + 2 + 2 ≡ row + 4 = omega arith in
      let first : row + 2 + 3 ≡ row + 5 = omega arith in
      rw (ne_eqb (at entries (row + 2)) 0 h, symbol, count, first)

  -- so its arguments
  hole-arguments : at entries (entry_row_words * i + 2) ≡ 0 → kind_arguments (loaded_entry entries i).kind ≡ []
  unfolding kind_arguments
  hole-arguments e = ap kind_arguments (row-hole e)

  pub common-arguments : (at entries (entry_row_words * i + 2) ≡ 0 → ⊥)
      → kind_arguments (loaded_entry entries i).kind ≡ take (at entries (entry_row_words * i + 4)) (drop (entry_row_words * i + 5) entries)
  unfolding kind_arguments
  common-arguments h = ap kind_arguments (row_common h)

  -- which are at most maxArity
  few-arguments : EntryFits entries i → (at entries (entry_row_words * i + 2) ≡ 0 → ⊥) → at entries (entry_row_words * i + 4) ≤ max_arity
  few-arguments fits h =
      let n : ℕ = at entries (entry_row_words * i + 4) in
      let few = rw (common-arguments h, length-take n (drop (entry_row_words * i + 5) entries), length-drop) at fits.few in
      omega (arith, few, fits.within)

  -- the class of entry i of a table
  pub class-row : (m : ℕ) → i < m → class (table_of entries m) i ≡ (loaded_entry entries i).same_as
  unfolding class
  class-row m l = ap (λ (e : Entry). e.same_as) (get_or-table_of entries m i l)

-- the class of an entry that was read
pub class-read : (entries : List ℕ) (i : ℕ) → entry_row_words * i + entry_row_words ≤ length entries → (e : Row)
    → row_of e ≡ take entry_row_words (drop (entry_row_words * i) entries) → e.same_as ≡ (loaded_entry entries i).same_as
unfolding loaded_entry
class-read entries i within e read = same_as_read entries i within e read

-- its arguments: a hole has none, any other entry as many of the eight places as its count says
module _ {entries : List ℕ} {i : ℕ} (fits : EntryFits entries i) (e : Row) (read : row_of e ≡ take entry_row_words (drop (entry_row_words * i) entries)) where
  hole-read : e.kind ≡ 0 → kind_arguments (loaded_entry entries i).kind ≡ []
  hole-read h = hole-arguments entries i (sym (kind-read entries i fits.within e read) ∙ h)

  pub hole-classes : e.kind ≡ 0 → (m : ℕ) → i < m → argument_classes (table_of entries m) i ≡ []
  unfolding argument_classes
  hole-classes h m l = rw (get_or-table_of entries m i l, hole-read h)

  module _ (h : e.kind ≡ 0 → ⊥) where
    no_hole : at entries (entry_row_words * i + 2) ≡ 0 → ⊥
    no_hole z = h (kind-read entries i fits.within e read ∙ z)

    pub few-read : e.count ≤ max_arity
    few-read = rw (count-read entries i fits.within e read) (few-arguments entries i fits no_hole)

    pub places-read : e.count ≤ length e.arguments
    places-read = rw (arguments-long entries i fits.within e read) few-read

    pub length-read : length (take e.count e.arguments) ≡ e.count
    length-read = length-take-le e.count e.arguments places-read

    pub arguments_are : take e.count e.arguments ≡ kind_arguments (loaded_entry entries i).kind
    arguments_are =
        rw (arguments-read entries i fits.within e read, take-take e.count max_arity (drop (entry_row_words * i + 5) entries) few-read, common-arguments entries i no_hole, count-read entries i fits.within e read)

    -- those of entry i of a table
    module _ (m : ℕ) (l : i < m) where
      in_table : take e.count e.arguments ≡ kind_arguments (entry (table_of entries m) i).kind
      in_table = arguments_are ∙ sym (ap (λ (x : Entry). kind_arguments x.kind) (get_or-table_of entries m i l))

      pub entries-read : Closed entries m → Entries m (take e.count e.arguments)
      entries-read closed = rw in_table (closed.arguments i l)

      pub classes-read : map (class (table_of entries m)) (take e.count e.arguments) ≡ argument_classes (table_of entries m) i
      unfolding argument_classes
      classes-read = rw in_table
