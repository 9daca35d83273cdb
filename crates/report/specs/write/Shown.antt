-- A sound state whose report is written: what slices of words hold of it, and the parts of its report. Assumes nothing: these
-- are definitions.
use Rattle.std.specs.Prelude.{◌≡◌, List, [], ◌∷◌, ◌++◌, map, ℕ, ◌+◌, ◌*◌, ◌≤◌, ◌<◌, length, T}
use Rattle.model.specs.Limits.{Limits, max_symbol}
use Rattle.model.specs.Term.{name}
use Rattle.model.specs.Step.{State}
use Rattle.model.specs.Area.{entry_row_words, sound_state}
use Rattle.model.specs.Report.{kind_arguments, order, number, entry_numbers}
use Rattle.theory.specs.Modest.{Modest}
use Rattle.layout.specs.limits.Rows.{at, loaded_entry, table_of}
use Rattle.report.specs.numbering.Numbering.{EntryFits, Marked, mark}

-- The classes that a state's report numbers, in order.
abbrev pub classes : State → List ℕ
classes s = order s.entries s.lines

-- The table of a sound state, of limits up to the office's, in rows.
pub record SoundTable (s : State) (entries : List ℕ) : Type 0 where
  pub limits : Limits
  pub modest : Modest limits
  pub sound : T (sound_state limits s)
  pub rows_fit : entry_row_words * length s.entries ≤ length entries
  pub is-table : s.entries ≡ table_of entries (length s.entries)

-- Also the marks of its classes.
pub record Tabled (s : State) (entries numbers : List ℕ) : Type 0 where
  pub held : SoundTable s entries
  pub numbers_fit : length s.entries ≤ length numbers
  pub is-mark : (x : ℕ) → x < length s.entries → at numbers x ≡ mark (classes s) x

-- The report's numbers before the entries: how many lines, each line's entry, how many entries.
unfoldable pub head_numbers : State → List ℕ
head_numbers s = length s.lines ∷ map (number s.entries (classes s)) s.lines ++ length (classes s) ∷ []

-- The numbers of the entry with number n.
unfoldable pub row_numbers : State → ℕ → List ℕ
row_numbers s n = entry_numbers s.entries s.book s.bound (classes s) (at (classes s) n)

-- The names of its terms.
pub record StateNames (s : State) (names : List ℕ) : Type 0 where
  pub names_fit : length s.book ≤ length names
  pub is_name : (t : ℕ) → t < length s.book → at names t ≡ name s.book s.bound t

-- Its table, the lines and the names: all that a report is made from.
pub record Told (s : State) (names lines entries : List ℕ) : Type 0 where
  pub held : SoundTable s entries
  pub is-lines : lines ≡ s.lines
  pub named : StateNames s names

-- The table with the marks, the names, and the classes in order: all that the entries are written from.
pub record Shown (s : State) (names entries met numbers : List ℕ) : Type 0 where
  pub tabled : Tabled s entries numbers
  pub named : StateNames s names
  pub is-order : met ≡ classes s

-- What is read to give the numbers of entry i lies in the slices, and each argument's class has a mark.
pub record EntryReadable (names entries numbers : List ℕ) (i : ℕ) : Type 0 where
  pub fits : EntryFits entries i
  pub left-fits : at entries (entry_row_words * i) < length names
  pub right-fits : at entries (entry_row_words * i + 1) < length names
  pub small-symbol : (at entries (entry_row_words * i + 2) ≡ 0 → ⊥) → at entries (entry_row_words * i + 3) ≤ max_symbol
  pub marked : (j : ℕ) → j < length (kind_arguments (loaded_entry entries i).kind) → Marked entries numbers (at (kind_arguments (loaded_entry entries i).kind) j)

-- There is a state of which this holds.
pub record GivenState (P : State → Type 0) : Type 0 where
  pub state : State
  pub holds : P state
