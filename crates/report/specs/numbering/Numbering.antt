-- Classes that are numbered as they are met: what is asked of a table in rows, and what holds on the way and in the end.
-- Assumes nothing: these are definitions.
use Rattle.std.specs.Prelude.{◌≡◌, List, cond, ℕ, suc, ◌+◌, ◌*◌, ◌-◌, ◌≤◌, ◌<◌, length, take, eqb, ltb}
use Rattle.model.specs.Limits.{max_arity}
use Rattle.model.specs.Lists.{first}
use Rattle.model.specs.Table.{Table, entry}
use Rattle.model.specs.Area.{entry_row_words}
use Rattle.model.specs.Report.{kind_arguments, class, meet_all, order}
use Rattle.theory.specs.Numbering.{Met}
use Rattle.layout.specs.limits.Rows.{at, loaded_entry, table_of}

-- The numbers of a list are entries of a table of m.
abbrev pub Entries : ℕ → List ℕ → Type 0
Entries m xs = (j : ℕ) → j < length xs → at xs j < m

-- Row i lies in the rows, and has at most maxArity arguments.
pub record EntryFits (entries : List ℕ) (i : ℕ) : Type 0 where
  pub within : entry_row_words * i + entry_row_words ≤ length entries
  pub few : length (kind_arguments (loaded_entry entries i).kind) ≤ max_arity

-- m rows hold a table whose arguments and classes are entries of it.
pub record Closed (entries : List ℕ) (m : ℕ) : Type 0 where
  pub row : (i : ℕ) → i < m → EntryFits entries i
  pub arguments : (i : ℕ) → i < m → Entries m (kind_arguments (entry (table_of entries m) i).kind)
  pub classes : (i : ℕ) → i < m → class (table_of entries m) i < m

-- What a list keeps of class x: its new number plus 1, or 0 where it was not met.
unfoldable pub mark : List ℕ → ℕ → ℕ
mark met x = let n = first (eqb x) met in cond (ltb n (length met)) (suc n) 0

-- The new number of entry i, where `numbers` has the marks.
abbrev pub new_number : List ℕ → List ℕ → ℕ → ℕ
new_number entries numbers i = at numbers (loaded_entry entries i).same_as - 1

-- Row i lies in the rows, and its class has a mark.
pub record Marked (entries numbers : List ℕ) (i : ℕ) : Type 0 where
  pub within : entry_row_words * i + entry_row_words ≤ length entries
  pub class-fits : (loaded_entry entries i).same_as < length numbers
  pub marked : 1 ≤ at numbers (loaded_entry entries i).same_as

-- The slices have room for m classes, whose numbers are words.
pub record NumberRoom (m : ℕ) (met numbers : List ℕ) : Type 0 where
  pub met_fit : m ≤ length met
  pub numbers_fit : m ≤ length numbers
  pub words : m < 4294967296

-- The first n words of `met` are the classes that were met, each once, and `numbers` has the mark of each of the m classes.
pub record MetSoFar (m : ℕ) (met numbers : List ℕ) (n : ℕ) : Type 0 where
  pub room : NumberRoom m met numbers
  pub few : n ≤ m
  pub are_met : Met m (take n met)
  pub marks : (x : ℕ) → x < m → at numbers x ≡ mark (take n met) x

-- From n classes to n', by meeting the classes xs.
pub record MetAll (m : ℕ) (met : List ℕ) (n : ℕ) (xs met' numbers' : List ℕ) (n' : ℕ) : Type 0 where
  pub counted : MetSoFar m met' numbers' n'
  pub in_order : take n' met' ≡ meet_all (take n met) xs

-- All classes that the lines lead to are numbered.
pub record Numbered (es : Table) (lines met numbers : List ℕ) (n : ℕ) : Type 0 where
  pub counted : MetSoFar (length es) met numbers n
  pub in_order : take n met ≡ order es lines
