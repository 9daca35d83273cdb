-- The report as numbers and as bytes (document 01, "Bytes"). Assumes nothing: these are definitions.
use Rattle.std.specs.Prelude.{List, [], ◌∷◌, ◌++◌, map, cond, ℕ, zero, suc, length, get_or, eqb, ltb}
use Rattle.leb128.specs.Number.{max_groups, write}
use Rattle.model.specs.Lists.{first, concat_map}
use Rattle.model.specs.Term.{Book, Bindings, name}
use Rattle.model.specs.Table.{Kind, hole, common, Table, entry}
use Rattle.model.specs.Step.{State}

-- The class x is met: it goes to the end unless it was met before.
unfoldable pub meet : List ℕ → ℕ → List ℕ
meet met x = cond (ltb (first (eqb x) met) (length met)) met (met ++ x ∷ [])

unfoldable pub meet_all : List ℕ → List ℕ → List ℕ
meet_all met [] = met
meet_all met (x ∷ xs) = meet_all (meet met x) xs

unfoldable pub kind_arguments : Kind → List ℕ
kind_arguments hole = []
kind_arguments (common s args) = args

module _ (es : Table) where
  -- Entries of one same-as class are one: the class's number stands for them.
  unfoldable pub class : ℕ → ℕ
  class i = (entry es i).same_as

  -- The classes of the arguments of class i, left to right.
  unfoldable pub argument_classes : ℕ → List ℕ
  argument_classes i = map class (kind_arguments (entry es i).kind)

  -- The arguments of what is numbered, in rising number from i on, over at most k of them.
  unfoldable pub meet_arguments : ℕ → ℕ → List ℕ → List ℕ
  meet_arguments zero i met = met
  meet_arguments (suc k) i met =
      let met' = meet_arguments k (suc i) (meet_all met (argument_classes (get_or met i 0))) in cond (ltb i (length met)) met' met

  -- The classes in the order in which they are first met, from the lines: the place of a class is its new number. No more
  -- are met than there are entries.
  unfoldable pub order : List ℕ → List ℕ
  order lines = meet_arguments (length es) 0 (meet_all [] (map class lines))

  -- The new number of an entry.
  unfoldable pub number : List ℕ → ℕ → ℕ
  number met i = first (eqb (class i)) met

  unfoldable pub kind_numbers : List ℕ → Kind → List ℕ
  kind_numbers met hole = 0 ∷ []
  kind_numbers met (common s args) = suc s ∷ length args ∷ map (number met) args

  -- An entry of the report: the names of its two values, then its kind.
  unfoldable pub entry_numbers : Book → Bindings → List ℕ → ℕ → List ℕ
  entry_numbers b β met i = name b β (entry es i).left ∷ name b β (entry es i).right ∷ kind_numbers met (entry es i).kind

-- The report's numbers: how many lines, each line's entry, how many entries, each entry.
unfoldable pub report : State → List ℕ
report s =
    let es = s.entries in
    let met = order es s.lines in
    length s.lines ∷ map (number es met) s.lines ++
    (length met ∷ concat_map (entry_numbers es s.book s.bound met) met)

-- Numbers as bytes, one after the other.
unfoldable pub number_bytes : List ℕ → List ℕ
number_bytes ns = concat_map (write max_groups) ns

unfoldable pub report_bytes : State → List ℕ
report_bytes s = number_bytes (report s)
