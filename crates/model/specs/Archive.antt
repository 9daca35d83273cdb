-- Books with their variables first, for the archive (document 02, request 1): storing a book beside its list, and restoring it. No area
-- is used.
-- Assumes nothing: these are definitions.
use Rattle.std.specs.Prelude.{List, [], ◌∷◌, ◌++◌, map, Bool, true, false, cond, not, ◌&&◌, ℕ, zero, suc, length, get_or, replicate, eqb, ltb, leb}
use Rattle.model.specs.Limits.{Limits}
use Rattle.model.specs.Lists.{all, first, keep, from, is_empty}
use Rattle.model.specs.Term.{Node, var, app, arguments, Book}
use Rattle.model.specs.Report.{number_bytes}
use Rattle.model.specs.BookBytes.{Parsed, parsed, and_then, need, parse_number, parse_book, book_bytes}
use Rattle.model.specs.Call.{Outcome, over, copy_parsed}

-- Whether a node is a variable.
unfoldable pub is_variable : Node → Bool
is_variable var = true
is_variable (app s args) = false

-- A list has, for each new number, the old one. This is a stored book's: the variables, then the other terms, each in
-- rising number.
unfoldable pub variables_first : Book → List ℕ
variables_first b =
    keep (λ t. is_variable (get_or b t var)) (from 0 (length b)) ++ keep (λ t. not (is_variable (get_or b t var))) (from 0 (length b))

-- The old number of the new number i, and the new number of the old number t.
unfoldable pub old_number : List ℕ → ℕ → ℕ
old_number list i = get_or list i 0

unfoldable pub new_number : List ℕ → ℕ → ℕ
new_number list t = first (eqb t) list

-- A node with its arguments renumbered.
unfoldable pub renumbered : (ℕ → ℕ) → Node → Node
renumbered target var = var
renumbered target (app s args) = app s (map target args)

-- The book whose term i is the term `source i` of b, with `target a` for each argument a.
unfoldable pub moved : (ℕ → ℕ) → (ℕ → ℕ) → Book → Book
moved source target b = map (λ i. renumbered target (get_or b (source i) var)) (from 0 (length b))

-- The book as it is stored, and as a list restores it.
unfoldable pub stored_book : Book → Book
stored_book b = let list = variables_first b in moved (old_number list) (new_number list) b

unfoldable pub restored_book : List ℕ → Book → Book
restored_book list b = moved (new_number list) (old_number list) b

-- READING A LIST. k numbers, one after the other: refusals 1 and 2, in byte order.
unfoldable pub parse_numbers : ℕ → List ℕ → Parsed (List ℕ)
parse_numbers zero bytes = parsed [] bytes
parse_numbers (suc k) bytes =
    and_then (parse_number bytes) (λ x rest. and_then (parse_numbers k rest) (λ xs rest'. parsed (x ∷ xs) rest'))

-- No number stands twice.
unfoldable pub all_distinct : List ℕ → Bool
all_distinct [] = true
all_distinct (x ∷ xs) = all (λ y. not (eqb x y)) xs && all_distinct xs

-- The list of n terms: 1 and 2, then 3 for bytes left over, 8 for a number that names no term, 14 for a term named twice.
unfoldable pub parse_list : ℕ → List ℕ → Parsed (List ℕ)
parse_list n bytes =
    and_then (parse_numbers n bytes) (λ list rest.
    need (is_empty rest) 3
    (need (all (λ t. ltb t n) list) 8
    (need (all_distinct list) 14 (parsed list []))))

-- Rule 5: every argument is lower than its term.
unfoldable pub arguments_lower : Book → Bool
arguments_lower b = all (λ t. all (λ a. ltb a t) (arguments (get_or b t var))) (from 0 (length b))

-- The book that a list restores: the list's refusals, then 5.
unfoldable pub restore_by : List ℕ → Book → Parsed Book
restore_by bytes b =
    and_then (parse_list (length b) bytes) (λ list rest.
    need (arguments_lower (restored_book list b)) 5 (parsed (restored_book list b) []))

module _ (lim : Limits) where
  -- The book's refusals, then the list's, then 5.
  unfoldable pub parse_restored : List ℕ → List ℕ → Parsed Book
  parse_restored book list = and_then (parse_book lim book) (λ b rest. restore_by list b)

  -- Restoring: these, then 13. It answers the number of bytes written.
  unfoldable pub call_restore : List ℕ → List ℕ → List ℕ → Outcome
  call_restore book list out = copy_parsed out (parse_restored book list)

-- What storing leaves: 0 or the refusal, the two lengths written, the book's first, and the two outputs.
pub record Stored : Type 0 where
  pub refusal : ℕ
  pub numbers : List ℕ
  pub output : List ℕ
  pub list : List ℕ

unfoldable pub not_stored : ℕ → List ℕ → List ℕ → Stored
not_stored n out list = record { refusal = n; numbers = replicate 2 0; output = out; list = list }

-- Both outputs are written, or, where either is too short, neither.
unfoldable pub emit_both : List ℕ → List ℕ → List ℕ → List ℕ → Stored
emit_both stored listed out list =
    cond (leb (length stored) (length out) && leb (length listed) (length list))
    (record { refusal = 0; numbers = length stored ∷ length listed ∷ []; output = over stored out; list = over listed list })
    (not_stored 13 out list)

unfoldable pub store_parsed : List ℕ → List ℕ → Parsed Book → Stored
store_parsed out list (parsed b rest) = emit_both (book_bytes (stored_book b)) (number_bytes (variables_first b)) out list
store_parsed out list (Parsed.unparsed n) = not_stored n out list

-- Storing: the book's refusals, then 13 for either output.
unfoldable pub call_store : Limits → List ℕ → List ℕ → List ℕ → Stored
call_store lim book out list = store_parsed out list (parse_book lim book)
