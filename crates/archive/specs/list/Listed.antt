-- Lists, part by part: the terms of one kind, a list that was read and not yet tested for a term named twice, and the inverse of a
-- list. Assumes nothing: these are definitions.
use Rattle.std.specs.Prelude.{◌≡◌, List, [], Bool, true, false, not, ℕ, ◌<◌, ltb}
use Rattle.model.specs.Lists.{all, keep, from, is_empty}
use Rattle.model.specs.Term.{Node}
use Rattle.model.specs.BookBytes.{Parsed, parsed, and_then, need}
use Rattle.model.specs.Archive.{is_variable, new_number, parse_numbers}
use Rattle.layout.specs.limits.Rows.{at, node_of}

-- Whether a node is a variable, or whether it is none.
unfoldable pub is_kind : Bool → Node → Bool
is_kind true x = is_variable x
is_kind false x = not (is_variable x)

-- The terms of one kind in the first n rows, in rising number.
unfoldable pub of_kind : List ℕ → Bool → ℕ → List ℕ
of_kind rows variables n = keep (λ t. is_kind variables (node_of rows t)) (from 0 n)

-- The list of n terms, up to the test for a term named twice (14): 1, 2, 3 and 8.
unfoldable pub parse_named : ℕ → List ℕ → Parsed (List ℕ)
parse_named n bytes = and_then (parse_numbers n bytes) (λ list rest. need (is_empty rest) 3 (need (all (λ t. ltb t n) list) 8 (parsed list [])))

-- The places are the new numbers of n terms.
abbrev pub Inverse : ℕ → List ℕ → List ℕ → Type 0
Inverse n list places = (t : ℕ) → t < n → at places t ≡ new_number list t
