-- A book's bytes: decoding with its refusals, and encoding (document 01, "Bytes" and "Turned down"). Assumes nothing:
-- these are definitions.
use Rattle.std.specs.Prelude.{List, [], ◌∷◌, ◌++◌, Bool, true, false, ℕ, zero, suc, length, ltb, leb}
use Rattle.leb128.specs.Number.{max_groups, max_number, Read, number, cut, invalid, read}
use Rattle.model.specs.Limits.{Limits, max_arity, max_symbol}
use Rattle.model.specs.Lists.{concat_map, is_empty}
use Rattle.model.specs.Term.{Node, var, app, Book}
use Rattle.model.specs.Report.{number_bytes}

-- What was decoded and the bytes after it, or a refusal.
pub data Parsed (A : Type 0) : Type 0 where
  parsed : A → List ℕ → Parsed A
  unparsed : ℕ → Parsed A

unfoldable pub and_then : {A B : Type 0} → Parsed A → (A → List ℕ → Parsed B) → Parsed B
and_then (parsed a rest) f = f a rest
and_then (unparsed n) f = unparsed n

-- What follows where the test holds, else refusal n.
unfoldable pub need : {A : Type 0} → Bool → ℕ → Parsed A → Parsed A
need true n p = p
need false n p = unparsed n

unfoldable pub from_read : Read → Parsed ℕ
from_read (number n rest) = parsed n rest
from_read cut = unparsed 1
from_read invalid = unparsed 2

-- One number: refusals 1 and 2.
unfoldable pub parse_number : List ℕ → Parsed ℕ
parse_number bytes = from_read (read max_groups max_number bytes)

-- c arguments of term t: each is lower than t, else 5.
unfoldable pub parse_arguments : ℕ → ℕ → List ℕ → Parsed (List ℕ)
parse_arguments t zero bytes = parsed [] bytes
parse_arguments t (suc c) bytes =
    and_then (parse_number bytes) (λ a rest.
    need (ltb a t) 5
    (and_then (parse_arguments t c rest) (λ args rest'. parsed (a ∷ args) rest')))

-- Term t of symbol s: symbol (4), count (4), arguments (5). Document 01's rule 6, between the last two, is lifted (document 02, request 3).
unfoldable pub parse_app : ℕ → ℕ → List ℕ → Parsed Node
parse_app t s bytes =
    need (leb s max_symbol) 4
    (and_then (parse_number bytes) (λ c rest.
    need (leb c max_arity) 4
    (and_then (parse_arguments t c rest) (λ args rest'. parsed (app s args) rest'))))

-- A term's first number is 0 for a variable, else its symbol plus 1.
unfoldable pub parse_node : ℕ → ℕ → List ℕ → Parsed Node
parse_node t zero bytes = parsed var bytes
parse_node t (suc s) bytes = parse_app t s bytes

-- k terms more, after those before them.
unfoldable pub parse_terms : ℕ → Book → List ℕ → Parsed Book
parse_terms zero before bytes = parsed before bytes
parse_terms (suc k) before bytes =
    and_then (parse_number bytes) (λ tag rest.
    and_then (parse_node (length before) tag rest) (λ n rest'.
    parse_terms k (before ++ n ∷ []) rest'))

-- A book as it is written: the number of terms (4), the terms, and nothing after them (3).
unfoldable pub parse_written : Limits → List ℕ → Parsed Book
parse_written lim bytes =
    and_then (parse_number bytes) (λ n rest.
    need (leb n lim.max_terms) 4
    (and_then (parse_terms n [] rest) (λ b rest'.
    need (is_empty rest') 3 (parsed b []))))

-- A book: no bytes are the book without terms (document 02, request 2).
unfoldable pub parse_book : Limits → List ℕ → Parsed Book
parse_book lim [] = parsed [] []
parse_book lim (x ∷ xs) = parse_written lim (x ∷ xs)

-- What is written for the book of these bytes, where they open: these bytes, and 00 where there are none.
unfoldable pub as_written : List ℕ → List ℕ
as_written [] = 0 ∷ []
as_written (x ∷ xs) = x ∷ xs

unfoldable pub node_numbers : Node → List ℕ
node_numbers var = 0 ∷ []
node_numbers (app s args) = suc s ∷ length args ∷ args

-- The book's bytes. Bindings are not written.
unfoldable pub book_bytes : Book → List ℕ
book_bytes b = number_bytes (length b ∷ concat_map node_numbers b)
