-- How far a book's bytes are read: up to the part that is refused, and to the end where none is (docs/SPEC.md, "Sessions", on standard
-- error). The parts are the number of terms, each term, and what is left behind the last one. Definitions, statements of what is proved
-- in proofs/unread/Unread.antt, and samples by computation.
use Rattle.std.specs.Prelude.{◌≡◌, refl, List, [], ◌∷◌, ◌++◌, map, ℕ, zero, suc, ◌-◌, ◌<◌, length, drop, leb}
use Rattle.model.specs.Limits.{Limits, office}
use Rattle.model.specs.Term.{Book}
use Rattle.model.specs.BookBytes.{Parsed, parsed, unparsed, and_then, need, parse_number, parse_node, parse_terms, parse_book}
use Rattle.model.specs.Computing.{computation}
use Rattle.model.specs.Samples.{bad_books, two_counts}

-- What follows a part that was read; where it is refused, the bytes from its first one on.
unfoldable pub or_left : {A : Type 0} → Parsed A → List ℕ → (A → List ℕ → List ℕ) → List ℕ
or_left (parsed a rest) bytes then = then a rest
or_left (unparsed n) bytes then = bytes

-- The bytes that are not read of k terms more, after those before them: from the first term that is refused on, or those behind the
-- last term.
unfoldable pub unread_terms : ℕ → Book → List ℕ → List ℕ
unread_terms zero before bytes = bytes
unread_terms (suc k) before bytes =
    or_left (and_then (parse_number bytes) (parse_node (length before))) bytes (λ n rest. unread_terms k (before ++ n ∷ []) rest)

-- The number of terms, at the front of a book: refusals 1, 2 and 4.
abbrev pub number_of_terms : Limits → List ℕ → Parsed ℕ
number_of_terms lim bytes = and_then (parse_number bytes) (λ n rest. need (leb n lim.max_terms) 4 (parsed n rest))

-- The bytes that are not read of a whole book: all where the number of terms is refused. (No bytes, which open without
-- such a number, have none unread.)
unfoldable pub unread_book : Limits → List ℕ → List ℕ
unread_book lim bytes = or_left (number_of_terms lim bytes) bytes (λ n rest. unread_terms n [] rest)

-- How far a book is read: the position of the part that is refused, and the end where none is.
unfoldable pub read_to : Limits → List ℕ → ℕ
read_to lim bytes = length bytes - length (unread_book lim bytes)

-- STATEMENTS. What is not read stands from that position on; and a book that is accepted is read to its end.
abbrev pub UnreadIsLeft : Type 0
UnreadIsLeft = (lim : Limits) (bytes : List ℕ) → unread_book lim bytes ≡ drop (read_to lim bytes) bytes

abbrev pub AcceptedIsRead : Type 0
AcceptedIsRead = (lim : Limits) (bytes : List ℕ) (b : Book) (rest : List ℕ) → parse_book lim bytes ≡ parsed b rest → read_to lim bytes ≡ length bytes

-- And the part at that position is the one that is refused, with k: the number of terms, at the front of some bytes; a term, behind those before it;
-- or what is left behind the last term.
pub data RefusedAt (lim : Limits) (bytes : List ℕ) (k : ℕ) : Type 0 where
  number-refused : 0 < length bytes → number_of_terms lim bytes ≡ unparsed k → read_to lim bytes ≡ 0 → RefusedAt lim bytes k
  term-refused : (n : ℕ) (rest : List ℕ) (before : Book) → number_of_terms lim bytes ≡ parsed n rest → length before < n
      → parse_terms (length before) [] rest ≡ parsed before (drop (read_to lim bytes) bytes)
      → and_then (parse_number (drop (read_to lim bytes) bytes)) (parse_node (length before)) ≡ unparsed k → RefusedAt lim bytes k
  bytes_left : (n : ℕ) (rest : List ℕ) (b : Book) → number_of_terms lim bytes ≡ parsed n rest
      → parse_terms n [] rest ≡ parsed b (drop (read_to lim bytes) bytes) → read_to lim bytes < length bytes → k ≡ 3 → RefusedAt lim bytes k

abbrev pub RefusedThere : Type 0
RefusedThere = (lim : Limits) (bytes : List ℕ) (k : ℕ) → parse_book lim bytes ≡ unparsed k → RefusedAt lim bytes k

-- SAMPLES. How far document 01's examples of refusals 1 to 5 are read; a book whose second term is refused, behind one of the same symbol and
-- another count; and three that are accepted: the book of two counts, that of one variable and that of no bytes.
pub read_to_samples :
    map (read_to office) (bad_books ++ (2 ∷ 1 ∷ 0 ∷ 1 ∷ 1 ∷ 1 ∷ []) ∷ two_counts ∷ (1 ∷ 0 ∷ []) ∷ [] ∷ []) ≡
    1 ∷ 0 ∷ 1 ∷ 0 ∷ 1 ∷ 3 ∷ 6 ∷ 2 ∷ 0 ∷ []
unfolding computation read_to unread_book unread_terms or_left
read_to_samples = refl
