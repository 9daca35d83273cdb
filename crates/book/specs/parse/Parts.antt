-- The parts of decoding a book, by position, and what each part answers. Assumes nothing: these are definitions.
use Rattle.std.specs.Prelude.{◌≡◌, List, [], ◌∷◌, ℕ, zero, suc, ◌+◌, ◌*◌, ◌≤◌, length, drop, Result, Ok, Err}
use Rattle.std.proofs.lemmas.List.Edits.{sets}
use Rattle.refusal.specs.declared.Refusal.{Refusal}
use Rattle.refusal.specs.Numbers.{number_of}
use Rattle.model.specs.Limits.{max_arity, max_symbol}
use Rattle.model.specs.Term.{Node, var, app, Book}
use Rattle.model.specs.BookBytes.{Parsed, parsed, unparsed, and_then, parse_arguments}
use Rattle.model.specs.Area.{term_words}
use Rattle.book.specs.parse.Below.{parse_below}
use Rattle.book.specs.decode.Rows.{book_rows}
use Rattle.book.specs.declared.parse.Position.{Position}

-- ---- a position in a term

-- At the term's start.
abbrev pub start_at : ℕ → Position
start_at next = record { next = next; first = 0; count = 0 }

-- A position behind a term's head as an outcome: what was read, and the bytes that follow.
unfoldable pub head_read : List ℕ → Position → Parsed (ℕ × ℕ)
head_read bytes p = parsed (p.first, p.count) (drop p.next bytes)

-- By an answer: what was read, and the bytes that follow, or the refusal.
unfoldable pub outcome : {A B : Type 0} → Result A Refusal → List ℕ → B → Parsed B
outcome (Ok a) rest b = parsed b rest
outcome (Err e) rest b = unparsed (number_of e)

-- ---- a term, part by part

-- Count (4), behind a first number. A variable has no count.
unfoldable pub parse_count : ℕ → List ℕ → Parsed (ℕ × ℕ)
parse_count zero bytes = parsed (0, 0) bytes
parse_count (suc s) bytes = and_then (parse_below (suc max_arity) 4 bytes) (λ c rest. parsed (suc s, c) rest)

-- The head of a term: symbol (4), count (4).
unfoldable pub parse_head : List ℕ → Parsed (ℕ × ℕ)
parse_head bytes = and_then (parse_below (suc (suc max_symbol)) 4 bytes) parse_count

-- Arguments (5), behind a first number and a count.
unfoldable pub node_from : ℕ → ℕ → ℕ → List ℕ → Parsed Node
node_from t zero c bytes = parsed var bytes
node_from t (suc s) c bytes = and_then (parse_arguments t c bytes) (λ args rest. parsed (app s args) rest)

abbrev pub parse_node_of : ℕ → ℕ × ℕ → List ℕ → Parsed Node
parse_node_of t h = node_from t h.0 h.1

-- What a term puts into its row.
unfoldable pub node_row : Node → List ℕ
node_row var = []
node_row (app s args) = suc s ∷ length args ∷ args

-- The outcome p is what a part answers, case by case: the bytes after it begin at `next`, which is a position of the bytes or
-- their end, and P holds of what was decoded; or the refusal.
abbrev pub AdvanceOf : {A : Type 0} → List ℕ → Parsed A → (A → Type 0) → Result ℕ Refusal → Type 0
AdvanceOf {A} bytes p P (Ok next) = (a : A) × (p ≡ parsed a (drop next bytes)) × (next ≤ length bytes) × P a
AdvanceOf {A} bytes p P (Err e) = p ≡ unparsed (number_of e)

-- q is behind the head of the term at `at`.
pub record HeadRead (bytes : List ℕ) (at : ℕ) (q : Position) : Type 0 where
  pub reads : head_read bytes q ≡ parse_head (drop at bytes)
  pub within : q.next ≤ length bytes
  pub few : q.count ≤ max_arity

-- The arguments of term t stand in its row, c of them.
pub record ArgumentsIn (t c : ℕ) (rows rows' : List ℕ) (args : List ℕ) : Type 0 where
  pub as_many : length args ≡ c
  pub written : rows' ≡ sets rows (term_words * t + 2) args

-- The node that was read at p stands in row t, which a variable leaves as it is.
abbrev pub RowIn : ℕ → Position → List ℕ → List ℕ → Node → Type 0
RowIn t p rows rows' var = (p.first ≡ 0) × (rows' ≡ rows)
RowIn t p rows rows' (app s args) = (p.first ≡ suc s) × (length args ≡ p.count) × (rows' ≡ sets rows (term_words * t) (node_row (app s args)))

-- Node n stands in row t, which it does not exceed.
pub record TermIn (t : ℕ) (rows rows' : List ℕ) (n : Node) : Type 0 where
  pub few : length (node_row n) ≤ term_words
  pub written : rows' ≡ sets rows (term_words * t) (node_row n)

-- The rows, of `size` words, are those of the book, which has n terms.
pub record BookIn (n size : ℕ) (rows : List ℕ) (b : Book) : Type 0 where
  pub as_many : length b ≡ n
  pub written : rows ≡ book_rows size b
