-- Demand 2: lines as terms, least, and the book's bytes (document 01, "Lines as terms" and "Bytes"). Statements only.
use Rattle.std.specs.Prelude.{◌≡◌, List, [], map, ℕ, ◌<◌, length, T}
use Rattle.leb128.specs.Laws.{are_bytes}
use Rattle.model.specs.Limits.{Limits}
use Rattle.model.specs.Term.{Book, Tree, val}
use Rattle.model.specs.Pattern.{Pattern, fill, refine, entry_reading, left_value, right_value, line_readings}
use Rattle.model.specs.BookBytes.{parsed, parse_book, as_written}
use Rattle.model.specs.Area.{sound, state_of}
use Rattle.model.specs.Call.{call_open, call_write, call_copy, emit}
use Rattle.theory.specs.Modest.{Modest}
use Rattle.theory.specs.Run.{Request, is_line, left_term, right_term, run, accepted_of}

-- On every sound area the left filling takes each entry's reading, and so each line's, to its left value, and the right
-- filling to its right value.
abbrev pub Rebuilds : Type 0
Rebuilds = (lim : Limits) (area : List ℕ) → T (sound lim area) → let s = state_of area lim in
    (i : ℕ) → i < length s.entries
    → (fill (left_value s) (entry_reading s i) ≡ left_value s i) × (fill (right_value s) (entry_reading s i) ≡ right_value s i)

-- The lines are the least: any other list of patterns, one for each line, that gives all the left values by one filling
-- and all the right values by another, becomes the list of our lines by one filling. A pattern and a tree have as many parts below a
-- symbol as they like, at each place anew: no test of counts stands in `Pattern`, `Tree`, `fill` or `refine`. So the other lines, both fillings and
-- the one filling range over all terms in which a symbol takes several counts (document 02, request 3).
abbrev pub Least : Type 0
Least = (lim : Limits) (area : List ℕ) → T (sound lim area) → let s = state_of area lim in
    (others : List Pattern) (σ τ : ℕ → Tree)
    → map (fill σ) others ≡ map (left_value s) s.lines → map (fill τ) others ≡ map (right_value s) s.lines
    → (θ : ℕ → Pattern) × (map (refine θ) others ≡ line_readings s)

-- Along any list of calls the lines are those accepted, in their order, and each accepted line (l, r) reads back by the two
-- fillings to the values of l and r under the bindings in force.
abbrev pub LinesReadBack : Type 0
LinesReadBack = (lim : Limits) → Modest lim → (capacity : ℕ) (book area : List ℕ) → (call_open lim capacity book area).refusal ≡ 0
    → (calls : List Request)
    → let opened = (call_open lim capacity book area).area in
    let s = state_of (run lim opened calls) lim in
    let lines = accepted_of lim is_line opened calls in
    (map (fill (left_value s)) (line_readings s) ≡ map (λ (q : Request). val s.book s.bound (left_term q)) lines)
    × (map (fill (right_value s)) (line_readings s) ≡ map (λ (q : Request). val s.book s.bound (right_term q)) lines)

-- A book whose bytes open, written back at any time, has those bytes; no bytes are written back as 00 (`as_written`; EmptyBook.antt says that this
-- is the one book whose bytes differ).
abbrev pub WrittenBack : Type 0
WrittenBack = (lim : Limits) → Modest lim → (capacity : ℕ) (book area : List ℕ) → T (are_bytes book)
    → (call_open lim capacity book area).refusal ≡ 0 → (calls : List Request) (out : List ℕ)
    → let after = run lim (call_open lim capacity book area).area calls in
    call_write lim after out ≡ emit (as_written book) after out

-- The same of bytes that parse, read and written back with no area, into every output: 13 where it is too short.
abbrev pub CopiedBack : Type 0
CopiedBack = (lim : Limits) (book : List ℕ) → T (are_bytes book) → (b : Book) (rest : List ℕ) → parse_book lim book ≡ parsed b rest
    → (out : List ℕ) → call_copy lim book out ≡ emit (as_written book) [] out

pub record Demand2 : Type 0 where
  pub rebuilds : Rebuilds
  pub least : Least
  pub lines-read_back : LinesReadBack
  pub written_back : WrittenBack
  pub copied_back : CopiedBack
