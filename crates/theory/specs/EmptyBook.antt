-- A book of no bytes (document 02, request 2): it is the book without terms, for every call that takes a book and for a session; it is the one
-- book that is written back otherwise than it was read; and refusal 1 remains for every book that breaks off after its first byte.
-- Statements only.
use Rattle.std.specs.Prelude.{◌≡◌, List, [], ◌∷◌, ◌++◌, ℕ, ◌≤◌, ◌<◌, length, take, T}
use Rattle.leb128.specs.Laws.{are_bytes}
use Rattle.model.specs.Limits.{Limits, office, max_session, session_capacity}
use Rattle.model.specs.Term.{Book}
use Rattle.model.specs.Step.{opened}
use Rattle.model.specs.BookBytes.{parsed, unparsed, parse_number, parse_written, parse_book, as_written, book_bytes}
use Rattle.model.specs.Area.{area_bytes, area_length}
use Rattle.model.specs.Call.{refuse, accept, over, emit, call_open, call_copy, call_write}
use Rattle.model.specs.Archive.{not_stored, emit_both, call_store, call_restore}
use Rattle.model.specs.Session.{steps, session}
use Rattle.theory.specs.Modest.{Modest}
use Rattle.theory.specs.Run.{Request, run}

-- The capacity is in its range and the area long enough for it: what opening tests before the book.
abbrev pub Openable : Limits → ℕ → List ℕ → Type 0
Openable lim capacity area = (1 ≤ capacity) × (capacity ≤ lim.max_capacity) × (area_length lim capacity ≤ length area)

-- Each call takes no bytes for the book without terms, with any limits: no test of a book refuses them, and what is written for them is
-- 00. 4 and 7 before the book, the list's refusals and 13 behind it remain.
pub record NoBytes (lim : Limits) : Type 0 where
  pub parses : parse_book lim [] ≡ parsed [] []
  pub opening : (capacity : ℕ) (area : List ℕ) → Openable lim capacity area
      → call_open lim capacity [] area ≡ accept [] (over (area_bytes lim (opened [] capacity)) area) []
  pub copying : (out : List ℕ) → call_copy lim [] out ≡ emit (0 ∷ []) [] out
  pub storing : (out list : List ℕ) → call_store lim [] out list ≡ emit_both (0 ∷ []) [] out list
  pub restoring : (out : List ℕ) → call_restore lim [] [] out ≡ emit (0 ∷ []) [] out
  -- stored, which is accepted, and restored
  pub there_and_back : (out list back : List ℕ) → 1 ≤ length out → let o = call_store lim [] out list in
      (o.refusal ≡ 0) × (o.numbers ≡ 1 ∷ 0 ∷ []) × (call_restore lim (take 1 o.output) (take 0 o.list) back ≡ emit (0 ∷ []) [] back)
  -- any byte of a list beside them is left over, 3; and a list of no bytes beside a book with terms is cut, 1
  pub list-left-over : (x : ℕ) (xs out : List ℕ) → call_restore lim [] (x ∷ xs) out ≡ refuse 1 3 [] out
  pub list-cut : (book out : List ℕ) (b : Book) (rest : List ℕ) → parse_book lim book ≡ parsed b rest → 0 < length b
      → call_restore lim book [] out ≡ refuse 1 1 [] out

-- No call tells them from the book 00, whatever else it is lent.
pub record As00 (lim : Limits) : Type 0 where
  pub parses : parse_book lim [] ≡ parse_book lim (0 ∷ [])
  pub opening : (capacity : ℕ) (area : List ℕ) → call_open lim capacity [] area ≡ call_open lim capacity (0 ∷ []) area
  pub copying : (out : List ℕ) → call_copy lim [] out ≡ call_copy lim (0 ∷ []) out
  pub storing : (out list : List ℕ) → call_store lim [] out list ≡ call_store lim (0 ∷ []) out list
  pub restoring : (list out : List ℕ) → call_restore lim [] list out ≡ call_restore lim (0 ∷ []) list out

-- Once opened, no bytes are written back from the area as 00, at any time.
abbrev pub WrittenAs00 : Type 0
WrittenAs00 = (lim : Limits) → Modest lim → (capacity : ℕ) (area : List ℕ) → Openable lim capacity area → (calls : List Request) (out : List ℕ)
    → let after = run lim (call_open lim capacity [] area).area calls in
    call_write lim after out ≡ emit (0 ∷ []) after out

-- Nothing else is new: every other book has the answer of the reader of books as they are written, which refuses no bytes with 1.
abbrev pub NothingElseIsNew : Type 0
NothingElseIsNew = (lim : Limits)
    → (parse_written lim [] ≡ unparsed 1) × ((bytes : List ℕ) → (bytes ≡ [] → ⊥) → parse_book lim bytes ≡ parse_written lim bytes)

-- What is written for a book that opens (`book_bytes`) is what was read, but for no bytes, for which it is 00.
abbrev pub OneBookDiffers : Type 0
OneBookDiffers = (lim : Limits) (bytes : List ℕ) (b : Book) (rest : List ℕ) → T (are_bytes bytes) → parse_book lim bytes ≡ parsed b rest
    → ((bytes ≡ [] → ⊥) → book_bytes b ≡ bytes) × (bytes ≡ [] → book_bytes b ≡ 0 ∷ [])

-- `as_written`, which demand 2 and the theorems on storing and restoring have for what is written back, is these bytes for every other book.
abbrev pub SameBytesElse : Type 0
SameBytesElse = (bytes : List ℕ) → (bytes ≡ [] → ⊥) → as_written bytes ≡ bytes

-- Refusal 1, by each call.
pub record RefusedAsCut (lim : Limits) (book : List ℕ) : Type 0 where
  pub parses : parse_book lim book ≡ unparsed 1
  pub opening : (capacity : ℕ) (area : List ℕ) → Openable lim capacity area → call_open lim capacity book area ≡ refuse 0 1 area []
  pub copying : (out : List ℕ) → call_copy lim book out ≡ refuse 1 1 [] out
  pub storing : (out list : List ℕ) → call_store lim book out list ≡ not_stored 1 out list
  pub restoring : (list out : List ℕ) → call_restore lim book list out ≡ refuse 1 1 [] out

-- It remains for a book that breaks off after its first byte: every front of a book that opens, but for no bytes and the whole.
abbrev pub BreaksOff : Type 0
BreaksOff = (lim : Limits) (book : List ℕ) (b : Book) (rest : List ℕ) → parse_book lim book ≡ parsed b rest
    → (n : ℕ) → 0 < n → n < length book → RefusedAsCut lim (take n book)

-- A session whose book has length 0 opens, unless it is too long, and its steps follow, on the book without terms. One of no bytes lacks
-- its book's length and prints 1; one that is not too long and whose book breaks off prints 1 too.
pub record InSessions : Type 0 where
  pub opens : (bytes : List ℕ) → length (0 ∷ bytes) ≤ max_session
      → session (0 ∷ bytes) ≡ (0 ∷ []) ∷ steps (length bytes) (opened [] session_capacity) bytes
  pub no_session : session [] ≡ (1 ∷ []) ∷ []
  pub breaks_off : (book : List ℕ) (b : Book) (rest : List ℕ) → parse_book office book ≡ parsed b rest → (n : ℕ) → 0 < n → n < length book
      → (bytes behind : List ℕ) → length bytes ≤ max_session → parse_number bytes ≡ parsed n (take n book ++ behind) → session bytes ≡ (1 ∷ []) ∷ []

pub record EmptyBook : Type 0 where
  pub no_bytes_lem : (lim : Limits) → NoBytes lim
  pub as_00 : (lim : Limits) → As00 lim
  pub written_as_00 : WrittenAs00
  pub nothing_else_is-new : NothingElseIsNew
  pub one-book_differs : OneBookDiffers
  pub same-bytes_else : SameBytesElse
  pub breaks_off : BreaksOff
  pub in_sessions : InSessions
