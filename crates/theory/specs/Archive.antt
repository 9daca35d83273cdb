-- Storing a book with its variables first and restoring it (document 02, request 1): what is stored, that it is one book and one list, that it restores the
-- bytes, and where restoring works. The refusals and what stays of the outputs are in Demand1.antt, the lengths in Lengths.antt.
-- Statements only.
use Rattle.std.specs.Prelude.{◌≡◌, List, [], ◌∷◌, ℕ, ◌≤◌, ◌<◌, length, get_or, take, T}
use Rattle.leb128.specs.Number.{max_number}
use Rattle.leb128.specs.Laws.{are_bytes}
use Rattle.model.specs.Limits.{Limits}
use Rattle.model.specs.Term.{var, Book}
use Rattle.model.specs.Report.{number_bytes}
use Rattle.model.specs.BookBytes.{parsed, parse_book, as_written, book_bytes}
use Rattle.model.specs.Call.{Outcome, emit}
use Rattle.model.specs.Archive.{is_variable, variables_first, new_number, renumbered, stored_book, parse_list, Stored, call_store, call_restore}
use Rattle.theory.specs.Numbering.{Distinct}

-- The list names every one of n terms once.
pub record EachOnce (n : ℕ) (list : List ℕ) : Type 0 where
  pub as_many : length list ≡ n
  pub terms : (i : ℕ) → i < n → get_or list i 0 < n
  pub once : Distinct list

-- Book `new` is book `old` renumbered: its term i is the old one's term that the list has at i, with new numbers for its arguments.
pub record Renumbers (list : List ℕ) (old new : Book) : Type 0 where
  pub as_many : length new ≡ length old
  pub term : (i : ℕ) → i < length old → get_or new i var ≡ renumbered (new_number list) (get_or old (get_or list i 0) var)

-- What is stored for the book b: its variables first, in their old order, then the other terms in theirs, arguments renumbered.
pub record StoredAs (b : Book) (list : List ℕ) (new : Book) : Type 0 where
  pub each_once : EachOnce (length b) list
  pub renumbers : Renumbers list b new
  pub variables_first : (i j : ℕ) → i < j → j < length b → get_or new j var ≡ var → get_or new i var ≡ var
  pub old-order : (i j : ℕ) → i < j → j < length b → is_variable (get_or new i var) ≡ is_variable (get_or new j var)
      → get_or list i 0 < get_or list j 0

-- The definitions give it, for every book.
abbrev pub StoredAsAsked : Type 0
StoredAsAsked = (b : Book) → StoredAs b (variables_first b) (stored_book b)

-- It is one list and one book.
abbrev pub StoredOnce : Type 0
StoredOnce = (b : Book) (list list' : List ℕ) (new new' : Book) → StoredAs b list new → StoredAs b list' new'
    → (list' ≡ list) × (new' ≡ new)

-- A book's bytes open as that book.
abbrev pub OpensAs : Limits → Book → Type 0
OpensAs lim b = parse_book lim (book_bytes b) ≡ parsed b []

-- The outcome of an accepted storing: the bytes opened as a book, and the outputs have what is stored for it, the list as seven-bit
-- numbers and nothing else. The answers are the lengths written, the book's first. The stored book opens.
pub record Stores (lim : Limits) (book : List ℕ) (o : Stored) : Type 0 where
  pub terms : Book
  pub list : List ℕ
  pub new : Book
  pub opens : parse_book lim book ≡ parsed terms []
  pub stored_as : StoredAs terms list new
  pub numbers : o.numbers ≡ length (book_bytes new) ∷ length (number_bytes list) ∷ []
  pub book-written : take (length (book_bytes new)) o.output ≡ book_bytes new
  pub list_written : take (length (number_bytes list)) o.list ≡ number_bytes list
  pub stored_opens : OpensAs lim new

abbrev pub StoresAsAsked : Type 0
StoresAsAsked = (lim : Limits) (book out list : List ℕ) → (call_store lim book out list).refusal ≡ 0
    → Stores lim book (call_store lim book out list)

-- Book and list, as they were written, restore the first book's bytes, for every book that storing accepts (`stored_and_back` of
-- Lengths.antt: every book that opens, in outputs that are long enough), and into every output: 13 where they do not fit. For no bytes they
-- restore 00 (`as_written`).
abbrev pub StoredRestores : Type 0
StoredRestores = (lim : Limits) (book out list : List ℕ) → T (are_bytes book) → let o = call_store lim book out list in
    o.refusal ≡ 0 → (m n : ℕ) → o.numbers ≡ m ∷ n ∷ []
    → (back : List ℕ) → call_restore lim (take m o.output) (take n o.list) back ≡ emit (as_written book) [] back

-- Bytes are taken as a list of n terms exactly where they are the numbers of a list that names every term once.
pub record ReadsLists : Type 0 where
  pub taken : (n : ℕ) (list : List ℕ) → n ≤ max_number → EachOnce n list → parse_list n (number_bytes list) ≡ parsed list []
  pub only_these : (n : ℕ) (bytes list rest : List ℕ) → parse_list n bytes ≡ parsed list rest
      → EachOnce n list × (rest ≡ []) × (T (are_bytes bytes) → bytes ≡ number_bytes list)

-- The outcome of an accepted restoring: the bytes opened as the book `new`, the other bytes are those of a list that names each of its terms
-- once, and the output has the bytes of a book that opens, of which `new` is the renumbering by that list.
pub record RestoredFrom (lim : Limits) (book listBytes : List ℕ) (o : Outcome) : Type 0 where
  pub new : Book
  pub list : List ℕ
  pub old : Book
  pub opens : parse_book lim book ≡ parsed new []
  pub listed : listBytes ≡ number_bytes list
  pub each_once : EachOnce (length new) list
  pub renumbers : Renumbers list old new
  pub restored_opens : OpensAs lim old
  pub numbers : o.numbers ≡ length (book_bytes old) ∷ []
  pub written : take (length (book_bytes old)) o.output ≡ book_bytes old

abbrev pub RestoresAsAsked : Type 0
RestoresAsAsked = (lim : Limits) (book listBytes out : List ℕ) → T (are_bytes listBytes) → (call_restore lim book listBytes out).refusal ≡ 0
    → RestoredFrom lim book listBytes (call_restore lim book listBytes out)

-- Restoring from the book `new`, which opens from some bytes, and a list that names every term once: it works where a book opens of
-- which `new` is the renumbering, that book's bytes are written (13 where they do not fit), and otherwise it is refused by 5.
pub record Restores (lim : Limits) (bytes out : List ℕ) (new : Book) (list : List ℕ) : Type 0 where
  pub works : (old : Book) → OpensAs lim old → Renumbers list old new
      → call_restore lim bytes (number_bytes list) out ≡ emit (book_bytes old) [] out
  pub only_there : ((call_restore lim bytes (number_bytes list) out).refusal ≡ 5 → ⊥)
      → (old : Book) × OpensAs lim old × Renumbers list old new
  -- there is one such book
  pub one-book : (old old' : Book) → OpensAs lim old → OpensAs lim old' → Renumbers list old new → Renumbers list old' new
      → old' ≡ old

abbrev pub RestoresWhereItOpens : Type 0
RestoresWhereItOpens = (lim : Limits) (bytes out : List ℕ) (new : Book) (rest : List ℕ) (list : List ℕ)
    → parse_book lim bytes ≡ parsed new rest → EachOnce (length new) list → Restores lim bytes out new list

-- No area, so no 7.
abbrev pub WithoutSeven : Type 0
WithoutSeven =
    ((lim : Limits) (book out list : List ℕ) → (call_store lim book out list).refusal ≡ 7 → ⊥)
    × ((lim : Limits) (book list out : List ℕ) → (call_restore lim book list out).refusal ≡ 7 → ⊥)

pub record Archive : Type 0 where
  pub stored_as_asked : StoredAsAsked
  pub stores_as_asked : StoresAsAsked
  pub stored_once : StoredOnce
  pub stored_restores : StoredRestores
  pub reads_lists : ReadsLists
  pub restores_as_asked : RestoresAsAsked
  pub restores_where_it_opens : RestoresWhereItOpens
  pub without_seven : WithoutSeven
