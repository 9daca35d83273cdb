-- How long a book, a list and a report can be (docs/SPEC.md, "Bytes"; document 01, "Sessions": the output always has space for the
-- report). Statements only.
use Rattle.std.specs.Prelude.{◌≡◌, List, [], ◌∷◌, ℕ, ◌+◌, ◌*◌, ◌≤◌, length, take, T}
use Rattle.leb128.specs.Laws.{are_bytes}
use Rattle.model.specs.Limits.{Limits, office, max_arity, session_capacity}
use Rattle.model.specs.Term.{Book}
use Rattle.model.specs.Step.{State}
use Rattle.model.specs.Report.{number_bytes, report_bytes}
use Rattle.model.specs.BookBytes.{parsed, parse_book, as_written, book_bytes}
use Rattle.model.specs.Area.{sound_state, sound, state_of}
use Rattle.model.specs.Call.{emit, call_report, call_write, call_copy}
use Rattle.model.specs.Archive.{variables_first, stored_book, parse_restored, call_store, call_restore}
use Rattle.theory.specs.Modest.{Modest}

-- Within the office's limits a number takes at most two bytes, and the count of a symbol's arguments one. So a term takes at most
-- `term_most` bytes, and an entry of a report, which has two names more, `entry_most`.
abbrev pub term_most : ℕ
term_most = 2 + 1 + 2 * max_arity

abbrev pub entry_most : ℕ
entry_most = 2 + 2 + term_most

-- the most bytes of a book of so many terms, and of a report of so many lines and entries
abbrev pub book_most : ℕ → ℕ
book_most terms = 2 + term_most * terms

abbrev pub report_most : ℕ → ℕ → ℕ
report_most lines entries = 2 + 2 * lines + 2 + entry_most * entries

-- and of a list of so many terms
abbrev pub list_most : ℕ → ℕ
list_most terms = 2 * terms

-- docs/SPEC.md's numbers: no book is longer, no list, no report, and no report in a session
abbrev pub longest_book : ℕ
longest_book = 19458

abbrev pub longest_list : ℕ
longest_list = 2048

abbrev pub longest_report : ℕ
longest_report = 47620

abbrev pub longest_session_report : ℕ
longest_session_report = 24068

pub record Lengths : Type 0 where
  -- of any limits up to the office's: bytes that open as a book, the book of a sound state written, and its report
  pub book-read : (lim : Limits) → Modest lim → (bytes : List ℕ) (b : Book) (rest : List ℕ) → T (are_bytes bytes)
      → parse_book lim bytes ≡ parsed b rest → length bytes ≤ book_most (length b)
  pub book-written : (lim : Limits) → Modest lim → (s : State) → T (sound_state lim s)
      → length (book_bytes s.book) ≤ book_most (length s.book)
  pub report-written : (lim : Limits) → Modest lim → (s : State) → T (sound_state lim s)
      → length (report_bytes s) ≤ report_most (length s.lines) (length s.entries)
  -- what is stored for a book that opens, book and list, and what is restored
  pub book_stored : (lim : Limits) → Modest lim → (bytes : List ℕ) (b : Book) (rest : List ℕ) → parse_book lim bytes ≡ parsed b rest
      → length (book_bytes (stored_book b)) ≤ book_most (length b)
  pub list_stored : (lim : Limits) → Modest lim → (bytes : List ℕ) (b : Book) (rest : List ℕ) → parse_book lim bytes ≡ parsed b rest
      → length (number_bytes (variables_first b)) ≤ list_most (length b)
  pub book_restored : (lim : Limits) → Modest lim → (bytes list : List ℕ) (b : Book) (rest : List ℕ)
      → parse_restored lim bytes list ≡ parsed b rest → length (book_bytes b) ≤ book_most (length b)
  -- the office's
  pub office-book-read : (bytes : List ℕ) (b : Book) (rest : List ℕ) → T (are_bytes bytes) → parse_book office bytes ≡ parsed b rest
      → length bytes ≤ longest_book
  pub office-book : (s : State) → T (sound_state office s) → length (book_bytes s.book) ≤ longest_book
  pub report-at-capacity : (s : State) → T (sound_state office s) → length (report_bytes s) ≤ report_most office.max_lines s.capacity
  pub office-report : (s : State) → T (sound_state office s) → length (report_bytes s) ≤ longest_report
  pub session-report : (s : State) → T (sound_state office s) → s.capacity ≡ session_capacity → length (report_bytes s) ≤ longest_session_report
  -- so a book that opens, and the book and the report of a sound area, into an output of that length are not refused
  pub room_for_copy : (book out : List ℕ) (b : Book) (rest : List ℕ) → T (are_bytes book) → parse_book office book ≡ parsed b rest
      → longest_book ≤ length out → (call_copy office book out).refusal ≡ 0
  pub room_for_book : (area out : List ℕ) → T (sound office area) → longest_book ≤ length out → (call_write office area out).refusal ≡ 0
  pub room-at-capacity : (area out : List ℕ) → T (sound office area)
      → report_most office.max_lines (state_of area office).capacity ≤ length out → (call_report office area out).refusal ≡ 0
  pub room_for_report : (area out : List ℕ) → T (sound office area) → longest_report ≤ length out → (call_report office area out).refusal ≡ 0
  pub room_in_session : (area out : List ℕ) → T (sound office area) → (state_of area office).capacity ≡ session_capacity
      → longest_session_report ≤ length out → (call_report office area out).refusal ≡ 0
  -- and outputs of these lengths are long enough for what is stored, and for what is restored
  pub room_to_store : (bytes out list : List ℕ) (b : Book) (rest : List ℕ) → parse_book office bytes ≡ parsed b rest
      → longest_book ≤ length out → longest_list ≤ length list → (call_store office bytes out list).refusal ≡ 0
  pub room_to_restore : (bytes list out : List ℕ) → longest_book ≤ length out → (call_restore office bytes list out).refusal ≡ 13 → ⊥
  -- so every book that opens is stored, and restored from what was written (13 where `back` is too short; 00 for no bytes)
  pub stored_and_back : (book out list back : List ℕ) (b : Book) (rest : List ℕ) → T (are_bytes book) → parse_book office book ≡ parsed b rest
      → longest_book ≤ length out → longest_list ≤ length list → let o = call_store office book out list in
      (o.refusal ≡ 0)
      × ((m : ℕ) × (n : ℕ) × (o.numbers ≡ m ∷ n ∷ [])
      × (call_restore office (take m o.output) (take n o.list) back ≡ emit (as_written book) [] back))
