-- The calls on bytes: what every contract cites (document 01, "Turned down"). Assumes nothing: these are definitions.
use Rattle.std.specs.Prelude.{List, [], ◌∷◌, ◌++◌, Bool, true, false, ◌&&◌, ℕ, length, drop, replicate, ltb, leb}
use Rattle.model.specs.Limits.{Limits}
use Rattle.model.specs.Term.{Book}
use Rattle.model.specs.Table.{entry}
use Rattle.model.specs.Step.{Answer, refused, accepted, add_line, bind, opened}
use Rattle.model.specs.Report.{report_bytes}
use Rattle.model.specs.BookBytes.{Parsed, parsed, parse_book, book_bytes}
use Rattle.model.specs.Area.{area_bytes, area_length, entry_row_words, entry_words, sound, state_of}

-- What a call leaves: 0 or the refusal, the answer's numbers, the area and the output. A call that has no output has [].
pub record Outcome : Type 0 where
  pub refusal : ℕ
  pub numbers : List ℕ
  pub area : List ℕ
  pub output : List ℕ

-- Refusal n of a call that answers `count` numbers: zeros for all of them, and the lent bytes as they were.
unfoldable pub refuse : ℕ → ℕ → List ℕ → List ℕ → Outcome
refuse count n area out = record { refusal = n; numbers = replicate count 0; area = area; output = out }

unfoldable pub accept : List ℕ → List ℕ → List ℕ → Outcome
accept ns area out = record { refusal = 0; numbers = ns; area = area; output = out }

-- The refusal, unless the test holds.
unfoldable pub guard : Bool → Outcome → Outcome → Outcome
guard true refusal outcome = outcome
guard false refusal outcome = refusal

-- New bytes at the front; what lies beyond them stays.
unfoldable pub over : List ℕ → List ℕ → List ℕ
over new old = new ++ drop (length new) old

-- Bytes into the output: 13 where it is too short. The answer is how many were written.
unfoldable pub emit : List ℕ → List ℕ → List ℕ → Outcome
emit new area out =
    guard (leb (length new) (length out)) (refuse 1 13 area out) (accept (length new ∷ []) area (over new out))

unfoldable pub copy_parsed : List ℕ → Parsed Book → Outcome
copy_parsed out (parsed b rest) = emit (book_bytes b) [] out
copy_parsed out (Parsed.unparsed n) = refuse 1 n [] out

module _ (lim : Limits) where
  unfoldable pub open_parsed : ℕ → List ℕ → Parsed Book → Outcome
  open_parsed capacity area (parsed b rest) = accept [] (over (area_bytes lim (opened b capacity)) area) []
  open_parsed capacity area (Parsed.unparsed n) = refuse 0 n area []

  -- Opening: 4 for the capacity, 7 for the length, then the book. It answers no numbers.
  unfoldable pub call_open : ℕ → List ℕ → List ℕ → Outcome
  call_open capacity book area =
      guard (leb 1 capacity && leb capacity lim.max_capacity) (refuse 0 4 area [])
      (guard (leb (area_length lim capacity) (length area)) (refuse 0 7 area [])
      (open_parsed capacity area (parse_book lim book)))

  -- A step's answer, of `count` numbers, as an outcome.
  unfoldable pub stepped : ℕ → List ℕ → Answer → Outcome
  stepped count area (refused n) = refuse count n area []
  stepped count area (accepted ns s) = accept ns (over (area_bytes lim s) area) []

  -- Adding a line: 7, then 8, 12, 11. It answers the line's entry.
  unfoldable pub call_add : List ℕ → ℕ → ℕ → Outcome
  call_add area l r = guard (sound lim area) (refuse 1 7 area []) (stepped 1 area (add_line lim (state_of area lim) l r))

  -- Fixing a choice: 7, then 8, 9, 10, 11. It answers how many old entries turned and how many were appended.
  unfoldable pub call_bind : List ℕ → ℕ → ℕ → Outcome
  call_bind area v t = guard (sound lim area) (refuse 2 7 area []) (stepped 2 area (bind (state_of area lim) v t))

  -- Reading an entry: 7, 8. It answers left, right, kind, symbol, count, the arguments' places and same-as.
  unfoldable pub call_entry : List ℕ → ℕ → Outcome
  call_entry area i =
      let es = (state_of area lim).entries in
      guard (sound lim area) (refuse entry_row_words 7 area [])
      (guard (ltb i (length es)) (refuse entry_row_words 8 area []) (accept (entry_words (entry es i)) area []))

  -- The report: 7, 13.
  unfoldable pub call_report : List ℕ → List ℕ → Outcome
  call_report area out = guard (sound lim area) (refuse 1 7 area out) (emit (report_bytes (state_of area lim)) area out)

  -- Writing a book: 7, 13.
  unfoldable pub call_write : List ℕ → List ℕ → Outcome
  call_write area out = guard (sound lim area) (refuse 1 7 area out) (emit (book_bytes (state_of area lim).book) area out)

  -- A book read and written back, with no area: the book's refusals, then 13. It answers the number of bytes written.
  unfoldable pub call_copy : List ℕ → List ℕ → Outcome
  call_copy book out = copy_parsed out (parse_book lim book)
