-- How long the bytes of a book, of a list and of a report can be (specs/Lengths.antt). Assumes nothing.
use mathlib.Core.Path.{◌≡◌, refl}
use mathlib.Core.Bool.{true}
use mathlib.Core.List.{List, [], ◌∷◌, ◌++◌, map}
use Prim.Native.Nat.{ℕ, suc, ◌+◌, ◌*◌, ◌≤◌, ◌<◌, zero-le, suc-le-suc}
use native.Mathlib.Nat.{mul-suc}
use native.Mathlib.Omega.{arith}
use borrow.Author.Tests.{le-leb}
use lib.ListN.{length, get_or, length-append, length-map}
use lib.Dec.{T, leb}
use Rattle.leb128.specs.Number.{max_groups, write}
use Rattle.leb128.specs.Laws.{are_bytes}
use Rattle.leb128.proofs.Groups.{by_test}
use Rattle.leb128.proofs.Writing.{one_byte_lem, two_bytes_lem}
use Rattle.model.specs.Limits.{Limits, office, max_arity, max_symbol, session_capacity}
use Rattle.model.specs.Lists.{concat_map}
use Rattle.model.specs.Term.{Node, var, app, symbol, arguments, Book, Bindings, name}
use Rattle.model.specs.Table.{Kind, hole, common, Entry, Table, entry}
use Rattle.model.specs.Step.{State}
use Rattle.model.specs.Report.{number, kind_numbers, entry_numbers, report, number_bytes, report_bytes}
use Rattle.model.specs.BookBytes.{Parsed, parsed, unparsed, parse_book, node_numbers, book_bytes}
use Rattle.model.specs.Area.{sound_state, sound, state_of}
use Rattle.model.specs.Call.{refuse, accept, guard, emit, copy_parsed, call_report, call_write, call_copy}
use Rattle.model.specs.Archive.{variables_first, stored_book, parse_restored, call_restore, emit_both, store_parsed, call_store}
use Rattle.theory.specs.Modest.{Modest}
use Rattle.theory.specs.Archive.{EachOnce, OpensAs}
use Rattle.theory.specs.Lengths.{term_most, entry_most, book_most, list_most, report_most, longest_book, longest_list, longest_report, longest_session_report, Lengths}
use Rattle.theory.proofs.Soundness.Facts.{Formed, SoundFacts, KindRight}
use Rattle.theory.proofs.Soundness.Test.{sound_facts, facts_sound}
use Rattle.theory.proofs.Lists.Laws.{T_true, concat_map-append}
use Rattle.theory.proofs.Lists.Rows.{rows_short}
use Rattle.theory.proofs.Values.Equations.{name-lt}
use Rattle.theory.proofs.Area.Layout.{root_arity}
use Rattle.theory.proofs.Area.Small.{root-symbol}
use Rattle.theory.proofs.Area.Bytes.{sound_carries}
use Rattle.theory.proofs.Book.Written.{written-longer}
use Rattle.theory.proofs.Book.Round.{parsed_formed, written_back}
use Rattle.theory.proofs.Archive.VariablesFirst.{in_order}
use Rattle.theory.proofs.Archive.Formed.{stored_as, stored_opens}
use Rattle.theory.proofs.Archive.Calls.{restored_opens, restored_not_thirteen, archive}
use Rattle.theory.proofs.Report.Numbering.{numbering, order_short}
use Rattle.theory.proofs.Report.Small.{numbered, numbers-below}

-- numbers below these take one byte, and two
abbrev one_byte : ℕ
one_byte = 128

abbrev two_bytes : ℕ
two_bytes = 16384

one-long : (n : ℕ) → n < one_byte → length (write max_groups n) ≤ 1
one-long n h = rw (one_byte_lem n h) (omega arith)

two_long : (n : ℕ) → n < two_bytes → length (write max_groups n) ≤ 2
two_long n h = by_test n one_byte (λ b. rw (one_byte_lem n b) (omega arith)) (λ b. rw (two_bytes_lem n b h) (omega arith))

-- the bytes of a number and of those behind it
first-long : (n : ℕ) (ns : List ℕ) → length (number_bytes (n ∷ ns)) ≡ length (write max_groups n) + length (number_bytes ns)
unfolding number_bytes concat_map
first-long n ns = length-append (write max_groups n) (number_bytes ns)

parts-long : (m : ℕ) (ms : List ℕ) (n : ℕ) (ns : List ℕ) → length (number_bytes (m ∷ ms ++ n ∷ ns)) ≡
    length (write max_groups m) + (length (number_bytes ms) + (length (write max_groups n) + length (number_bytes ns)))
unfolding number_bytes
parts-long m ms n ns =
    rw (first-long m (ms ++ n ∷ ns), concat_map-append (write max_groups) ms (n ∷ ns), length-append, first-long n ns)

-- numbers of two bytes
row-long : (ns : List ℕ) → ((i : ℕ) → i < length ns → get_or ns i 0 < two_bytes) → length (number_bytes ns) ≤ 2 * length ns
unfolding number_bytes
row-long ns h = rows_short (write max_groups) 2 0 ns (λ i l. two_long (get_or ns i 0) (h i l))

-- rows of numbers that take at most w bytes each
rows_long : {A : Type 0} (f : A → List ℕ) (w : ℕ) (d : A) (xs : List A)
    → ((i : ℕ) → i < length xs → length (number_bytes (f (get_or xs i d))) ≤ w) → length (number_bytes (concat_map f xs)) ≤ w * length xs
unfolding concat_map number_bytes
rows_long f w d [] h = zero-le
rows_long f w d (x ∷ xs) h =
    rw (concat_map-append (write max_groups) (f x) (concat_map f xs), length-append, mul-suc)
    (omega (arith, h 0 (suc-le-suc zero-le), rows_long f w d xs (λ i l. h (suc i) (suc-le-suc l))))

-- BOOKS. A term of small numbers.
node-long : (n : Node) → symbol n ≤ max_symbol → length (arguments n) ≤ max_arity
    → ((i : ℕ) → i < length (arguments n) → get_or (arguments n) i 0 < two_bytes) → length (number_bytes (node_numbers n)) ≤ term_most
unfolding node_numbers symbol arguments number_bytes concat_map
node-long var h g k = rw (one_byte_lem 0 (omega arith)) (omega arith)
node-long (app s args) h g k =
    rw (first-long, first-long)
    (omega (arith, two_long (suc s) (omega arith), one-long (length args) (omega arith), row-long args k))

-- a book that obeys the rules of terms
pub book-long : (b : Book) (β : Bindings) → Formed b β → length b ≤ office.max_terms → length (book_bytes b) ≤ book_most (length b)
unfolding book_bytes
book-long b β f few =
    let terms : length (number_bytes (concat_map node_numbers b)) ≤ term_most * length b =
    rows_long node_numbers term_most var b
    (λ t l. node-long (get_or b t var) (f.small-symbol t l) (f.small_arity t l)
    (λ i k. let x : get_or (arguments (get_or b t var)) i 0 < t = f.lower t l i k in omega arith)) in
    rw first-long (omega (arith, two_long (length b) (omega arith)))

-- REPORTS. The new numbers of entries, where few are numbered.
module _ (es : Table) (met : List ℕ) (few : length met < two_bytes) where
  numbers-long : (is : List ℕ) → length (number_bytes (map (number es met) is)) ≤ 2 * length is
  numbers-long is =
      rw length-map at (row-long (map (number es met) is) (λ i l. (numbers-below es met two_bytes few is).at i))

  -- a kind that is right
  kind-long : (b : Book) (β : Bindings) (k : Kind) (l r : Node) → KindRight b β es k l r → symbol l ≤ max_symbol
      → length (arguments l) ≤ max_arity → length (number_bytes (kind_numbers es met k)) ≤ term_most
  unfolding kind_numbers number_bytes concat_map
  kind-long b β hole l r h p q = rw (one_byte_lem 0 (omega arith)) (omega arith)
  kind-long b β (common s args) l r h p q =
      let e : s ≡ symbol l = h.the_symbol in
      let c : length args ≡ length (arguments l) = h.count_left in
      rw (first-long, first-long)
      (omega (arith, two_long (suc s) (omega arith), one-long (length args) (omega arith), numbers-long args))

module _ (lim : Limits) (s : State) (m : Modest lim) (f : SoundFacts lim s) where
  abbrev es : Table
  es = s.entries

  -- no more are numbered than there are entries
  few_met : length (numbered s) ≤ length es
  few_met = order_short s.book s.bound es f.table s.lines f.line-entries

  -- an entry of the report
  entry-long : (i : ℕ) → i < length es → length (number_bytes (entry_numbers es s.book s.bound (numbered s) i)) ≤ entry_most
  unfolding entry_numbers
  entry-long i l =
      let e : Entry = entry es i in
      let p : e.left < length s.book = f.table.left-term i l in
      let q : e.right < length s.book = f.table.right-term i l in
      rw (first-long, first-long)
      (omega (
        arith,
        two_long (name s.book s.bound e.left) (omega (arith, name-lt s.book s.bound e.left p)),
        two_long (name s.book s.bound e.right) (omega (arith, name-lt s.book s.bound e.right q)),
        kind-long es (numbered s) (omega (arith, few_met)) s.book s.bound e.kind _ _ (f.table.kind-right i l)
            (root-symbol lim s m f e.left p) (root_arity lim s f e.left p),
      ))

  -- the report
  pub report-long : length (report_bytes s) ≤ report_most (length s.lines) (length es)
  unfolding report_bytes report
  report-long =
      let rows = entry_numbers es s.book s.bound (numbered s) in
      let classes = (numbering s.book s.bound es f.table s.lines f.line-entries).classes in
      omega (
        arith,
        parts-long (length s.lines) (map (number es (numbered s)) s.lines) (length (numbered s)) (concat_map rows (numbered s)),
        few_met,
        two_long (length s.lines) (omega arith),
        numbers-long es (numbered s) (omega (arith, few_met)) s.lines,
        two_long (length (numbered s)) (omega (arith, few_met)),
        rows_long rows entry_most 0 (numbered s) (λ n l. entry-long (get_or (numbered s) n 0) (classes n l).0),
      )

-- THE STATEMENTS.
module _ (lim : Limits) (m : Modest lim) where
  book-read : (bytes : List ℕ) (b : Book) (rest : List ℕ) → T (are_bytes bytes) → parse_book lim bytes ≡ parsed b rest
      → (length bytes ≤ book_most (length b)) × (length b ≤ lim.max_terms)
  book-read bytes b rest h e =
      let f = parsed_formed lim bytes b rest e in
      let written = rw (written_back lim bytes b rest h e) at (book-long b _ f.0 (omega (arith, f.1))) in
      (omega (arith, written-longer bytes, written), f.1)

  -- any book whose bytes open as it
  opens-long : (b : Book) → OpensAs lim b → length (book_bytes b) ≤ book_most (length b)
  opens-long b e = let f = parsed_formed lim (book_bytes b) b [] e in book-long b _ f.0 (omega (arith, f.1))

  book_stored : (bytes : List ℕ) (b : Book) (rest : List ℕ) → parse_book lim bytes ≡ parsed b rest
      → length (book_bytes (stored_book b)) ≤ book_most (length b)
  book_stored bytes b rest e =
      let s : length (stored_book b) ≡ length b = (stored_as b).renumbers.as_many in
      let l = opens-long (stored_book b) (stored_opens lim bytes b rest e) in
      omega (arith, s, l)

  list_stored : (bytes : List ℕ) (b : Book) (rest : List ℕ) → parse_book lim bytes ≡ parsed b rest
      → length (number_bytes (variables_first b)) ≤ list_most (length b)
  list_stored bytes b rest e =
      let o : EachOnce (length b) (variables_first b) = (in_order b).each_once in
      let few = (parsed_formed lim bytes b rest e).1 in
      let l = row-long (variables_first b) (λ i l. omega (arith, few, o.as_many, o.terms i (omega (arith, o.as_many)))) in
      omega (arith, o.as_many, l)

  book_restored : (bytes list : List ℕ) (b : Book) (rest : List ℕ) → parse_restored lim bytes list ≡ parsed b rest
      → length (book_bytes b) ≤ book_most (length b)
  book_restored bytes list b rest e = opens-long b (restored_opens lim bytes list b rest e)

  module _ (s : State) (h : T (sound_state lim s)) where
    facts : SoundFacts lim s
    facts = sound_facts lim s h

    book-written : length (book_bytes s.book) ≤ book_most (length s.book)
    book-written = book-long s.book s.bound facts.formed (omega (arith, facts.few-terms))

    report-written : length (report_bytes s) ≤ report_most (length s.lines) (length s.entries)
    report-written = report-long lim s m facts

-- The office's limits are within themselves, so every theorem over `Modest` limits holds of them.
pub office-modest : Modest office
office-modest = record { terms = omega arith; capacity = omega arith; lines = omega arith }

module _ (s : State) (h : T (sound_state office s)) where
  office-book : length (book_bytes s.book) ≤ longest_book
  office-book = omega (arith, book-written office office-modest s h, (facts office office-modest s h).few-terms)

  report-at-capacity : length (report_bytes s) ≤ report_most office.max_lines s.capacity
  report-at-capacity =
      let f = facts office office-modest s h in omega (arith, report-written office office-modest s h, f.few-lines, f.few-entries)

  office-report : length (report_bytes s) ≤ longest_report
  office-report = omega (arith, report-at-capacity, (facts office office-modest s h).capacity-fits)

  session-report : s.capacity ≡ session_capacity → length (report_bytes s) ≤ longest_session_report
  session-report e = omega (arith, report-at-capacity)

-- of bytes that open as a book there are no more, and these are written back
module _ (book : List ℕ) (b : Book) (rest : List ℕ) (h : T (are_bytes book)) (e : parse_book office book ≡ parsed b rest) where
  office-book-read : length book ≤ longest_book
  office-book-read = let r = book-read office office-modest book b rest h e in omega (arith, r.0, r.1)

  copy_room : (out : List ℕ) → longest_book ≤ length out → (call_copy office book out).refusal ≡ 0
  unfolding call_copy copy_parsed guard emit accept
  copy_room out l =
      let f = parsed_formed office book b rest e in
      let fits : length (book_bytes b) ≤ length out = omega (arith, f.1, book-long b _ f.0 (omega (arith, f.1))) in
      rw (e, le-leb (length (book_bytes b)) (length out) fits)

-- a book, or a report, of a sound area that fits is not refused
module _ (area out : List ℕ) (h : T (sound office area)) where
  book-room : length (book_bytes (state_of area office).book) ≤ length out → (call_write office area out).refusal ≡ 0
  unfolding call_write guard emit accept
  book-room l = rw (T_true (sound office area) h, le-leb (length (book_bytes (state_of area office).book)) (length out) l)

  report-room : length (report_bytes (state_of area office)) ≤ length out → (call_report office area out).refusal ≡ 0
  unfolding call_report guard emit accept
  report-room l = rw (T_true (sound office area) h, le-leb (length (report_bytes (state_of area office))) (length out) l)

-- what is stored and restored, where it fits
room_to_store : (bytes out list : List ℕ) (b : Book) (rest : List ℕ) → parse_book office bytes ≡ parsed b rest
    → longest_book ≤ length out → longest_list ≤ length list → (call_store office bytes out list).refusal ≡ 0
unfolding call_store store_parsed emit_both
room_to_store bytes out list b rest e p q =
    let few = (parsed_formed office bytes b rest e).1 in
    rw (
      e,
      le-leb (length (book_bytes (stored_book b))) (length out) (omega (arith, few, book_stored office office-modest bytes b rest e)),
      le-leb (length (number_bytes (variables_first b))) (length list) (omega (arith, few, list_stored office office-modest bytes b rest e)),
    )

restored_fits : (bytes list out : List ℕ) (b : Book) (rest : List ℕ) → parse_restored office bytes list ≡ parsed b rest
    → longest_book ≤ length out → leb (length (book_bytes b)) (length out) ≡ true
restored_fits bytes list out b rest e p =
    let opens = restored_opens office bytes list b rest e in
    let few = (parsed_formed office (book_bytes b) b [] opens).1 in
    le-leb (length (book_bytes b)) (length out) (omega (arith, few, book_restored office office-modest bytes list b rest e))

room_to_restore : (bytes list out : List ℕ) → longest_book ≤ length out → (call_restore office bytes list out).refusal ≡ 13 → ⊥
unfolding call_restore copy_parsed emit guard refuse accept
room_to_restore bytes list out p z = go (parse_restored office bytes list) refl z
  where
    go : (q : Parsed Book) → parse_restored office bytes list ≡ q → (copy_parsed out q).refusal ≡ 13 → ⊥
    go (parsed b rest) e z = let zero : ◌≡◌ {A = ℕ} 0 13 = rw (restored_fits bytes list out b rest e p) at z in omega arith
    go (unparsed n) e z = rw (e, z) at (restored_not_thirteen office bytes list)

-- the state of a sound area is sound
state-sound : (area : List ℕ) → T (sound office area) → T (sound_state office (state_of area office))
state-sound area h = facts_sound office (state_of area office) (sound_carries office area h).0

pub lengths : Lengths
lengths =
    record {
      book-read = λ lim m bytes b rest h e. (book-read lim m bytes b rest h e).0;
      book-written = book-written;
      report-written = report-written;
      office-book-read = office-book-read;
      office-book = office-book;
      report-at-capacity = report-at-capacity;
      office-report = office-report;
      session-report = session-report;
      room_for_copy = λ book out b rest h e l. copy_room book b rest h e out l;
      room_for_book = λ area out h l. book-room area out h (omega (arith, office-book (state_of area office) (state-sound area h)));
      room-at-capacity = λ area out h l. report-room area out h (omega (arith, report-at-capacity (state_of area office) (state-sound area h)));
      room_for_report = λ area out h l. report-room area out h (omega (arith, office-report (state_of area office) (state-sound area h)));
      room_in_session = λ area out h e l. report-room area out h (omega (arith, session-report (state_of area office) (state-sound area h) e));
      book_stored = book_stored;
      list_stored = list_stored;
      book_restored = book_restored;
      room_to_store = room_to_store;
      room_to_restore = room_to_restore;
      stored_and_back = λ book out list back b rest w e p q.
          let z = room_to_store book out list b rest e p q in
          let s = archive.stores_as_asked office book out list z in
          (z, (_, _, s.numbers, archive.stored_restores office book out list w z _ _ s.numbers back));
    }
