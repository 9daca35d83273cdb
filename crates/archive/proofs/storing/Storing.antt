-- Storing a book by way of its rows: the rows hold what is stored, and what is written of them is the outcome of the call. Assumes nothing.
use Rattle.std.proofs.Common.{◌≡◌, refl, ap, ap₂, sym, ◌∙◌, List, [], map, Bool, true, false, true≢false, ℕ, ◌*◌, ◌≤◌, ◌<◌, arith, length, get_or, take, replicate, length-take-le, Result, Ok, Err, MatchResult, OnOk, IsOk, le→leb}
use mathlib.Core.Option.{none}
use Rattle.std.proofs.Math.ListN.{length-replicate}
use Rattle.leb128.specs.Number.{max_number}
use Rattle.model.specs.Limits.{Limits}
use Rattle.model.specs.Term.{Node, Book, Bindings}
use Rattle.model.specs.Area.{term_words}
use Rattle.model.specs.Report.{number_bytes}
use Rattle.model.specs.BookBytes.{parse_book, book_bytes}
use Rattle.model.specs.Archive.{variables_first, new_number, old_number, stored_book, moved, all_distinct, not_stored, emit_both, store_parsed, call_store}
use Rattle.theory.specs.Modest.{Modest}
use Rattle.theory.specs.Archive.{EachOnce}
use Rattle.theory.proofs.Lists.Laws.{all_intro}
use Rattle.theory.proofs.Refusals.Deciding.{told}
use Rattle.theory.proofs.Refusals.Archive.{tells_distinct}
use Rattle.theory.proofs.Book.Round.{parsed_formed}
use Rattle.theory.proofs.Archive.Moved.{length_moved}
use Rattle.theory.proofs.Archive.VariablesFirst.{in_order}
use Rattle.theory.proofs.Archive.Formed.{stored_opens}
use Rattle.refusal.specs.declared.Refusal.{Refusal}
use Rattle.refusal.specs.declared.Refusal.TheVariants.{NamedTwice}
use Rattle.refusal.specs.Numbers.{number_of}
use Rattle.refusal.proofs.Numbers.{none_is_zero}
use Rattle.layout.specs.limits.Rows.{at, book_of}
use Rattle.runs.specs.Runs.{small_words}
use Rattle.runs.specs.Emits.{WritesBoth}
use Rattle.book.specs.decode.Rows.{book_rows, decoded_refusal, decoded_book}
use Rattle.book.proofs.decode.Whole.{zeros-length}
use Rattle.book.proofs.decode.Outcome.{decoded, not_decoded}
use Rattle.book.proofs.encode.BookHeld.{BookHeld, held-book}
use Rattle.book.proofs.encode.Copied.{Decoded, decoded_few}
use Rattle.archive.specs.list.Listed.{Inverse}
use Rattle.archive.specs.storing.Lent.{Lent}
use Rattle.archive.specs.moving.Moving.{RowsMove, moved_book}
use Rattle.archive.proofs.moving.Held.{held_moves, held_stored}
use Rattle.archive.proofs.storing.Both.{writes_both}

-- What is lent has its lengths.
module _ {lim : Limits} {rows listed places moved : List ℕ} (l : Lent lim rows listed places moved) where
  pub listed-room : length listed ≡ lim.max_terms
  listed-room = zeros-length lim.max_terms l.listed_zero

  pub places-room : length places ≡ lim.max_terms
  places-room = zeros-length lim.max_terms l.places_zero

  pub moved-room : length moved ≡ term_words * lim.max_terms
  moved-room = zeros-length (term_words * lim.max_terms) l.moved_zero

  pub moved-blank : moved ≡ replicate (length moved) 0
  moved-blank = l.moved_zero ∙ ap (λ k. replicate k 0) (sym moved-room)

-- a book that is refused
pub store_refused : (lim : Limits) (book out list : List ℕ) (e : Refusal) → number_of e ≡ decoded_refusal (parse_book lim book)
    → WritesBoth (call_store lim book out list) (number_of e) 0 0 out list
unfolding call_store store_parsed not_stored
store_refused lim book out list e q =
    rw q (writes_both (ap (store_parsed out list) (not_decoded lim book (λ z. none_is_zero e (q ∙ z)))) (refl, (refl, (refl, refl))))

-- What is lent has room for as many numbers as a book that was decoded has terms.
module _ (lim : Limits) (book : List ℕ) {rows : List ℕ} {n : ℕ} {β : Bindings}
    (d : Decoded (term_words * lim.max_terms) (parse_book lim book) rows n β) (lent : List ℕ) (room : length lent ≡ lim.max_terms) where
  pub part_fits : n ≤ length lent
  part_fits = omega (arith, decoded_few lim book d)

  pub part_long : length (take n lent) ≡ n
  part_long = length-take-le n lent part_fits

-- A book that was decoded, and its list.
module _ (lim : Limits) (book : List ℕ) {rows : List ℕ} {n : ℕ} {β : Bindings}
    (d : Decoded (term_words * lim.max_terms) (parse_book lim book) rows n β) (modest : Modest lim) where
  abbrev the_book : Book
  the_book = decoded_book (parse_book lim book)

  abbrev size : ℕ
  size = term_words * lim.max_terms

  module _ (listed₀ listed : List ℕ) (room : length listed₀ ≡ lim.max_terms) (e : listed ≡ variables_first (book_of rows (length (take n listed₀)))) where
    abbrev list : List ℕ
    list = variables_first the_book

    first-once : EachOnce (length the_book) list
    first-once = (in_order the_book).each_once

    front : listed ≡ list
    front = e ∙ ap (λ k. variables_first (book_of rows k)) (part_long lim book d listed₀ room) ∙ ap variables_first (held-book d.held)

    once : EachOnce n listed
    once = rw (front, d.held.as_many) first-once

    pub long : length listed ≡ n
    long = once.as_many

    pub listed-low : (i : ℕ) → i < length listed → at listed i < length listed
    listed-low = rw long once.terms

    pub distinct : all_distinct listed ≡ true
    distinct = told (tells_distinct listed) once.once

    pub small-list : small_words listed
    unfolding small_words
    small-list =
        all_intro _ listed 0 (λ i l.
        le→leb (get_or listed i 0) max_number (omega (arith, listed-low i l, long, decoded_few lim book d, modest.terms)))

    module _ (places₀ places : List ℕ) (space : length places₀ ≡ lim.max_terms) (as_lent : length places ≡ length (take n places₀)) where
      pub lists_moved : RowsMove rows (length listed) listed places
      lists_moved =
          rw long (held_moves d.held listed places (omega (arith, long)) (omega (arith, as_lent, part_long lim book d places₀ space)) once.terms)

      module _ (v : Inverse (length listed) listed places) (moved₀ moved' : List ℕ) (blank : moved₀ ≡ replicate size 0)
          (w : moved' ≡ book_rows (length moved₀) (moved_book rows (length listed) listed places)) where
        same : moved_book rows (length listed) listed places ≡ stored_book the_book
        unfolding stored_book
        same =
            let inverse : Inverse n listed places = rw long at v in
            rw long (held_stored d.held listed places once inverse) ∙ ap (λ l. moved (old_number l) (new_number l) the_book) front

        -- the rows hold the stored book
        pub stored_held : BookHeld size moved' (length listed) (stored_book the_book) (map (λ (x : Node). none) (stored_book the_book))
        unfolding stored_book
        stored_held =
            let p = decoded lim book d.none-refused in
            let words : length moved₀ ≡ size = rw (blank, length-replicate) in
            let terms : length (stored_book the_book) ≡ length the_book = length_moved (old_number list) (new_number list) the_book in
            let f = parsed_formed lim _ (stored_book the_book) [] (stored_opens lim book the_book p.0 p.1) in
            record {
              formed = f.0;
              few = omega (arith, f.1, modest.terms);
              room = omega (arith, f.1);
              as_many = long ∙ d.held.as_many ∙ sym terms;
              written = w ∙ ap₂ book_rows words same;
            }

        -- of so many bytes
        pub stored_bytes_lem : {bytes : ℕ} → bytes ≡ length (book_bytes (moved_book rows (length listed) listed places))
            → bytes ≡ length (book_bytes (book_of moved' (length listed)))
        stored_bytes_lem e = e ∙ ap (λ b. length (book_bytes b)) (same ∙ sym (held-book stored_held))

        -- and what is written of them is stored
        pub stored_written : (out buffer : List ℕ) {refusal written listWritten : ℕ} {out' buffer' : List ℕ}
            → WritesBoth (emit_both (book_bytes (book_of moved' (length listed))) (number_bytes listed) out buffer) refusal written listWritten out' buffer'
            → WritesBoth (call_store lim book out buffer) refusal written listWritten out' buffer'
        unfolding call_store store_parsed
        stored_written out buffer h =
            writes_both (ap (store_parsed out buffer) (decoded lim book d.none-refused).1) (rw (← held-book stored_held, ← front) h)

-- The list names no term twice, so it has an inverse.
pub inverted : {P : Type 0} (r : Result (Unit {0}) Refusal) (t : Bool) → t ≡ true
    → MatchResult r (λ _. t ≡ true) (λ e. (t ≡ false) × (e ≡ NamedTwice)) → OnOk r P → IsOk r × P
inverted (Ok u) t e m p = (refl, p)
inverted (Err x) t e m p = absurd (true≢false (sym e ∙ m.0))
