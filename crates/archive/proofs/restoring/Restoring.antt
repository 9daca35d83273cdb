-- Restoring a book by way of its rows, refusal by refusal; the rows moved hold the book that is restored. Assumes nothing.
use Rattle.std.proofs.Common.{◌≡◌, refl, ap, sym, ◌∙◌, List, [], map, Bool, true, false, ℕ, ◌*◌, ◌<◌, arith, length, take, replicate, Result, Ok, Err, IfOk, OnOk, T, ltb, ltb→lt}
use mathlib.Core.Option.{none}
use Rattle.std.proofs.Math.ListN.{length-replicate}
use Rattle.model.specs.Limits.{Limits}
use Rattle.model.specs.Lists.{all, is_empty}
use Rattle.model.specs.Term.{Node, Book, Bindings}
use Rattle.model.specs.Area.{term_words}
use Rattle.model.specs.BookBytes.{Parsed, parsed, unparsed, and_then, need, parse_book, book_bytes}
use Rattle.model.specs.Archive.{restored_book, parse_numbers, all_distinct, parse_list, arguments_lower, restore_by, parse_restored}
use Rattle.theory.specs.Modest.{Modest}
use Rattle.theory.specs.Archive.{EachOnce}
use Rattle.theory.proofs.Lists.Laws.{all-at, true_T}
use Rattle.theory.proofs.Book.Gives.{gives_at, need_gives, and_then-any}
use Rattle.theory.proofs.Book.Round.{parsed_formed}
use Rattle.theory.proofs.Refusals.Deciding.{tells_of}
use Rattle.theory.proofs.Refusals.Archive.{tells_distinct}
use Rattle.theory.proofs.Archive.Moved.{length_moved}
use Rattle.theory.proofs.Archive.Calls.{restored_opens, restored_positive}
use Rattle.refusal.specs.declared.Refusal.{Refusal}
use Rattle.refusal.specs.declared.Refusal.TheVariants.{NotLower, NamedTwice}
use Rattle.refusal.specs.Numbers.{number_of, number}
use Rattle.refusal.proofs.Numbers.{none_is_zero}
use Rattle.layout.specs.limits.Rows.{at, book_of}
use Rattle.book.specs.decode.Rows.{book_rows, decoded_refusal, decoded_book}
use Rattle.book.specs.parse.Parts.{outcome}
use Rattle.book.proofs.decode.Outcome.{outcome_decoded, decoded, not_decoded}
use Rattle.book.proofs.encode.Copied.{Decoded}
use Rattle.archive.specs.declared.restoring.Restored.{Restored}
use Rattle.archive.specs.list.Listed.{parse_named, Inverse}
use Rattle.archive.specs.moving.Moving.{RowsMove, moved_book}
use Rattle.archive.proofs.list.OfKind.{book-long}
use Rattle.archive.proofs.moving.Held.{held_moves, held_restored, places-low}
use Rattle.archive.proofs.storing.Storing.{part_long}

-- ---- the outcome, refusal by refusal

-- a list is one that names terms, none of them twice
list-named : (n : ℕ) (bytes : List ℕ) → parse_list n bytes ≡ and_then (parse_named n bytes) (λ list rest. need (all_distinct list) 14 (parsed list []))
unfolding parse_list parse_named and_then need
list-named n bytes = go (parse_numbers n bytes)
  where
    tests : (list : List ℕ) (t u : Bool) → need t 3 (need u 8 (need (all_distinct list) 14 (parsed list [])))
        ≡ and_then (need t 3 (need u 8 (parsed list []))) (λ list rest. need (all_distinct list) 14 (parsed list []))
    tests list true true = refl
    tests list true false = refl
    tests list false u = refl

    go : (p : Parsed (List ℕ)) → and_then p (λ list rest. need (is_empty rest) 3 (need (all (λ t. ltb t n) list) 8 (need (all_distinct list) 14 (parsed list []))))
        ≡ and_then (and_then p (λ list rest. need (is_empty rest) 3 (need (all (λ t. ltb t n) list) 8 (parsed list []))))
        (λ list rest. need (all_distinct list) 14 (parsed list []))
    go (parsed list rest) = tests list (is_empty rest) (all (λ t. ltb t n) list)
    go (unparsed k) = refl

-- What decoding answers of an outcome: its refusal; or the number of its terms, the length of its bytes, and its rows.
abbrev pub Answered : ℕ → Parsed Book → Result Restored Refusal → List ℕ → Type 0
Answered size p r rows = record {
  refusal : number r ≡ decoded_refusal p;
  terms : IfOk r (λ x. x.terms ≡ length (decoded_book p));
  bytes : IfOk r (λ x. x.bytes ≡ length (book_bytes (decoded_book p)));
  rows : OnOk r (rows ≡ book_rows size (decoded_book p));
}

-- a refusal
answered-refused : (size : ℕ) (p : Parsed Book) (e : Refusal) → p ≡ unparsed (number_of e) → (rows : List ℕ) → Answered size p (Err e) rows
unfolding decoded_refusal
answered-refused size p e q rows = record { refusal = rw q; terms = tt; bytes = tt; rows = tt }

-- The list that was read: it has as many numbers as there are terms, and each names one.
pub record ListRead (n : ℕ) (list listed : List ℕ) : Type 0 where
  pub long : length listed ≡ n
  pub named : parse_named n list ≡ parsed listed []

-- It names none twice, and has an inverse.
pub record Inverted (n : ℕ) (listed places : List ℕ) : Type 0 where
  pub distinct : all_distinct listed ≡ true
  pub long : length places ≡ n
  pub inverse : Inverse n listed places

module _ (lim : Limits) (book list : List ℕ) where
  abbrev restored : Parsed Book
  restored = parse_restored lim book list

  abbrev size : ℕ
  size = term_words * lim.max_terms

  -- THE BOOK is refused.
  pub book-refused : (e : Refusal) → number_of e ≡ decoded_refusal (parse_book lim book) → (rows : List ℕ) → Answered size restored (Err e) rows
  unfolding parse_restored and_then
  book-refused e r =
      answered-refused size restored e
      (ap (λ p. and_then p (λ b rest. restore_by list b)) (not_decoded lim book (λ z. none_is_zero e (r ∙ z))) ∙ ap unparsed (sym r))

  module _ {rows : List ℕ} {n : ℕ} {β : Bindings} (d : Decoded size (parse_book lim book) rows n β) where
    abbrev the_book : Book
    the_book = decoded_book (parse_book lim book)

    -- it is not: then the list counts
    by_list : restored ≡ and_then (parse_list n list) (λ listed rest. need (arguments_lower (restored_book listed the_book)) 5 (parsed (restored_book listed the_book) []))
    unfolding parse_restored restore_by and_then
    by_list =
        ap (λ p. and_then p (λ b rest. restore_by list b)) (decoded lim book d.none-refused).1
        ∙ ap (λ k. and_then (parse_list k list) (λ listed rest. need (arguments_lower (restored_book listed the_book)) 5 (parsed (restored_book listed the_book) []))) (sym d.held.as_many)

    module _ (lent : List ℕ) (room : length lent ≡ lim.max_terms) where
      -- THE LIST is refused by 1, 2, 3 or 8.
      pub list-refused : (e : Refusal) (listed : List ℕ) → outcome {A = Unit {0}} (Err e) [] listed ≡ parse_named (length (take n lent)) list → (rows : List ℕ)
          → Answered size restored (Err e) rows
      unfolding outcome and_then
      list-refused e listed q = answered-refused size restored e (by_list ∙ rw (list-named n list, ← part_long lim book d lent room, ← q))

      -- It names terms.
      pub list_read : (listed : List ℕ) → length listed ≡ length (take n lent) → (u : Unit {0})
          → outcome (Ok u) [] listed ≡ parse_named (length (take n lent)) list → ListRead n list listed
      unfolding outcome
      list_read listed as_lent u named = record { long = as_lent ∙ part_long lim book d lent room; named = rw (part_long lim book d lent room) at (sym named) }

    module _ {listed : List ℕ} (r : ListRead n list listed) where
      all_named : T (all (λ t. ltb t n) listed)
      unfolding parse_named
      all_named =
          gives_at (λ xs rest. T (all (λ t. ltb t n) xs)) (parse_named n list) listed []
          (and_then-any _ (parse_numbers n list) _ λ xs rest.
          need_gives _ (is_empty rest) 3 _ λ a.
          need_gives _ (all (λ t. ltb t n) xs) 8 (parsed xs []) λ h. h) r.named

      low : (i : ℕ) → i < n → at listed i < n
      low i l = ltb→lt _ n (all-at (λ t. ltb t n) listed 0 all_named i (rw r.long l))

      pub named-low : (i : ℕ) → i < length listed → at listed i < length listed
      named-low = rw r.long low

      -- A TERM TWICE.
      pub list_twice : all_distinct listed ≡ false → (rows : List ℕ) → Answered size restored (Err NamedTwice) rows
      unfolding and_then need
      list_twice e = answered-refused size restored NamedTwice (by_list ∙ rw (list-named n list, r.named, e))

      -- Each term once.
      pub inverted : (lent places : List ℕ) → length lent ≡ lim.max_terms → length places ≡ length (take n lent) → all_distinct listed ≡ true
          → Inverse (length listed) listed places → Inverted n listed places
      inverted lent places room as_lent e v = record { distinct = e; long = as_lent ∙ part_long lim book d lent room; inverse = rw r.long at v }

      module _ {places : List ℕ} (v : Inverted n listed places) where
        once : EachOnce n listed
        once = record { as_many = r.long; terms = low; once = tells_of (tells_distinct listed) (true_T _ v.distinct) }

        pub lists_moved : RowsMove rows (length places) places listed
        lists_moved =
            rw v.long (held_moves d.held places listed (omega (arith, v.long)) (omega (arith, r.long)) (places-low d.held listed places once v.inverse))

        by_rule : restored ≡ need (arguments_lower (moved_book rows (length places) places listed)) 5 (parsed (moved_book rows (length places) places listed) [])
        unfolding and_then need restored_book
        by_rule = by_list ∙ rw (list-named n list, r.named, v.distinct, v.long, held_restored d.held listed places once v.inverse)

        -- RULE 5 does not hold.
        pub not_lower : arguments_lower (moved_book rows (length places) places listed) ≡ false → (rows : List ℕ) → Answered size restored (Err NotLower) rows
        unfolding need
        not_lower f = answered-refused size restored NotLower (by_rule ∙ rw f)

        -- It holds.
        pub all_restored : arguments_lower (moved_book rows (length places) places listed) ≡ true → (moved₀ moved' : List ℕ) → moved₀ ≡ replicate size 0
            → moved' ≡ book_rows (length moved₀) (moved_book rows (length places) places listed) → (bytes : ℕ)
            → bytes ≡ length (book_bytes (moved_book rows (length places) places listed)) → Answered size restored (Ok (record { terms = n; bytes = bytes })) moved'
        unfolding need decoded_refusal decoded_book moved_book
        all_restored f moved₀ moved' blank w bytes b =
            let words : length moved₀ ≡ size = rw (blank, length-replicate) in
            let whole : restored ≡ parsed (moved_book rows (length places) places listed) [] = by_rule ∙ rw f in
            let terms : length (moved_book rows (length places) places listed) ≡ length places =
            length_moved (at places) (at listed) (book_of rows (length places)) ∙ book-long rows (length places) in
            record {
              refusal = rw whole;
              terms = rw whole (sym (terms ∙ v.long));
              bytes = rw whole b;
              rows = rw whole (w ∙ ap (λ k. book_rows k (moved_book rows (length places) places listed)) words);
            }

-- ---- the book that is restored

-- its rows hold a book that opens
pub restored_decoded : (lim : Limits) → Modest lim → (book list rows : List ℕ) (terms : ℕ) → let p = parse_restored lim book list in
    decoded_refusal p ≡ 0 → terms ≡ length (decoded_book p) → rows ≡ book_rows (term_words * lim.max_terms) (decoded_book p)
    → Decoded (term_words * lim.max_terms) p rows terms (map (λ (x : Node). none) (decoded_book p))
restored_decoded lim m book list rows terms z e w =
    let q = outcome_decoded _ (restored_positive lim book list) z in
    let f = parsed_formed lim _ _ [] (restored_opens lim book list _ q.0 q.1) in
    record {
      none-refused = z;
      held = record { formed = f.0; few = omega (arith, f.1, m.terms); room = omega (arith, f.1); as_many = e; written = w };
    }
