-- The terms of a book, one after the other: what holds after t of them (`Read`), at first, after one more, at a refusal and
-- at the end. Assumes nothing.
use Rattle.std.proofs.Common.{◌≡◌, refl, sym, ap, ◌∙◌, List, [], ◌∷◌, ◌++◌, ℕ, suc, ◌+◌, ◌*◌, ◌-◌, ◌<◌, ◌≤◌, arith, length, drop, replicate, length-append, Result, Ok, Err}
use Rattle.std.proofs.Math.Nat.{sub-zero}
use Rattle.model.specs.Lists.{concat_map}
use Rattle.model.specs.Term.{Node, Book}
use Rattle.model.specs.Area.{term_words, node_words}
use Rattle.model.specs.BookBytes.{Parsed, unparsed, and_then, parse_number, parse_node, parse_terms}
use Rattle.refusal.specs.declared.Refusal.{Refusal}
use Rattle.refusal.specs.Numbers.{number_of}
use Rattle.book.specs.decode.Rows.{book_rows}
use Rattle.book.specs.unread.Unread.{or_left, unread_terms}
use Rattle.book.specs.parse.Parts.{AdvanceOf, TermIn, BookIn}
use Rattle.book.proofs.decode.Parsing.{then-then}
use Rattle.book.proofs.decode.TermRows.{rows_none, rows_more, length_more}

-- after t terms the next one is at `next`
pub record Read (bytes : List ℕ) (at count size : ℕ) (rows : List ℕ) (next t : ℕ) : Type 0 where
  pub book : Book
  pub as_many : length book ≡ t
  pub most : t ≤ count
  pub within : next ≤ length bytes
  pub wide : length (concat_map node_words book) ≡ term_words * length book
  pub written : rows ≡ book_rows size book
  pub parse : parse_terms count [] (drop at bytes) ≡ parse_terms (count - t) book (drop next bytes)
  pub unread : unread_terms count [] (drop at bytes) ≡ unread_terms (count - t) book (drop next bytes)

module _ (bytes : List ℕ) (at count size : ℕ) where
  pub read_none : (rows : List ℕ) → at ≤ length bytes → rows ≡ replicate size 0 → Read bytes at count size rows at 0
  unfolding concat_map
  read_none rows w e = record {
    book = [];
    as_many = refl;
    most = omega arith;
    within = w;
    wide = refl;
    written = e ∙ rows_none size;
    parse = rw sub-zero;
    unread = rw sub-zero;
  }

  module _ (rows : List ℕ) (next t : ℕ) (r : Read bytes at count size rows next t) (l : t < count) where
    -- the next term, and those behind it
    abbrev Term : Parsed Node
    Term = and_then (parse_number (drop next bytes)) (parse_node t)

    next-parsed : parse_terms count [] (drop at bytes) ≡ and_then Term (λ x rest. parse_terms (count - (t + 1)) (r.book ++ x ∷ []) rest)
    unfolding parse_terms
    next-parsed =
        let left : count - t ≡ suc (count - (t + 1)) = omega arith in
        r.parse ∙ rw (left, ← r.as_many)
        (sym (then-then (parse_number (drop next bytes)) (parse_node (length r.book)) (λ x rest. parse_terms (count - (length r.book + 1)) (r.book ++ x ∷ []) rest)))

    next_unread : unread_terms count [] (drop at bytes) ≡ or_left Term (drop next bytes) (λ x rest. unread_terms (count - (t + 1)) (r.book ++ x ∷ []) rest)
    unfolding unread_terms
    next_unread =
        let left : count - t ≡ suc (count - (t + 1)) = omega arith in
        r.unread ∙ rw (left, ← r.as_many)

    module _ (rows' : List ℕ) where
      -- what the reader of a term promises
      abbrev Answered : Result ℕ Refusal → Type 0
      Answered = AdvanceOf bytes Term (TermIn t rows rows')

      pub read_more : (after : ℕ) → term_words * count ≤ size → Answered (Ok after) → Read bytes at count size rows' after (t + 1)
      unfolding and_then or_left
      read_more after m s =
          let x = s.0 in
          let term = s.3 in
          record {
            book = r.book ++ x ∷ [];
            as_many = length-append r.book (x ∷ []) ∙ ap (λ (n : ℕ). n + 1) r.as_many;
            most = omega arith;
            within = s.2;
            wide = length_more r.book x term.few r.wide;
            written = term.written ∙ rw (r.written, ← r.as_many) (rows_more r.book x term.few size r.wide (omega (arith, r.as_many)));
            parse = next-parsed ∙ rw s.1;
            unread = next_unread ∙ rw s.1;
          }

      -- at a refusal the outcome is that refusal, and the term that is refused is not read
      pub read-refused : (e : Refusal) → Answered (Err e) → parse_terms count [] (drop at bytes) ≡ unparsed (number_of e)
      unfolding and_then
      read-refused e s = next-parsed ∙ rw s

      pub unread_refused : (e : Refusal) → Answered (Err e) → (unread_terms count [] (drop at bytes) ≡ drop next bytes) × (next ≤ length bytes)
      unfolding or_left
      unread_refused e s = (next_unread ∙ rw s, r.within)

  module _ (rows : List ℕ) (next t : ℕ) (r : Read bytes at count size rows next t) (l : count ≤ t) where
    pub read_all : AdvanceOf bytes (parse_terms count [] (drop at bytes)) (BookIn count size rows) (Ok next)
    unfolding parse_terms
    read_all =
        let left : count - t ≡ 0 = omega arith in
        let whole : t ≡ count = omega arith in
        (r.book, r.parse ∙ rw left, r.within, record { as_many = r.as_many ∙ whole; written = r.written })

    pub unread_all : (unread_terms count [] (drop at bytes) ≡ drop next bytes) × (next ≤ length bytes)
    unfolding unread_terms
    unread_all =
        let left : count - t ≡ 0 = omega arith in
        (r.unread ∙ rw left, r.within)
