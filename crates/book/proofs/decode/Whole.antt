-- A whole book: the outcomes of decoding it, and what its decoder answers. Assumes nothing.
use Rattle.std.proofs.Common.{◌≡◌, refl, sym, ap, subst, ◌∙◌, List, [], true, false, ℕ, ◌+◌, ◌-◌, ◌<◌, ◌≤◌, add-one, arith, length, drop, replicate, drop_of_length-le, length-drop, drop-cons, Result, Ok, Err, OnOk}
use Rattle.std.proofs.Math.Nat.{sub_self}
use Rattle.std.proofs.Math.ListN.{length-replicate}
use Rattle.model.specs.Limits.{Limits}
use Rattle.model.specs.Lists.{is_empty}
use Rattle.model.specs.Term.{Book}
use Rattle.model.specs.BookBytes.{parsed, unparsed, and_then, need, parse_terms, parse_written, parse_book}
use Rattle.theory.proofs.Book.Written.{none_written, some_written}
use Rattle.refusal.specs.declared.Refusal.{Refusal}
use Rattle.refusal.specs.declared.Refusal.TheVariants.{LeftOver}
use Rattle.refusal.specs.Numbers.{number_of, number, counted}
use Rattle.book.specs.decode.Rows.{book_rows, decoded_refusal, decoded_book}
use Rattle.book.specs.unread.Unread.{or_left, unread_terms, number_of_terms, unread_book, read_to}
use Rattle.book.specs.parse.Below.{parse_below}
use Rattle.book.specs.parse.Parts.{AdvanceOf, BookIn}
use Rattle.book.proofs.decode.Parsing.{then_same, up_to_then}
use Rattle.book.proofs.decode.TermRows.{rows_none}

-- ---- the outcomes

-- whether bytes are left at a position
pub left-none : (bytes : List ℕ) (end : ℕ) → length bytes ≤ end → is_empty (drop end bytes) ≡ true
unfolding is_empty
left-none bytes end h = rw (drop_of_length-le bytes h)

pub left_some : (bytes : List ℕ) (end : ℕ) → end < length bytes → is_empty (drop end bytes) ≡ false
unfolding is_empty
left_some bytes end h = rw (drop-cons bytes end 0 h)

module _ (lim : Limits) (bytes : List ℕ) (some : 0 < length bytes) where
  -- the count, the terms, and what is left
  pub book-parts : parse_book lim bytes ≡ and_then (parse_below (lim.max_terms + 1) 4 bytes) (λ n rest.
      and_then (parse_terms n [] rest) (λ b rest'. need (is_empty rest') 3 (parsed b [])))
  unfolding parse_written
  book-parts = some_written lim bytes some ∙ rw add-one (up_to_then lim.max_terms 4 bytes _)

  count-refused : (k : ℕ) → parse_below (lim.max_terms + 1) 4 bytes ≡ unparsed k → parse_book lim bytes ≡ unparsed k
  unfolding and_then
  count-refused k e = book-parts ∙ rw e

  module _ (n : ℕ) (rest : List ℕ) (e : parse_below (lim.max_terms + 1) 4 bytes ≡ parsed n rest) where
    terms-refused : (k : ℕ) → parse_terms n [] rest ≡ unparsed k → parse_book lim bytes ≡ unparsed k
    unfolding and_then
    terms-refused k d = book-parts ∙ rw (e, d)

    end_refused : (b : Book) (end : ℕ) → parse_terms n [] rest ≡ parsed b (drop end bytes) → end < length bytes
        → parse_book lim bytes ≡ unparsed 3
    unfolding and_then need
    end_refused b end d l = book-parts ∙ rw (e, d, left_some bytes end l)

    book_whole : (b : Book) (end : ℕ) → parse_terms n [] rest ≡ parsed b (drop end bytes) → length bytes ≤ end
        → parse_book lim bytes ≡ parsed b []
    unfolding and_then need
    book_whole b end d l = book-parts ∙ rw (e, d, left-none bytes end l)

-- ---- how far it is read

-- the position at which the bytes that are not read begin
position : (bytes : List ℕ) (at : ℕ) (left : List ℕ) → left ≡ drop at bytes → at ≤ length bytes → at ≡ length bytes - length left
position bytes at left e w = rw (e, length-drop) (omega arith)

module _ (lim : Limits) (bytes : List ℕ) where
  pub count-below : number_of_terms lim bytes ≡ parse_below (lim.max_terms + 1) 4 bytes
  count-below = rw (up_to_then lim.max_terms 4 bytes parsed, then_same, add-one)

  pub book_unread : unread_book lim bytes ≡ or_left (parse_below (lim.max_terms + 1) 4 bytes) bytes (λ n rest. unread_terms n [] rest)
  unfolding unread_book
  book_unread = rw count-below

  -- nothing where the count is refused
  pub read_none : (k : ℕ) → parse_below (lim.max_terms + 1) 4 bytes ≡ unparsed k → 0 ≡ read_to lim bytes
  unfolding read_to or_left
  read_none k e = rw (book_unread, e, sub_self)

  -- and else up to where the terms are read
  pub read_up_to : (n : ℕ) (rest : List ℕ) → parse_below (lim.max_terms + 1) 4 bytes ≡ parsed n rest → (at : ℕ)
      → unread_terms n [] rest ≡ drop at bytes → at ≤ length bytes → at ≡ read_to lim bytes
  unfolding read_to or_left
  read_up_to n rest e at u w = position bytes at (unread_book lim bytes) (book_unread ∙ rw (e, u)) w

-- ---- the decoder's answer

-- rows that are all zero: how many words they have
pub zeros-length : {rows : List ℕ} (size : ℕ) → rows ≡ replicate size 0 → length rows ≡ size
zeros-length size e = ap length e ∙ length-replicate {A = ℕ} size 0

module _ (lim : Limits) (bytes : List ℕ) (size : ℕ) (rows : List ℕ) where
  -- refusal, number of terms and rows
  abbrev Decoded : Result ℕ Refusal → Type 0
  Decoded r = record {
    refusal : number r ≡ decoded_refusal (parse_book lim bytes);
    terms : counted r ≡ length (decoded_book (parse_book lim bytes));
    rows : OnOk r (rows ≡ book_rows size (decoded_book (parse_book lim bytes)));
  }

  refused-answer : (e : Refusal) → parse_book lim bytes ≡ unparsed (number_of e) → Decoded (Err e)
  unfolding decoded_refusal decoded_book
  refused-answer e q = record { refusal = rw q; terms = rw q; rows = tt }

  book-answer : (n : ℕ) (b : Book) → parse_book lim bytes ≡ parsed b [] → BookIn n size rows b → Decoded (Ok n)
  unfolding decoded_refusal decoded_book
  book-answer n b e h = record { refusal = rw e; terms = rw e (sym h.as_many); rows = rw e h.written }

  -- no bytes
  pub no_bytes_lem : length bytes ≡ 0 → rows ≡ replicate size 0 → Decoded (Ok 0)
  no_bytes_lem none zeros = book-answer 0 [] (none_written lim bytes none) (record { as_many = refl; written = zeros ∙ rows_none size })

  -- refused at the count, at a term, and at what is left; and a whole book
  module _ (some : 0 < length bytes) where
    pub refused-count : (e : Refusal) → parse_below (lim.max_terms + 1) 4 bytes ≡ unparsed (number_of e) → Decoded (Err e)
    refused-count e q = refused-answer e (count-refused lim bytes some (number_of e) q)

    module _ (n next : ℕ) (e : parse_below (lim.max_terms + 1) 4 bytes ≡ parsed n (drop next bytes)) {words : ℕ} (long : words ≡ size) where
      -- what the reader of terms promises
      abbrev Answered : Result ℕ Refusal → Type 0
      Answered = AdvanceOf bytes (parse_terms n [] (drop next bytes)) (BookIn n words rows)

      pub refused-terms : (k : Refusal) → Answered (Err k) → Decoded (Err k)
      refused-terms k s = refused-answer k (terms-refused lim bytes some n (drop next bytes) e (number_of k) s)

      pub refused_end : (end : ℕ) → Answered (Ok end) → end < length bytes → Decoded (Err LeftOver)
      refused_end end s l = refused-answer LeftOver (end_refused lim bytes some n (drop next bytes) e s.0 end s.1 l)

      pub whole_book : (end : ℕ) → Answered (Ok end) → length bytes ≤ end → Decoded (Ok n)
      whole_book end s l =
          book-answer n s.0 (book_whole lim bytes some n (drop next bytes) e s.0 end s.1 l) (subst (λ k. BookIn n k rows s.0) long s.3)
