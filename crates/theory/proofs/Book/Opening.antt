-- Opening that answers no refusal: the book was parsed, and the area carries the state of a book just opened. Assumes nothing.
use mathlib.Core.Path.{◌≡◌, refl}
use mathlib.Core.List.{List, [], ◌∷◌, ◌++◌}
use mathlib.Core.Bool.{Bool, true, false, not, ◌&&◌}
use Prim.Native.Nat.{ℕ, zero, suc}
use native.Mathlib.Omega.{arith}
use lib.ListN.{length}
use lib.Dec.{T, eqb, ltb, leb, leb→le}
use borrow.Author.Tests.{leb-true, le-leb, ne_eqb}
use Rattle.leb128.specs.Number.{max_groups, max_number, Read, number, cut, invalid, read}
use Rattle.model.specs.Limits.{Limits, max_arity, max_symbol}
use Rattle.model.specs.Lists.{is_empty}
use Rattle.model.specs.Term.{Book}
use Rattle.model.specs.Step.{opened}
use Rattle.model.specs.BookBytes.{Parsed, parsed, unparsed, and_then, need, from_read, parse_number, parse_arguments, parse_app, parse_node, parse_terms, parse_written, parse_book, as_written}
use Rattle.model.specs.Area.{area_length}
use Rattle.model.specs.Call.{refuse, accept, guard, open_parsed, call_open}
use Rattle.theory.specs.EmptyBook.{Openable}
use Rattle.theory.proofs.Lists.Laws.{and_left, and_right, true_T}
use Rattle.theory.proofs.Soundness.Facts.{SoundFacts}
use Rattle.theory.proofs.Area.Bytes.{over_carries}
use Rattle.theory.proofs.Book.Written.{as_written_lem}
use Rattle.theory.proofs.Book.Round.{opened-sound}
use Rattle.theory.proofs.Runs.Simulation.{Lives}

-- a refusal is by a number that passes
abbrev pub RefusedBy : {A : Type 0} → (ℕ → Bool) → Parsed A → Type 0
RefusedBy q (parsed a rest) = Unit {0}
RefusedBy q (unparsed n) = T (q n)

-- a test and a sequence keep this
module _ (q : ℕ → Bool) where
  pub need-refused : {A : Type 0} (t : Bool) (n : ℕ) (p : Parsed A) → T (q n) → RefusedBy q p → RefusedBy q (need t n p)
  unfolding need
  need-refused true n p h g = g
  need-refused false n p h g = h

  pub then-refused : {A B : Type 0} (p : Parsed A) (f : A → List ℕ → Parsed B) → RefusedBy q p
      → ((a : A) (rest : List ℕ) → RefusedBy q (f a rest)) → RefusedBy q (and_then p f)
  unfolding and_then
  then-refused (parsed a rest) f h g = g a rest
  then-refused (unparsed n) f h g = h

-- a number that passes one test passes another
pub refused_too : {A : Type 0} (q r : ℕ → Bool) → ((n : ℕ) → T (q n) → T (r n)) → (p : Parsed A) → RefusedBy q p → RefusedBy r p
refused_too q r h (parsed a rest) g = tt
refused_too q r h (unparsed n) g = h n g

-- A book's refusals are 1 to 5.
abbrev pub of_book : ℕ → Bool
of_book n = leb 1 n && leb n 5

-- a number read
read-refused : (r : Read) → RefusedBy of_book (from_read r)
unfolding from_read
read-refused (number n rest) = tt
read-refused cut = tt
read-refused invalid = tt

pub number-refused : (bytes : List ℕ) → RefusedBy of_book (parse_number bytes)
unfolding parse_number
number-refused bytes = read-refused (read max_groups max_number bytes)

-- so do the parsers, up to the whole book's
arguments-refused : (t c : ℕ) (bytes : List ℕ) → RefusedBy of_book (parse_arguments t c bytes)
unfolding parse_arguments
arguments-refused t zero bytes = tt
arguments-refused t (suc c) bytes =
    then-refused of_book (parse_number bytes) _ (number-refused bytes)
    (λ a rest. need-refused of_book (ltb a t) 5 _ tt (then-refused of_book (parse_arguments t c rest) _ (arguments-refused t c rest) (λ args rest'. tt)))

pub node-refused : (t tag : ℕ) (bytes : List ℕ) → RefusedBy of_book (parse_node t tag bytes)
unfolding parse_node parse_app
node-refused t zero bytes = tt
node-refused t (suc s) bytes =
    need-refused of_book (leb s max_symbol) 4 _ tt
    (then-refused of_book (parse_number bytes) _ (number-refused bytes)
    (λ c rest. need-refused of_book (leb c max_arity) 4 _ tt
    (then-refused of_book (parse_arguments t c rest) _ (arguments-refused t c rest) (λ args rest'. tt))))

terms-refused : (k : ℕ) (before : Book) (bytes : List ℕ) → RefusedBy of_book (parse_terms k before bytes)
unfolding parse_terms
terms-refused zero before bytes = tt
terms-refused (suc k) before bytes =
    then-refused of_book (parse_number bytes) _ (number-refused bytes)
    (λ tag rest. then-refused of_book (parse_node (length before) tag rest) _ (node-refused (length before) tag rest) (λ n rest'. terms-refused k (before ++ n ∷ []) rest'))

pub book-refused : (lim : Limits) (bytes : List ℕ) → RefusedBy of_book (parse_book lim bytes)
unfolding parse_written
book-refused lim bytes =
    rw (as_written_lem lim bytes)
    (then-refused of_book (parse_number (as_written bytes)) _ (number-refused (as_written bytes))
    (λ n rest. need-refused of_book (leb n lim.max_terms) 4 _ tt
    (then-refused of_book (parse_terms n [] rest) _ (terms-refused n [] rest) (λ b rest'. need-refused of_book (is_empty rest') 3 _ tt tt))))

-- so they are not 0
abbrev pub Positive : {A : Type 0} → Parsed A → Type 0
Positive p = RefusedBy (λ n. not (eqb n 0)) p

pub book_positive : (lim : Limits) (bytes : List ℕ) → Positive (parse_book lim bytes)
book_positive lim bytes =
    refused_too of_book (λ n. not (eqb n 0))
    (λ n h. rw (ne_eqb n 0 (λ e. omega (arith, leb→le 1 n (and_left (leb 1 n) (leb n 5) h)))) tt) (parse_book lim bytes) (book-refused lim bytes)

-- opening at a capacity in its range, on an area that is long enough, is decided by the book
pub opens_by_book : (lim : Limits) (capacity : ℕ) (book area : List ℕ) → Openable lim capacity area
    → call_open lim capacity book area ≡ open_parsed lim capacity area (parse_book lim book)
unfolding call_open guard
opens_by_book lim capacity book area (low, high, long) =
    rw (le-leb 1 capacity low, le-leb capacity lim.max_capacity high, le-leb (area_length lim capacity) (length area) long)

-- The book of the bytes, and its state on the area.
pub record Opens (lim : Limits) (capacity : ℕ) (book area : List ℕ) : Type 0 where
  pub terms : Book
  pub rest : List ℕ
  pub parses : parse_book lim book ≡ parsed terms rest
  pub lives : Lives lim (opened terms capacity) area

-- opening by the outcomes of its tests and of the parser
opens_at : (lim : Limits) (capacity : ℕ) (book area : List ℕ) (t u : Bool) (p : Parsed Book)
    → leb 1 capacity && leb capacity lim.max_capacity ≡ t → leb (area_length lim capacity) (length area) ≡ u → parse_book lim book ≡ p
    → (guard t (refuse 0 4 area []) (guard u (refuse 0 7 area []) (open_parsed lim capacity area p))).refusal ≡ 0
    → Opens lim capacity book (guard t (refuse 0 4 area []) (guard u (refuse 0 7 area []) (open_parsed lim capacity area p))).area
unfolding guard refuse accept open_parsed opened
opens_at lim capacity book area false u p e g h z = absurd (omega arith)
opens_at lim capacity book area true false p e g h z = absurd (omega arith)
opens_at lim capacity book area true true (unparsed n) e g h z = absurd (rw (h, z) at (book-refused lim book))
opens_at lim capacity book area true true (parsed b rest) e g h z =
    let c : T (leb 1 capacity && leb capacity lim.max_capacity) = true_T _ e in
    let f : SoundFacts lim (opened b capacity) =
    opened-sound lim book b rest capacity (leb→le 1 capacity (and_left (leb 1 capacity) _ c))
    (leb→le capacity lim.max_capacity (and_right (leb 1 capacity) _ c)) h in
    record {
      terms = b;
      rest = rest;
      parses = h;
      lives = record { facts = f; carries = over_carries lim (opened b capacity) area f (leb-true (area_length lim capacity) (length area) g) };
    }

-- opening that answers 0
pub opens : (lim : Limits) (capacity : ℕ) (book area : List ℕ) → (call_open lim capacity book area).refusal ≡ 0
    → Opens lim capacity book (call_open lim capacity book area).area
unfolding call_open
opens lim capacity book area z =
    opens_at lim capacity book area (leb 1 capacity && leb capacity lim.max_capacity) (leb (area_length lim capacity) (length area))
    (parse_book lim book) refl refl refl z
