-- The terms of rows as numbers and bytes: a row's numbers are its first words, the first terms of a book are followed by
-- the others, and what rows that can be encoded give. Assumes nothing.
use Rattle.std.proofs.Common.{◌≡◌, refl, List, [], ◌∷◌, ◌++◌, append-nil, map, ℕ, suc, ◌+◌, ◌*◌, ◌-◌, ◌≤◌, ◌<◌, zero-add, add-one, arith, eq-eqb, ne_eqb, length, get_or, take, drop, length-append, length-drop, drop-cons, length-take-le, T, leb, leb→le}
use mathlib.Core.List.{map-append}
use Rattle.std.proofs.Math.ListN.{length-map}
use Rattle.leb128.specs.Number.{max_groups, max_number, write}
use Rattle.model.specs.Limits.{max_arity}
use Rattle.model.specs.Lists.{all, from, concat_map}
use Rattle.model.specs.Area.{term_words}
use Rattle.model.specs.Report.{number_bytes}
use Rattle.model.specs.BookBytes.{node_numbers, book_bytes}
use Rattle.theory.proofs.Lists.Laws.{concat_map-append, all-at, length_from, get_or-from, from-append}
use Rattle.theory.proofs.Lists.Conjunctions.{and₄}
use Rattle.layout.specs.limits.Rows.{node_of, book_of}
use Rattle.runs.specs.Runs.{small_words}
use Rattle.book.specs.encode.Encoding.{encodable, RowFits, term_bytes, terms_bytes}
use Rattle.runs.proofs.Numbers.{numbers-append, numbers-first}

-- ---- a row's numbers

-- the first two words and those behind them
two_first : (rows : List ℕ) (i n : ℕ) → i + 2 ≤ length rows
    → take (2 + n) (drop i rows) ≡ get_or rows i 0 ∷ get_or rows (i + 1) 0 ∷ take n (drop (i + 2) rows)
two_first rows i n h =
    let e : 2 + n ≡ suc (suc n) = omega arith in
    let f : i + 2 ≡ suc (suc i) = omega arith in
    rw (e, f, add-one, drop-cons rows i 0 (omega arith), drop-cons rows (suc i) 0 (omega arith))

module _ (rows : List ℕ) (t : ℕ) (fits : RowFits rows t) where
  -- a variable's row is one number
  pub row-variable : get_or rows (term_words * t) 0 ≡ 0 → node_numbers (node_of rows t) ≡ take 1 (drop (term_words * t) rows)
  unfolding node_of node_numbers
  row-variable e = rw (eq-eqb (get_or rows (term_words * t) 0) 0 e, drop-cons rows (term_words * t) 0 (omega arith), e)

  -- any other row is two numbers and its arguments
  pub row-applied : (get_or rows (term_words * t) 0 ≡ 0 → ⊥)
      → node_numbers (node_of rows t) ≡ take (2 + get_or rows (term_words * t + 1) 0) (drop (term_words * t) rows)
  unfolding node_of node_numbers
  row-applied e =
      let i : ℕ = term_words * t in
      let n : ℕ = get_or rows (i + 1) 0 in
      let symbol : suc (get_or rows i 0 - 1) ≡ get_or rows i 0 = omega arith in
      let count : length (take n (drop (i + 2) rows)) ≡ n = length-take-le n (drop (i + 2) rows) (rw length-drop (omega arith)) in
      rw (ne_eqb (get_or rows i 0) 0 e, two_first rows i n (omega arith), symbol, count)

-- ---- the first terms of a book

module _ (rows : List ℕ) where
  -- no term
  pub terms-none : terms_bytes rows 0 ≡ []
  unfolding terms_bytes book_of from concat_map number_bytes
  terms-none = refl

  -- k terms more
  terms-append : (t k : ℕ) → terms_bytes rows (t + k) ≡ terms_bytes rows t ++ number_bytes (concat_map node_numbers (map (node_of rows) (from t k)))
  unfolding terms_bytes book_of
  terms-append t k = rw (from-append 0 t k, zero-add, map-append, concat_map-append, numbers-append)

  -- one term more
  pub terms-more : (t : ℕ) → terms_bytes rows (t + 1) ≡ terms_bytes rows t ++ term_bytes rows t
  unfolding term_bytes from concat_map
  terms-more t = rw (terms-append t 1, append-nil)

  pub length-terms-more : (t : ℕ) → length (terms_bytes rows (t + 1)) ≡ length (terms_bytes rows t) + length (term_bytes rows t)
  length-terms-more t = rw (terms-more t, length-append)

  -- more terms take no fewer bytes
  pub terms_grow : (t n : ℕ) → t ≤ n → length (terms_bytes rows t) ≤ length (terms_bytes rows n)
  terms_grow t n h =
      let e : n ≡ t + (n - t) = omega arith in
      rw (e, terms-append t (n - t), length-append) (omega arith)

  -- a book is the number of its terms, and the terms
  pub book-terms : (n : ℕ) → book_bytes (book_of rows n) ≡ write max_groups n ++ terms_bytes rows n
  unfolding terms_bytes book_bytes book_of
  book-terms n = rw (length-map, length_from, numbers-first)

-- ---- what rows that can be encoded give

module _ (rows : List ℕ) (n : ℕ) (h : T (encodable rows n)) where
  -- its four tests
  tests : T (leb (term_words * n) (length rows)) × T (leb n max_number) × T (all (λ t. leb (get_or rows (term_words * t + 1) 0) max_arity) (from 0 n)) × small_words rows
  unfolding encodable small_words
  tests =
      (and₄ (leb (term_words * n) (length rows)) (leb n max_number) (all (λ t. leb (get_or rows (term_words * t + 1) 0) max_arity) (from 0 n))
      (all (λ w. leb w max_number) rows)).0 h

  pub encodable-terms : n ≤ max_number
  encodable-terms = leb→le n max_number tests.1

  pub encodable-small : small_words rows
  encodable-small = tests.3

  pub encodable-row : (t : ℕ) → t < n → RowFits rows t
  encodable-row t l =
      let few = all-at (λ t. leb (get_or rows (term_words * t + 1) 0) max_arity) (from 0 n) 0 tests.2 t (rw length_from l) in
      record {
        within = omega (arith, leb→le (term_words * n) (length rows) tests.0);
        few = leb→le (get_or rows (term_words * t + 1) 0) max_arity (rw (get_or-from 0 n t 0 l, zero-add) at few);
      }
