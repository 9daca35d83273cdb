-- The rows of a book whose terms obey the rules hold that book and can be encoded, and its bytes are few. Assumes nothing.
use Rattle.std.proofs.Common.{◌≡◌, refl, sym, ap, ap₂, ◌∙◌, List, [], ◌∷◌, ◌++◌, append_assoc, ℕ, suc, ◌+◌, ◌*◌, ◌-◌, ◌≤◌, ◌<◌, zero-le, suc-le-suc, add-zero, zero-add, arith, ne_eqb, length, get_or, drop, replicate, length-append, take-append-drop, take_at, get_or-drop, drop-drop, T, leb, le→leb}
use Rattle.leb128.specs.Number.{max_groups, max_number}
use Rattle.model.specs.Limits.{max_arity}
use Rattle.model.specs.Lists.{all, from, concat_map, padded}
use Rattle.model.specs.Term.{Node, var, app, arguments, Book, Bindings}
use Rattle.model.specs.Area.{term_words, node_words}
use Rattle.model.specs.BookBytes.{node_numbers, book_bytes}
use Rattle.theory.proofs.Soundness.Facts.{Formed}
use Rattle.theory.proofs.Lists.Laws.{all_intro, length_from, get_or-from}
use Rattle.theory.proofs.Lists.Conjunctions.{and₄}
use Rattle.theory.proofs.Lists.Rows.{Below, Wide, length-rows, length-padded, map-from, row, below-padded, below_rows}
use Rattle.theory.proofs.Area.Rows.{width_node}
use Rattle.theory.proofs.Area.Small.{below-node}
use Rattle.layout.specs.limits.Rows.{node_of, book_of}
use Rattle.book.specs.decode.Rows.{book_rows}
use Rattle.book.specs.encode.Encoding.{encodable}
use Rattle.runs.proofs.Numbers.{length-numbers}

-- ---- one term

module _ (rows : List ℕ) (t : ℕ) (rest : List ℕ) where
  -- the words of row t, where its words and the rest stand from there on
  word_of : (words : List ℕ) → drop (term_words * t) rows ≡ words ++ rest → (j : ℕ) → get_or rows (term_words * t + j) 0 ≡ get_or (words ++ rest) j 0
  word_of words e j = sym (get_or-drop (term_words * t) rows j 0) ∙ ap (λ l. get_or l j 0) e

  -- the term in a row is the one whose words stand there
  node_of_lem : (n : Node) → drop (term_words * t) rows ≡ node_words n ++ rest → node_of rows t ≡ n
  unfolding node_of node_words padded
  node_of_lem var e = rw (rw add-zero at (word_of (padded term_words []) e 0))
  node_of_lem (app s args) e =
      let words : List ℕ = suc s ∷ length args ∷ padded max_arity args in
      let first : get_or rows (term_words * t) 0 ≡ suc s = rw add-zero at (word_of words e 0) in
      let others : drop (term_words * t + 2) rows ≡ padded max_arity args ++ rest = sym (drop-drop 2 (term_words * t) rows) ∙ ap (drop 2) e in
      rw (first, word_of words e 1, others, append_assoc, ne_eqb (suc s) 0 (λ z. omega arith))
      (ap₂ app (omega arith) (take_at args _ (length args) refl))

-- the count in a term's words is that of its arguments
count_of : (n : Node) (rest : List ℕ) → length (arguments n) ≤ max_arity → get_or (node_words n ++ rest) 1 0 ≤ max_arity
unfolding node_words arguments padded
count_of var rest h = zero-le
count_of (app s args) rest h = h

-- a term has at most one row of numbers
pub node-numbers : (n : Node) → length (arguments n) ≤ max_arity → length (node_numbers n) ≤ term_words
unfolding node_numbers arguments
node-numbers var h = omega arith
node-numbers (app s args) h = omega arith

-- ---- the numbers of a book

-- at most one row for each term
book-numbers : (b : Book) → ((t : ℕ) → t < length b → length (arguments (get_or b t var)) ≤ max_arity)
    → length (concat_map node_numbers b) ≤ term_words * length b
unfolding concat_map
book-numbers [] h = zero-le
book-numbers (n ∷ b) h =
    rw (length-append (node_numbers n))
    (omega (arith, node-numbers n (h 0 (suc-le-suc zero-le)), book-numbers b (λ t l. h (suc t) (suc-le-suc l))))

module _ (size : ℕ) (b : Book) {β : Bindings} (f : Formed b β) (h : term_words * length b ≤ size) where
  -- THE ROWS OF A BOOK. Every row has its width.
  wide : Wide node_words term_words var b
  wide t l = width_node (get_or b t var) (f.small_arity t l)

  -- so the rows fill their words
  pub rows-length : length (book_rows size b) ≡ size
  unfolding book_rows
  rows-length =
      length-padded size (concat_map node_words b) (rw (length-rows node_words term_words var b wide) (omega arith))

  -- from row t on stand the words of term t
  row-stands : (t : ℕ) → t < length b → drop (term_words * t) (book_rows size b) ≡ node_words (get_or b t var) ++ drop term_words (drop (term_words * t) (book_rows size b))
  unfolding book_rows padded
  row-stands t l =
      sym (take-append-drop term_words (drop (term_words * t) (book_rows size b)))
      ∙ ap (λ words. words ++ drop term_words (drop (term_words * t) (book_rows size b)))
      (row node_words term_words var b (replicate (size - length (concat_map node_words b)) 0) wide t l)

  -- the rows of a book hold it
  pub rows-book : book_of (book_rows size b) (length b) ≡ b
  unfolding book_of
  rows-book =
      map-from (node_of (book_rows size b)) 0 b var (λ t l. rw zero-add (node_of_lem (book_rows size b) t _ (get_or b t var) (row-stands t l)))

  -- each count is within the limit
  pub small_count : (t : ℕ) → t < length b → get_or (book_rows size b) (term_words * t + 1) 0 ≤ max_arity
  small_count t l = rw (word_of (book_rows size b) t _ (node_words (get_or b t var)) (row-stands t l) 1) (count_of (get_or b t var) _ (f.small_arity t l))

  -- its bytes are few
  pub book-bytes : length (book_bytes b) ≤ max_groups * suc (term_words * length b)
  unfolding book_bytes
  book-bytes = omega (arith, length-numbers (length b ∷ concat_map node_numbers b), book-numbers b f.small_arity)

  module _ (few : length b ≤ max_number) where
    -- no word is above the limit of a number
    small-rows : Below (suc max_number) (book_rows size b)
    unfolding book_rows
    small-rows =
        below-padded size
        (below_rows node_words var b (omega arith)
        (λ t l. below-node (suc max_number) (omega arith) (get_or b t var) (f.small-symbol t l) (f.small_arity t l)
        (λ j k. let x : get_or (arguments (get_or b t var)) j 0 < t = f.lower t l j k in omega arith)))

    -- the rows of a book can be encoded
    pub rows-encodable : T (encodable (book_rows size b) (length b))
    unfolding encodable
    rows-encodable =
        (and₄ (leb (term_words * length b) (length (book_rows size b))) (leb (length b) max_number) (all (λ t. leb (get_or (book_rows size b) (term_words * t + 1) 0) max_arity) (from 0 (length b)))
        (all (λ w. leb w max_number) (book_rows size b))).1 (
          le→leb (term_words * length b) (length (book_rows size b)) (rw rows-length h),
          le→leb (length b) max_number few,
          all_intro _ (from 0 (length b)) 0 (λ t l.
              let k : t < length b = rw length_from at l in
              rw (get_or-from 0 (length b) t 0 k, zero-add) (le→leb _ max_arity (small_count t k))),
          all_intro _ (book_rows size b) 0 (λ i l. le→leb (get_or (book_rows size b) i 0) max_number (omega (arith, small-rows.at i))),
        )
