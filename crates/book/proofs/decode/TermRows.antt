-- A term's row behind the rows of a book: storing its numbers gives the rows of the book with the term. Assumes nothing.
use Rattle.std.proofs.Common.{◌≡◌, refl, List, [], ◌∷◌, ◌++◌, append_assoc, append-nil, ℕ, zero, suc, ◌+◌, ◌*◌, ◌-◌, ◌≤◌, add-zero, add-suc, suc-add, arith, length, drop, set, replicate, length-append}
use Rattle.std.proofs.Math.Nat.{sub-zero, zero-sub, suc-sub-suc}
use Rattle.std.proofs.Math.ListN.{length-replicate, replicate-append-replicate}
use Rattle.std.proofs.Math.Seq.{sets, sets-eq, take-append_seam, drop-append-add}
use Rattle.model.specs.Limits.{max_arity}
use Rattle.model.specs.Lists.{concat_map, padded}
use Rattle.model.specs.Term.{Node, var, app, Book}
use Rattle.model.specs.Area.{term_words, node_words}
use Rattle.theory.proofs.Lists.Laws.{concat_map-append}
use Rattle.theory.proofs.Lists.Rows.{length-padded}
use Rattle.book.specs.decode.Rows.{book_rows}
use Rattle.book.specs.parse.Parts.{node_row}

-- ---- stores

-- some stores behind others, and one store
pub sets_append : (rows : List ℕ) (i : ℕ) (xs ys : List ℕ) → sets rows i (xs ++ ys) ≡ sets (sets rows i xs) (i + length xs) ys
sets_append rows i [] ys = rw (add-zero i)
sets_append rows i (x ∷ xs) ys = rw (sets_append (set rows i x) (suc i) xs ys, suc-add, ← add-suc)

pub sets_more : (rows : List ℕ) (i : ℕ) (xs : List ℕ) (x : ℕ) → sets rows i (xs ++ x ∷ []) ≡ set (sets rows i xs) (i + length xs) x
sets_more rows i xs x = sets_append rows i xs (x ∷ [])

-- zeros without the first n
drop-zeros : (n m : ℕ) → ◌≡◌ {A = List ℕ} (drop n (replicate m 0)) (replicate (m - n) 0)
drop-zeros zero m = rw sub-zero
drop-zeros (suc n) zero = rw zero-sub
drop-zeros (suc n) (suc m) = rw suc-sub-suc (drop-zeros n m)

-- numbers stored behind a padded list, in a row of width w
row_stored : (n w : ℕ) (xs ys : List ℕ) → length ys ≤ w → length xs + w ≤ n
    → sets (padded n xs) (length xs) ys ≡ padded n (xs ++ padded w ys)
unfolding padded
row_stored n w xs ys h g =
    let room : length xs + length ys ≤ length (xs ++ replicate (n - length xs) 0) = rw (length-append, length-replicate) (omega arith) in
    let row : length (ys ++ replicate (w - length ys) 0) ≡ w = length-padded w ys h in
    let zeros : n - length xs - length ys ≡ w - length ys + (n - (length xs + w)) = omega arith in
    rw (sets-eq ys (xs ++ replicate (n - length xs) 0) (length xs) room, take-append_seam, drop-append-add, drop-zeros, zeros, ← replicate-append-replicate)
    (rw (length-append xs (ys ++ replicate (w - length ys) 0), row) (simp append_assoc))

-- ---- rows of terms

-- a node's row is the numbers that are stored, and zeros
row_of : (x : Node) → node_words x ≡ padded term_words (node_row x)
unfolding node_words node_row padded
row_of var = refl
row_of (app s args) = let e : term_words - suc (suc (length args)) ≡ max_arity - length args = omega arith in rw e

module _ (b : Book) (x : Node) (few : length (node_row x) ≤ term_words) where
  -- the words of a book with one more term
  words_more : concat_map node_words (b ++ x ∷ []) ≡ concat_map node_words b ++ padded term_words (node_row x)
  unfolding concat_map
  words_more = rw (concat_map-append, append-nil, row_of x)

  pub length_more : length (concat_map node_words b) ≡ term_words * length b
      → length (concat_map node_words (b ++ x ∷ [])) ≡ term_words * length (b ++ x ∷ [])
  length_more e = rw (words_more, length-append (concat_map node_words b) (padded term_words (node_row x)), e, length-padded term_words (node_row x) few, length-append b (x ∷ [])) (omega arith)

  -- its rows
  pub rows_more : (size : ℕ) → length (concat_map node_words b) ≡ term_words * length b → term_words * length b + term_words ≤ size
      → sets (book_rows size b) (term_words * length b) (node_row x) ≡ book_rows size (b ++ x ∷ [])
  unfolding book_rows
  rows_more size e l =
      rw (← e, words_more) (row_stored size term_words (concat_map node_words b) (node_row x) few (omega arith))

-- rows that are all zero are those of no terms
pub rows_none : (size : ℕ) → replicate size 0 ≡ book_rows size []
unfolding book_rows padded concat_map
rows_none size = rw sub-zero
