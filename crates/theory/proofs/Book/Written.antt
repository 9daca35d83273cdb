-- Every book is read as it is written: no bytes as 00. Assumes nothing.
use mathlib.Core.Path.{◌≡◌, refl, sym, ◌∙◌}
use mathlib.Core.List.{List, [], ◌∷◌}
use Prim.Native.Nat.{ℕ, ◌≤◌, ◌<◌}
use native.Mathlib.Omega.{arith}
use borrow.Author.Tests.{le-leb}
use lib.ListN.{length, length-append}
use lib.Dec.{T}
use Rattle.leb128.specs.Number.{max_groups, read_groups, at_most, read, write}
use Rattle.leb128.specs.Laws.{are_bytes}
use Rattle.leb128.proofs.Laws.{writes_bytes}
use Rattle.model.specs.Limits.{Limits}
use Rattle.model.specs.Lists.{concat_map, is_empty}
use Rattle.model.specs.Term.{Book}
use Rattle.model.specs.Report.{number_bytes}
use Rattle.model.specs.BookBytes.{Parsed, parsed, and_then, need, from_read, parse_number, parse_terms, parse_written, parse_book, as_written, node_numbers, book_bytes}

module _ (lim : Limits) where
  pub as_written_lem : (bytes : List ℕ) → parse_book lim bytes ≡ parse_written lim (as_written bytes)
  unfolding parse_book as_written parse_written parse_number from_read read read_groups at_most and_then need parse_terms is_empty
  as_written_lem [] = rw (le-leb 0 lim.max_terms (omega arith))
  as_written_lem (x ∷ xs) = refl

  -- what a book is parsed as
  pub parsed_as_written : (bytes : List ℕ) (p : Parsed Book) → parse_book lim bytes ≡ p → parse_written lim (as_written bytes) ≡ p
  parsed_as_written bytes p e = sym (as_written_lem bytes) ∙ e

  -- no bytes are the book without terms, and some are read as they are
  pub none_written : (bytes : List ℕ) → length bytes ≡ 0 → parse_book lim bytes ≡ parsed [] []
  unfolding parse_book
  none_written [] e = refl
  none_written (x ∷ xs) e = absurd (omega arith)

  pub some_written : (bytes : List ℕ) → 0 < length bytes → parse_book lim bytes ≡ parse_written lim bytes
  unfolding parse_book
  some_written [] l = absurd (omega arith)
  some_written (x ∷ xs) l = refl

-- what is written are bytes, and no fewer
pub written-bytes : (bytes : List ℕ) → T (are_bytes bytes) → T (are_bytes (as_written bytes))
unfolding as_written are_bytes
written-bytes [] h = tt
written-bytes (x ∷ xs) h = h

pub written-longer : (bytes : List ℕ) → length bytes ≤ length (as_written bytes)
unfolding as_written
written-longer [] = omega arith
written-longer (x ∷ xs) = omega arith

-- a book that is written has some
pub book_some : (b : Book) → 0 < length (book_bytes b)
unfolding book_bytes number_bytes concat_map
book_some b =
    let w = (writes_bytes max_groups (length b)).2 (omega arith) in
    rw (length-append (write max_groups (length b)) (number_bytes (concat_map node_numbers b))) (omega (arith, w))
