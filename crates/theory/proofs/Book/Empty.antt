-- The book of no bytes, and what refusal 1 remains for. Assumes nothing.
use mathlib.Core.Path.{◌≡◌, refl, sym, ◌∙◌}
use mathlib.Core.List.{List, [], ◌∷◌, ◌++◌}
use Prim.Native.Nat.{ℕ, ◌≤◌, ◌<◌}
use native.Mathlib.Omega.{arith}
use borrow.Author.Tests.{le-leb}
use lib.ListN.{length, take, length-append}
use lib.Seq.{take-append_seam, length-take-le}
use Rattle.leb128.specs.Number.{read_groups, at_most, read, write}
use Rattle.model.specs.Limits.{Limits, office, max_session, session_capacity}
use Rattle.model.specs.Lists.{all, keep, from, concat_map, is_empty}
use Rattle.model.specs.Term.{Book}
use Rattle.model.specs.Step.{opened}
use Rattle.model.specs.Report.{number_bytes}
use Rattle.model.specs.BookBytes.{parsed, unparsed, and_then, need, from_read, parse_number, parse_written, parse_book, as_written, book_bytes}
use Rattle.model.specs.Call.{refuse, over, emit, copy_parsed, open_parsed, call_open, call_copy}
use Rattle.model.specs.Archive.{variables_first, moved, stored_book, restored_book, parse_numbers, all_distinct, parse_list, arguments_lower, restore_by, parse_restored, call_restore, emit_both, store_parsed, call_store}
use Rattle.model.specs.Session.{or_stop, begin, with_length, steps, session}
use Rattle.theory.specs.EmptyBook.{NoBytes, As00, NothingElseIsNew, OneBookDiffers, SameBytesElse, RefusedAsCut, BreaksOff, InSessions}
use Rattle.theory.proofs.Book.Written.{as_written_lem, some_written}
use Rattle.theory.proofs.Book.Round.{written_back}
use Rattle.theory.proofs.Book.Opening.{opens_by_book}
use Rattle.theory.proofs.Book.Fronts as Fronts

-- what is written of the book without terms
bytes_of_none : book_bytes [] ≡ 0 ∷ []
unfolding book_bytes number_bytes concat_map write
bytes_of_none = refl

none_stored : stored_book [] ≡ []
unfolding stored_book moved from
none_stored = refl

none-listed : number_bytes (variables_first []) ≡ []
unfolding variables_first keep from number_bytes concat_map
none-listed = refl

module _ (lim : Limits) where
  list-cut : (book out : List ℕ) (b : Book) (rest : List ℕ) → parse_book lim book ≡ parsed b rest → 0 < length b
      → call_restore lim book [] out ≡ refuse 1 1 [] out
  unfolding call_restore parse_restored restore_by parse_list parse_numbers parse_number from_read read read_groups at_most and_then copy_parsed
  list-cut book out [] rest e l = absurd (omega arith)
  list-cut book out (n ∷ ns) rest e l = rw e

  parses_as_00 : parse_book lim [] ≡ parse_book lim (0 ∷ [])
  unfolding as_written
  parses_as_00 = as_written_lem lim [] ∙ sym (as_written_lem lim (0 ∷ []))

  pub as_00 : As00 lim
  unfolding call_open call_copy call_store call_restore parse_restored
  as_00 =
      record {
        parses = parses_as_00;
        opening = λ capacity area. rw (← parses_as_00);
        copying = λ out. rw (← parses_as_00);
        storing = λ out list. rw (← parses_as_00);
        restoring = λ list out. rw (← parses_as_00);
      }

  stored_none : (out list : List ℕ) → call_store lim [] out list ≡ emit_both (0 ∷ []) [] out list
  unfolding parse_book call_store store_parsed
  stored_none out list = rw (none_stored, bytes_of_none, none-listed)

  restored_none : (out : List ℕ) → call_restore lim [] [] out ≡ emit (0 ∷ []) [] out
  unfolding parse_book call_restore parse_restored restore_by parse_list parse_numbers and_then need is_empty all all_distinct restored_book moved from arguments_lower copy_parsed
  restored_none out = rw bytes_of_none

  there_and_back : (out list back : List ℕ) → 1 ≤ length out → let o = call_store lim [] out list in
      (o.refusal ≡ 0) × (o.numbers ≡ 1 ∷ 0 ∷ []) × (call_restore lim (take 1 o.output) (take 0 o.list) back ≡ emit (0 ∷ []) [] back)
  unfolding emit_both over
  there_and_back out list back l =
      rw (stored_none out list, le-leb 1 (length out) l, le-leb 0 (length list) (omega arith))
      (refl, refl, sym (as_00.restoring [] back) ∙ restored_none back)

  pub no_bytes_lem : NoBytes lim
  unfolding parse_book open_parsed call_copy copy_parsed call_restore parse_restored restore_by parse_list parse_numbers and_then need is_empty
  no_bytes_lem =
      record {
        parses = refl;
        opening = λ capacity area o. opens_by_book lim capacity [] area o;
        copying = λ out. rw bytes_of_none;
        storing = stored_none;
        restoring = restored_none;
        there_and_back = there_and_back;
        list-left-over = λ x xs out. refl;
        list-cut = list-cut;
      }

  -- every call that takes a book gives the book's refusal
  cut_by_calls : (book : List ℕ) → parse_book lim book ≡ unparsed 1 → RefusedAsCut lim book
  unfolding open_parsed call_copy copy_parsed call_store store_parsed call_restore parse_restored and_then
  cut_by_calls book e =
      record {
        parses = e;
        opening = λ capacity area o. opens_by_book lim capacity book area o ∙ rw e;
        copying = λ out. rw e;
        storing = λ out list. rw e;
        restoring = λ list out. rw e;
      }

pub nothing_else_is-new : NothingElseIsNew
unfolding parse_written parse_number from_read read read_groups at_most and_then
nothing_else_is-new lim = (refl, go)
  where
    go : (bytes : List ℕ) → (bytes ≡ [] → ⊥) → parse_book lim bytes ≡ parse_written lim bytes
    go [] h = absurd (h refl)
    go (x ∷ xs) h = some_written lim (x ∷ xs) (omega arith)

pub same-bytes_else : SameBytesElse
unfolding as_written
same-bytes_else [] h = absurd (h refl)
same-bytes_else (x ∷ xs) h = refl

pub one-book_differs : OneBookDiffers
unfolding as_written
one-book_differs lim bytes b rest h e =
    let w = written_back lim bytes b rest h e in
    (λ k. w ∙ same-bytes_else bytes k, λ k. rw k at w)

pub breaks_off : BreaksOff
breaks_off lim book b rest e n some less = cut_by_calls lim (take n book) (Fronts.breaks_off lim book b rest e n some less)

-- SESSIONS.
-- one that is not too long
session_by : (bytes : List ℕ) → length bytes ≤ max_session → session bytes ≡ or_stop (parse_number bytes) with_length
unfolding session
session_by bytes h = rw (le-leb (length bytes) max_session h)

session-opens : (bytes : List ℕ) → length (0 ∷ bytes) ≤ max_session
    → session (0 ∷ bytes) ≡ (0 ∷ []) ∷ steps (length bytes) (opened [] session_capacity) bytes
unfolding parse_number from_read read read_groups at_most or_stop with_length begin parse_book
session-opens bytes h = session_by (0 ∷ bytes) h ∙ rw (le-leb 0 (length bytes) (omega arith))

no_session : session [] ≡ (1 ∷ []) ∷ []
unfolding session parse_number from_read read read_groups at_most or_stop
no_session = refl

session_breaks_off : (book : List ℕ) (b : Book) (rest : List ℕ) → parse_book office book ≡ parsed b rest → (n : ℕ) → 0 < n → n < length book
    → (bytes behind : List ℕ) → length bytes ≤ max_session → parse_number bytes ≡ parsed n (take n book ++ behind) → session bytes ≡ (1 ∷ []) ∷ []
unfolding or_stop with_length begin
session_breaks_off book b rest e n some less bytes behind h g =
    let front = take n book in
    let long : length front ≡ n = length-take-le n book (omega arith) in
    let fits : n ≤ length (front ++ behind) = omega (arith, long, length-append front behind) in
    let taken : take n (front ++ behind) ≡ front = rw long at (take-append_seam front behind) in
    session_by bytes h
    ∙ rw (g, le-leb n (length (front ++ behind)) fits, taken, Fronts.breaks_off office book b rest e n some less)

pub in_sessions : InSessions
in_sessions = record { opens = session-opens; no_session = no_session; breaks_off = session_breaks_off }
