-- No call gives refusal 6, and no line of a session is it. Assumes nothing.
use mathlib.Core.Path.{◌≡◌, refl, sym, subst}
use mathlib.Core.List.{List, [], ◌∷◌}
use mathlib.Core.Bool.{Bool, true, false, cond, not, ◌&&◌}
use mathlib.Core.Logic.{inl, inr}
use Prim.Native.Nat.{ℕ, zero, suc}
use native.Mathlib.Omega.{arith}
use borrow.Author.Tests.{ne_eqb}
use lib.ListN.{length, get_or, take, drop}
use lib.Dec.{T, eqb, leb, leb→le}
use Rattle.model.specs.Limits.{Limits, office, max_session, session_capacity}
use Rattle.model.specs.Lists.{all}
use Rattle.model.specs.Term.{Book}
use Rattle.model.specs.Step.{State, Answer, refused, accepted, require, add_line, bind, opened}
use Rattle.model.specs.BookBytes.{Parsed, parsed, unparsed, parse_number, parse_book}
use Rattle.model.specs.Call.{refuse, accept, guard, open_parsed, call_open, call_copy}
use Rattle.model.specs.Archive.{parse_restored, call_store, call_restore}
use Rattle.model.specs.Session.{Printed, or_stop, answered, step, steps, begin, with_length, session}
use Rattle.theory.specs.Tests.{Test, Decides, add_tests, bind_tests, entry_tests, report_tests, write_tests}
use Rattle.theory.specs.UnlikeCounts.{NoSix}
use Rattle.theory.proofs.Lists.Laws.{and_left, and_right, and_both}
use Rattle.theory.proofs.Book.Opening.{RefusedBy, refused_too, of_book, number-refused, book-refused}
use Rattle.theory.proofs.Archive.Calls.{copy_not, store_not, restored_not_six}
use Rattle.theory.proofs.Refusals.Calls.{demand_1}

abbrev not_six : ℕ → Bool
not_six n = not (eqb n 6)

not_six_lem : (n : ℕ) → T (not_six n) → n ≡ 6 → ⊥
not_six_lem n h e = rw e at h

-- TESTS none of which has the number 6 do not decide it.
unfoldable none_six : List Test → Bool
none_six [] = true
none_six (t ∷ ts) = not_six t.number && none_six ts

none_decides : (ts : List Test) → T (none_six ts) → Decides ts 6 → ⊥
unfolding none_six
none_decides [] h d = not_six_lem 0 tt (sym d)
none_decides (t ∷ ts) h (inl d) = none_decides ts (and_right (not_six t.number) _ h) d.1
none_decides (t ∷ ts) h (inr d) = not_six_lem t.number (and_left (not_six t.number) _ h) (sym d.1)

decided-not : (ts : List Test) (n : ℕ) → T (none_six ts) → Decides ts n → n ≡ 6 → ⊥
decided-not ts n h d e = none_decides ts h (subst (Decides ts) e d)

-- BOOKS. What is refused by a book's refusals is not refused by 6.
below_six : {A : Type 0} (p : Parsed A) → RefusedBy of_book p → RefusedBy not_six p
below_six p h = refused_too of_book not_six (λ n g. rw (ne_eqb n 6 (λ e. omega (arith, leb→le n 5 (and_right (leb 1 n) _ g)))) tt) p h

book-not_six : (lim : Limits) (bytes : List ℕ) → RefusedBy not_six (parse_book lim bytes)
book-not_six lim bytes = below_six (parse_book lim bytes) (book-refused lim bytes)

open_not_six : (lim : Limits) (capacity : ℕ) (area : List ℕ) (t u : Bool) (p : Parsed Book) → RefusedBy not_six p
    → (guard t (refuse 0 4 area []) (guard u (refuse 0 7 area []) (open_parsed lim capacity area p))).refusal ≡ 6 → ⊥
unfolding guard refuse accept open_parsed
open_not_six lim capacity area false u p h e = not_six_lem 4 tt e
open_not_six lim capacity area true false p h e = not_six_lem 7 tt e
open_not_six lim capacity area true true (unparsed n) h e = not_six_lem n h e
open_not_six lim capacity area true true (parsed b rest) h e = not_six_lem 0 tt e

-- SESSIONS. No line begins with 6.
unfoldable fine : List ℕ → Bool
fine [] = true
fine (n ∷ ns) = not_six n

abbrev Fine : Printed → Type 0
Fine lines = T (all fine lines)

first_fine : (line : List ℕ) (lines : Printed) → T (fine line) → Fine lines → Fine (line ∷ lines)
unfolding all
first_fine line lines h g = and_both (fine line) _ h g

-- a step's refusals
abbrev Stepped : Answer → Type 0
Stepped (refused n) = T (not_six n)
Stepped (accepted ns s) = Unit {0}

require-stepped : (t : Bool) (n : ℕ) (a : Answer) → T (not_six n) → Stepped a → Stepped (require t n a)
unfolding require
require-stepped true n a h g = g
require-stepped false n a h g = h

add-stepped : (lim : Limits) (s : State) (l r : ℕ) → Stepped (add_line lim s l r)
unfolding add_line
add-stepped lim s l r = require-stepped _ 8 _ tt (require-stepped _ 12 _ tt (require-stepped _ 11 _ tt tt))

bind-stepped : (s : State) (v t : ℕ) → Stepped (bind s v t)
unfolding bind
bind-stepped s v t = require-stepped _ 8 _ tt (require-stepped _ 9 _ tt (require-stepped _ 10 _ tt (require-stepped _ 11 _ tt tt)))

-- the parts of a session
stop_fine : (p : Parsed ℕ) (next : ℕ → List ℕ → Printed) → RefusedBy not_six p → ((n : ℕ) (rest : List ℕ) → Fine (next n rest)) → Fine (or_stop p next)
unfolding or_stop fine all
stop_fine (parsed n rest) next h g = g n rest
stop_fine (unparsed n) next h g = first_fine (n ∷ []) [] h tt

number_fine : (bytes : List ℕ) (next : ℕ → List ℕ → Printed) → ((n : ℕ) (rest : List ℕ) → Fine (next n rest)) → Fine (or_stop (parse_number bytes) next)
number_fine bytes next g = stop_fine (parse_number bytes) next (below_six (parse_number bytes) (number-refused bytes)) g

answered_fine : (s : State) (a : Answer) (next : State → Printed) → Stepped a → ((s' : State) → Fine (next s')) → Fine (answered s a next)
unfolding answered fine
answered_fine s (refused n) next h g = first_fine (n ∷ []) (next s) h (g s)
answered_fine s (accepted ns s') next h g = first_fine (0 ∷ ns) (next s') tt (g s')

step_fine : (next : State → List ℕ → Printed) → ((s : State) (bytes : List ℕ) → Fine (next s bytes)) → (s : State) (n : ℕ) (bytes : List ℕ) → Fine (step next s n bytes)
unfolding step fine all
step_fine next g s zero bytes = tt
step_fine next g s (suc zero) bytes =
    number_fine bytes _ (λ l rest. number_fine rest _ (λ r rest'.
    answered_fine s (add_line office s l r) _ (add-stepped office s l r) (λ s'. g s' rest')))
step_fine next g s (suc (suc zero)) bytes =
    number_fine bytes _ (λ v rest. number_fine rest _ (λ t rest'.
    answered_fine s (bind s v t) _ (bind-stepped s v t) (λ s'. g s' rest')))
step_fine next g s (suc (suc (suc zero))) bytes = g s bytes
step_fine next g s (suc (suc (suc (suc n)))) bytes = tt

steps_fine : (k : ℕ) (s : State) (bytes : List ℕ) → Fine (steps k s bytes)
unfolding steps all
steps_fine zero s bytes = tt
steps_fine (suc k) s [] = tt
steps_fine (suc k) s (x ∷ xs) = number_fine (x ∷ xs) (step (steps k) s) (λ n rest. step_fine (steps k) (steps_fine k) s n rest)

begin_fine : (p : Parsed Book) (bytes : List ℕ) → RefusedBy not_six p → Fine (begin p bytes)
unfolding begin fine all
begin_fine (parsed b rest) bytes h = steps_fine (length bytes) (opened b session_capacity) bytes
begin_fine (unparsed n) bytes h = first_fine (n ∷ []) [] h tt

cond_fine : (t : Bool) (p q : Printed) → Fine p → Fine q → Fine (cond t p q)
cond_fine true p q h g = h
cond_fine false p q h g = g

session_fine : (bytes : List ℕ) → Fine (session bytes)
unfolding session with_length fine all
session_fine bytes =
    cond_fine (leb (length bytes) max_session) (or_stop (parse_number bytes) with_length) ((4 ∷ []) ∷ []) (number_fine bytes with_length (λ n rest.
    cond_fine (leb n (length rest)) (begin (parse_book office (take n rest)) (drop n rest)) ((1 ∷ []) ∷ [])
    (begin_fine (parse_book office (take n rest)) (drop n rest) (book-not_six office (take n rest))) tt)) tt

line_fine : (lines : Printed) (i : ℕ) → Fine lines → T (fine (get_or lines i []))
unfolding all fine
line_fine [] i h = tt
line_fine (line ∷ lines) zero h = and_left (fine line) _ h
line_fine (line ∷ lines) (suc i) h = line_fine lines i (and_right (fine line) _ h)

pub no_six : NoSix
unfolding call_open call_copy call_store call_restore fine none_six
no_six =
    record {
      parses = λ lim bytes e. not_six_lem 6 (rw e at (book-not_six lim bytes)) refl;
      opening = λ lim capacity book area. open_not_six lim capacity area _ _ (parse_book lim book) (book-not_six lim book);
      adding = λ lim area l r. decided-not (add_tests lim area l r) _ tt (demand_1.adding lim area l r).0.decided;
      fixing = λ lim area v t. decided-not (bind_tests lim area v t) _ tt (demand_1.fixing lim area v t).0.decided;
      reading = λ lim area i. decided-not (entry_tests lim area i) _ tt (demand_1.reading lim area i).0.decided;
      reporting = λ lim area out. decided-not (report_tests lim area out) _ tt (demand_1.reporting lim area out).0.decided;
      writing = λ lim area out. decided-not (write_tests lim area out) _ tt (demand_1.writing lim area out).0.decided;
      copying = λ lim book out. copy_not 6 tt tt out (parse_book lim book) (book-not_six lim book);
      storing = λ lim book out list. store_not 6 tt tt out list (parse_book lim book) (book-not_six lim book);
      restoring = λ lim book list out. copy_not 6 tt tt out (parse_restored lim book list) (restored_not_six lim book list);
      in_sessions = λ bytes i e. rw e at (line_fine (session bytes) i (session_fine bytes));
    }
