-- Reading a list, and the book that it restores, are decided by their tests. Assumes nothing.
use mathlib.Core.Path.{◌≡◌, refl}
use mathlib.Core.List.{List, [], ◌∷◌}
use mathlib.Core.Bool.{Bool, true, false, not, ◌&&◌}
use Prim.Native.Nat.{ℕ, zero, suc, ◌<◌, zero-le, suc-le-suc}
use native.Mathlib.Nat.{le_of_suc-le-suc, not-suc-le-zero, zero-add}
use native.Mathlib.Omega.{arith}
use borrow.Author.Tests.{eqb-true, eqb-false}
use lib.ListN.{length, get_or}
use lib.Dec.{eqb, ltb}
use Rattle.model.specs.Limits.{Limits}
use Rattle.model.specs.Lists.{all, from}
use Rattle.model.specs.Term.{var, arguments, Book}
use Rattle.model.specs.BookBytes.{parsed, parse_number, parse_book}
use Rattle.model.specs.Archive.{restored_book, parse_numbers, all_distinct, parse_list, arguments_lower, restore_by, parse_restored}
use Rattle.theory.specs.Numbering.{Distinct}
use Rattle.theory.specs.Tests.{refuses, number_tests, book_tests, numbers_tests, list_tests, ArgumentsLower}
use Rattle.theory.proofs.Lists.Laws.{length_from, get_or-from}
use Rattle.theory.proofs.Refusals.Deciding.{Tells, holds, fails, tells_lt, tells_empty}
use Rattle.theory.proofs.Refusals.Book.{Follows, need_follows, then_follows, number_follows, book_follows}

-- WHAT THE TESTS TELL. Each element passes.
pub tells_all : {A : Type 0} (d : A) (P : A → Type 0) (p : A → Bool) → ((x : A) → Tells (P x) (p x))
    → (xs : List A) → Tells ((i : ℕ) → i < length xs → P (get_or xs i d)) (all p xs)
unfolding all
tells_all d P p h [] = holds (λ i l. absurd (not-suc-le-zero l))
tells_all d P p h (x ∷ xs) = go (p x) (h x) (all p xs) (tells_all d P p h xs)
  where
    both : P x → ((i : ℕ) → i < length xs → P (get_or xs i d)) → (i : ℕ) → i < suc (length xs) → P (get_or (x ∷ xs) i d)
    both a b zero l = a
    both a b (suc i) l = b i (le_of_suc-le-suc l)

    go : (t : Bool) → Tells (P x) t → (u : Bool) → Tells ((i : ℕ) → i < length xs → P (get_or xs i d)) u
        → Tells ((i : ℕ) → i < suc (length xs) → P (get_or (x ∷ xs) i d)) (t && u)
    go true (holds a) true (holds b) = holds (both a b)
    go true (holds a) false (fails b) = fails (λ k. b (λ i l. k (suc i) (suc-le-suc l)))
    go false (fails a) u b = fails (λ k. a (k 0 (suc-le-suc zero-le)))

-- No element stands twice.
tells_other : (x y : ℕ) → Tells (x ≡ y → ⊥) (not (eqb x y))
tells_other x y = go (eqb x y) refl
  where
    go : (t : Bool) → eqb x y ≡ t → Tells (x ≡ y → ⊥) (not t)
    go true e = fails (λ h. h (eqb-true x y e))
    go false e = holds (eqb-false x y e)

pub tells_distinct : (xs : List ℕ) → Tells (Distinct xs) (all_distinct xs)
unfolding all_distinct
tells_distinct [] = holds (λ i j p l. absurd (not-suc-le-zero l))
tells_distinct (x ∷ xs) =
    go (all (λ y. not (eqb x y)) xs) (tells_all 0 (λ y. x ≡ y → ⊥) (λ y. not (eqb x y)) (tells_other x) xs) (all_distinct xs) (tells_distinct xs)
  where
    both : ((i : ℕ) → i < length xs → x ≡ get_or xs i 0 → ⊥) → Distinct xs → Distinct (x ∷ xs)
    both a b i zero p l = λ e. omega arith
    both a b zero (suc j) p l = a j (le_of_suc-le-suc l)
    both a b (suc i) (suc j) p l = b i j (le_of_suc-le-suc p) (le_of_suc-le-suc l)

    go : (t : Bool) → Tells ((i : ℕ) → i < length xs → x ≡ get_or xs i 0 → ⊥) t → (u : Bool) → Tells (Distinct xs) u
        → Tells (Distinct (x ∷ xs)) (t && u)
    go true (holds a) true (holds b) = holds (both a b)
    go true (holds a) false (fails b) = fails (λ k. b (λ i j p l. k (suc i) (suc j) (suc-le-suc p) (suc-le-suc l)))
    go false (fails a) u b = fails (λ k. a (λ i l. k 0 (suc i) (suc-le-suc zero-le) (suc-le-suc l)))

-- Rule 5.
abbrev LowerAt : Book → ℕ → Type 0
LowerAt b t = (j : ℕ) → j < length (arguments (get_or b t var)) → get_or (arguments (get_or b t var)) j 0 < t

pub tells_lower : (b : Book) → Tells (ArgumentsLower b) (arguments_lower b)
unfolding arguments_lower
tells_lower b = go (all (λ t. all (λ a. ltb a t) (arguments (get_or b t var))) (from 0 (length b))) each
  where
    each : Tells ((i : ℕ) → i < length (from 0 (length b)) → LowerAt b (get_or (from 0 (length b)) i 0))
        (all (λ t. all (λ a. ltb a t) (arguments (get_or b t var))) (from 0 (length b)))
    each = tells_all 0 (LowerAt b) (λ t. all (λ a. ltb a t) (arguments (get_or b t var)))
        (λ t. tells_all 0 (λ a. a < t) (λ a. ltb a t) (λ a. tells_lt a t) (arguments (get_or b t var))) (from 0 (length b))

    at_from : (i : ℕ) → i < length b → get_or (from 0 (length b)) i 0 ≡ i
    at_from i l = rw (get_or-from 0 (length b) i 0 l) (zero-add i)

    go : (t : Bool) → Tells ((i : ℕ) → i < length (from 0 (length b)) → LowerAt b (get_or (from 0 (length b)) i 0)) t → Tells (ArgumentsLower b) t
    go true (holds h) = holds (λ i l. rw (at_from i l) at (h i (rw (length_from 0 (length b)) l)))
    go false (fails h) =
        fails (λ k. h (λ i l. let m : i < length b = rw (length_from 0 (length b)) at l in rw (at_from i m) (k i m)))

-- THE LIST.
numbers_follow : (k : ℕ) (bytes : List ℕ) → Follows (parse_numbers k bytes) (numbers_tests k bytes)
unfolding parse_numbers
numbers_follow zero bytes = λ next n d. d
numbers_follow (suc k) bytes =
    then_follows (parse_number bytes) (number_tests bytes) _
    (λ x rest next. numbers_tests k rest (λ xs rest'. next (x ∷ xs) rest')) (number_follows bytes)
    (λ x rest. then_follows (parse_numbers k rest) (numbers_tests k rest) _ (λ xs rest' next. next (x ∷ xs) rest')
    (numbers_follow k rest) (λ xs rest' next n d. d))

pub list_follows : (n : ℕ) (bytes : List ℕ) → Follows (parse_list n bytes) (λ next. list_tests n bytes (λ list. next list []))
unfolding parse_list
list_follows n bytes =
    then_follows (parse_numbers n bytes) (numbers_tests n bytes) _
    (λ list rest next. refuses 3 (rest ≡ []) (refuses 8 ((i : ℕ) → i < length list → get_or list i 0 < n) (refuses 14 (Distinct list) (next list []))))
    (numbers_follow n bytes)
    (λ list rest. need_follows 3 (tells_empty rest) _
    (λ next. refuses 8 ((i : ℕ) → i < length list → get_or list i 0 < n) (refuses 14 (Distinct list) (next list [])))
    (need_follows 8 (tells_all 0 (λ t. t < n) (λ t. ltb t n) (λ t. tells_lt t n) list) _
    (λ next. refuses 14 (Distinct list) (next list []))
    (need_follows 14 (tells_distinct list) (parsed list []) (λ next. next list []) (λ next m d. d))))

-- THE RESTORED BOOK.
pub restored_follows : (lim : Limits) (book list : List ℕ) → Follows (parse_restored lim book list)
    (λ next. book_tests lim book (λ new. list_tests (length new) list (λ listed.
    refuses 5 (ArgumentsLower (restored_book listed new)) (next (restored_book listed new) []))))
unfolding parse_restored restore_by
restored_follows lim book list =
    then_follows (parse_book lim book) (λ next. book_tests lim book (λ b. next b [])) _
    (λ new rest next. list_tests (length new) list (λ listed. refuses 5 (ArgumentsLower (restored_book listed new)) (next (restored_book listed new) [])))
    (book_follows lim book)
    (λ new rest. then_follows (parse_list (length new) list) (λ next. list_tests (length new) list (λ listed. next listed [])) _
    (λ listed rest' next. refuses 5 (ArgumentsLower (restored_book listed new)) (next (restored_book listed new) []))
    (list_follows (length new) list)
    (λ listed rest'. need_follows 5 (tells_lower (restored_book listed new)) (parsed (restored_book listed new) [])
    (λ next. next (restored_book listed new) []) (λ next m d. d)))
