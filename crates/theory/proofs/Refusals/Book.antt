-- Decoding a book is decided by the tests of its bytes. Assumes nothing.
use mathlib.Core.Path.{◌≡◌, refl}
use mathlib.Core.List.{List, [], ◌∷◌, ◌++◌}
use mathlib.Core.Bool.{Bool}
use mathlib.Core.Logic.{inl, inr}
use Prim.Native.Nat.{ℕ, zero, suc, ◌≤◌, ◌<◌}
use native.Mathlib.Omega.{arith}
use lib.ListN.{length}
use Rattle.leb128.specs.Number.{max_groups, max_number, Read, number, cut, invalid, read}
use Rattle.model.specs.Limits.{Limits, max_arity, max_symbol}
use Rattle.model.specs.Term.{app, Book}
use Rattle.model.specs.BookBytes.{Parsed, parsed, unparsed, and_then, need, from_read, parse_number, parse_arguments, parse_app, parse_node, parse_terms, parse_written, parse_book}
use Rattle.theory.specs.Tests.{Test, Decides, refuses, value_of, rest_of, number_tests, argument_tests, node_tests, terms_tests, written_tests, book_tests}
use Rattle.theory.proofs.Refusals.Deciding.{Tells, holds, fails, tells_lt, tells_le, tells_empty}

-- What was decoded passes the tests and leaves the decision to those after it; a refusal is decided by them.
abbrev pub Follows : {A : Type 0} → Parsed A → ((A → List ℕ → List Test) → List Test) → Type 1
Follows {A} (parsed a rest) ts = (next : A → List ℕ → List Test) (n : ℕ) → Decides (next a rest) n → Decides (ts next) n
Follows {A} (unparsed k) ts = (next : A → List ℕ → List Test) → Decides (ts next) k

-- a test that is passed stands in front
passed_follows : {A : Type 0} (k : ℕ) (P : Type 0) → P → (p : Parsed A) (ts : (A → List ℕ → List Test) → List Test) → Follows p ts
    → Follows p (λ next. refuses k P (ts next))
passed_follows k P h (parsed a rest) ts f = λ next n d. inl (h, f next n d)
passed_follows k P h (unparsed m) ts f = λ next. inl (h, f next)

pub need_follows : {A P : Type 0} {t : Bool} (k : ℕ) → Tells P t → (p : Parsed A) (ts : (A → List ℕ → List Test) → List Test)
    → Follows p ts → Follows (need t k p) (λ next. refuses k P (ts next))
unfolding need
need_follows {P = P} k (holds h) p ts f = passed_follows k P h p ts f
need_follows k (fails h) p ts f = λ next. inr (h, refl)

-- one part after another
behind_follows : {A B : Type 0} (a : A) (rest : List ℕ) (ts : (A → List ℕ → List Test) → List Test)
    (us : A → List ℕ → (B → List ℕ → List Test) → List Test) → Follows (parsed a rest) ts → (q : Parsed B) → Follows q (us a rest)
    → Follows q (λ next. ts (λ a' rest'. us a' rest' next))
behind_follows a rest ts us f (parsed b rest') g = λ next n d. f (λ a' r. us a' r next) n (g next n d)
behind_follows a rest ts us f (unparsed k) g = λ next. f (λ a' r. us a' r next) k (g next)

pub then_follows : {A B : Type 0} (p : Parsed A) (ts : (A → List ℕ → List Test) → List Test) (g : A → List ℕ → Parsed B)
    (us : A → List ℕ → (B → List ℕ → List Test) → List Test) → Follows p ts → ((a : A) (rest : List ℕ) → Follows (g a rest) (us a rest))
    → Follows (and_then p g) (λ next. ts (λ a rest. us a rest next))
unfolding and_then
then_follows (parsed a rest) ts g us f h = behind_follows a rest ts us f (g a rest) (h a rest)
then_follows (unparsed k) ts g us f h = λ next. f (λ a rest. us a rest next)

-- a number
read_follows : (r : Read)
    → Follows (from_read r) (λ next. refuses 1 (r ≡ cut → ⊥) (refuses 2 (r ≡ invalid → ⊥) (next (value_of r) (rest_of r))))
unfolding from_read value_of rest_of
read_follows (number n rest) = λ next m d.
    inl (λ e. (let z : ◌≡◌ {A = ℕ} 0 1 = cc in omega arith), inl (λ e. (let z : ◌≡◌ {A = ℕ} 0 1 = cc in omega arith), d))
read_follows cut = λ next. inr (λ h. h refl, refl)
read_follows invalid = λ next. inl (λ e. (let z : ◌≡◌ {A = ℕ} 0 1 = cc in omega arith), inr (λ h. h refl, refl))

pub number_follows : (bytes : List ℕ) → Follows (parse_number bytes) (number_tests bytes)
unfolding parse_number
number_follows bytes = read_follows (read max_groups max_number bytes)

-- arguments
arguments_follow : (t c : ℕ) (bytes : List ℕ) → Follows (parse_arguments t c bytes) (argument_tests t c bytes)
unfolding parse_arguments
arguments_follow t zero bytes = λ next n d. d
arguments_follow t (suc c) bytes =
    then_follows (parse_number bytes) (number_tests bytes) _
    (λ a rest next. refuses 5 (a < t) (argument_tests t c rest (λ args rest'. next (a ∷ args) rest'))) (number_follows bytes)
    (λ a rest. need_follows 5 (tells_lt a t) _ (λ next. argument_tests t c rest (λ args rest'. next (a ∷ args) rest'))
    (then_follows (parse_arguments t c rest) (argument_tests t c rest) _ (λ args rest' next. next (a ∷ args) rest')
    (arguments_follow t c rest) (λ args rest' next n d. d)))

-- a term
node_follows : (t tag : ℕ) (bytes : List ℕ) → Follows (parse_node t tag bytes) (node_tests t tag bytes)
unfolding parse_node parse_app
node_follows t zero bytes = λ next n d. d
node_follows t (suc s) bytes =
    need_follows 4 (tells_le s max_symbol) _
    (λ next. number_tests bytes (λ c rest. refuses 4 (c ≤ max_arity)
    (argument_tests t c rest (λ args rest'. next (app s args) rest'))))
    (then_follows (parse_number bytes) (number_tests bytes) _
    (λ c rest next. refuses 4 (c ≤ max_arity)
    (argument_tests t c rest (λ args rest'. next (app s args) rest'))) (number_follows bytes)
    (λ c rest. need_follows 4 (tells_le c max_arity) _
    (λ next. argument_tests t c rest (λ args rest'. next (app s args) rest'))
    (then_follows (parse_arguments t c rest) (argument_tests t c rest) _
    (λ args rest' next. next (app s args) rest') (arguments_follow t c rest) (λ args rest' next n d. d))))

-- all terms
terms_follow : (k : ℕ) (before : Book) (bytes : List ℕ) → Follows (parse_terms k before bytes) (terms_tests k before bytes)
unfolding parse_terms
terms_follow zero before bytes = λ next n d. d
terms_follow (suc k) before bytes =
    then_follows (parse_number bytes) (number_tests bytes) _
    (λ tag rest next. node_tests (length before) tag rest (λ n rest'. terms_tests k (before ++ n ∷ []) rest' next)) (number_follows bytes)
    (λ tag rest. then_follows (parse_node (length before) tag rest) (node_tests (length before) tag rest) _
    (λ n rest' next. terms_tests k (before ++ n ∷ []) rest' next) (node_follows (length before) tag rest)
    (λ n rest'. terms_follow k (before ++ n ∷ []) rest'))

-- the whole book
written_follows : (lim : Limits) (bytes : List ℕ) → Follows (parse_written lim bytes) (λ next. written_tests lim bytes (λ b. next b []))
unfolding parse_written
written_follows lim bytes =
    then_follows (parse_number bytes) (number_tests bytes) _
    (λ n rest next. refuses 4 (n ≤ lim.max_terms) (terms_tests n [] rest (λ b rest'. refuses 3 (rest' ≡ []) (next b []))))
    (number_follows bytes)
    (λ n rest. need_follows 4 (tells_le n lim.max_terms) _
    (λ next. terms_tests n [] rest (λ b rest'. refuses 3 (rest' ≡ []) (next b [])))
    (then_follows (parse_terms n [] rest) (terms_tests n [] rest) _ (λ b rest' next. refuses 3 (rest' ≡ []) (next b []))
    (terms_follow n [] rest)
    (λ b rest'. need_follows 3 (tells_empty rest') (parsed b []) (λ next. next b []) (λ next n d. d))))

pub book_follows : (lim : Limits) (bytes : List ℕ) → Follows (parse_book lim bytes) (λ next. book_tests lim bytes (λ b. next b []))
unfolding parse_book
book_follows lim [] = λ next n d. d
book_follows lim (x ∷ xs) = written_follows lim (x ∷ xs)
