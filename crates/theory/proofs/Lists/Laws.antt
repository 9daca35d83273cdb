-- Laws of the list functions of `model`: all, first, from, concatMap, pairwise, eqNumbers; and of tests. Assumes nothing.
use mathlib.Core.Path.{◌≡◌, refl, ap, ap₂, sym, ◌∙◌, subst}
use mathlib.Core.List.{List, [], ◌∷◌, ◌++◌, append_assoc}
use mathlib.Core.Bool.{Bool, true, false, cond, ◌&&◌, and_assoc, and-false}
use Prim.Native.Nat.{ℕ, zero, suc, ◌+◌, ◌≤◌, ◌<◌, zero-le, suc-le-suc}
use native.Mathlib.Nat.{le_of_suc-le-suc, not-suc-le-zero, zero-add, add-zero, add-suc, suc-add}
use native.Mathlib.Omega.{arith}
use borrow.Author.Tests.{eqb-true, eqb-false, eq-eqb, ne_eqb}
use lib.ListN.{length, get_or}
use lib.Dec.{T, eqb, eqb→eq, eqb_refl}
use Rattle.model.specs.Lists.{all, first, from, concat_map, pairwise, is_empty, eq_numbers}

-- two tests hold together exactly when each does
pub and_left : (a b : Bool) → T (a && b) → T a
and_left true b h = tt
and_left false b h = h

pub and_right : (a b : Bool) → T (a && b) → T b
and_right true b h = h
and_right false b h = absurd h

pub and_both : (a b : Bool) → T a → T b → T (a && b)
and_both true b h g = g
and_both false b h g = h

-- a test that holds is true, and the other way round; a test that does not hold is false
pub T_true : (b : Bool) → T b → b ≡ true
T_true true h = refl
T_true false h = absurd h

pub true_T : (b : Bool) → b ≡ true → T b
true_T b h = subst T (sym h) tt

pub not-T_false : (b : Bool) → (T b → ⊥) → b ≡ false
not-T_false true h = absurd (h tt)
not-T_false false h = refl

-- two tests that hold together are the same
pub same_test : (a b : Bool) → (T a → T b) → (T b → T a) → a ≡ b
same_test true true f g = refl
same_test true false f g = absurd (f tt)
same_test false true f g = absurd (g tt)
same_test false false f g = refl

-- two pairs of tests, by their places
pub and_exchange : (a b c d : Bool) → a && b && (c && d) ≡ a && c && (b && d)
and_exchange false b c d = refl
and_exchange true true c d = refl
and_exchange true false c d = sym (and-false c)

-- equality of numbers, either way round
pub eqb-sym : (m n : ℕ) → eqb m n ≡ eqb n m
eqb-sym m n = go (eqb n m) refl
  where
    go : (b : Bool) → eqb n m ≡ b → eqb m n ≡ b
    go true e = eq-eqb m n (sym (eqb-true n m e))
    go false e = ne_eqb m n (λ q. eqb-false n m e (sym q))

-- the index that `first` gives is `cond b 0 (suc n)`, where b is the first element's test and n its index behind: a bound
cond-le : (b : Bool) {n m : ℕ} → n ≤ m → cond b 0 (suc n) ≤ suc m
cond-le true h = zero-le
cond-le false h = suc-le-suc h

-- that index with one more list behind (m), where one passes before that list and where none does
cond_same : (b : Bool) (n m k : ℕ) → cond b 0 (suc n) < suc k → (n < k → m ≡ n) → cond b 0 (suc m) ≡ cond b 0 (suc n)
cond_same true n m k h g = refl
cond_same false n m k h g = ap suc (g (le_of_suc-le-suc h))

cond_behind : (b : Bool) (n m k j : ℕ) → cond b 0 (suc n) ≡ suc k → (n ≡ k → m ≡ k + j) → cond b 0 (suc m) ≡ suc k + j
cond_behind true n m k j h g = omega arith
cond_behind false n m k j h g = let e : m ≡ k + j = g (omega arith) in omega arith

module _ {A : Type 0} where
  -- every element passes exactly when the element at each index does
  pub all-at : (p : A → Bool) (xs : List A) (d : A) → T (all p xs) → (i : ℕ) → i < length xs → T (p (get_or xs i d))
  unfolding all
  all-at p [] d h i l = absurd (not-suc-le-zero l)
  all-at p (x ∷ xs) d h zero l = and_left (p x) (all p xs) h
  all-at p (x ∷ xs) d h (suc i) l = all-at p xs d (and_right (p x) (all p xs) h) i (le_of_suc-le-suc l)

  pub all_intro : (p : A → Bool) (xs : List A) (d : A) → ((i : ℕ) → i < length xs → T (p (get_or xs i d))) → T (all p xs)
  unfolding all
  all_intro p [] d h = tt
  all_intro p (x ∷ xs) d h =
      and_both (p x) (all p xs) (h 0 (suc-le-suc zero-le)) (all_intro p xs d (λ i l. h (suc i) (suc-le-suc l)))

  -- every element of xs ++ ys passes exactly when those of both do
  pub all_append : (p : A → Bool) (xs ys : List A) → all p (xs ++ ys) ≡ all p xs && all p ys
  unfolding all
  all_append p [] ys = refl
  all_append p (x ∷ xs) ys = rw (all_append p xs ys, ← and_assoc (p x))

  -- tests that answer alike
  pub all_alike : (p q : A → Bool) → ((x : A) → p x ≡ q x) → (xs : List A) → all p xs ≡ all q xs
  unfolding all
  all_alike p q h [] = refl
  all_alike p q h (x ∷ xs) = ap₂ ◌&&◌ (h x) (all_alike p q h xs)

  -- two tests of every element
  pub all-and : (p q : A → Bool) (xs : List A) → all (λ x. p x && q x) xs ≡ all p xs && all q xs
  unfolding all
  all-and p q [] = refl
  all-and p q (x ∷ xs) = rw (all-and p q xs) (and_exchange (p x) (q x) (all p xs) (all q xs))

  -- the element at the index that `first` gives at the test b of x passes, where the one at n behind does
  cond-holds : (p : A → Bool) (x : A) (xs : List A) (d : A) (n : ℕ) (b : Bool) → p x ≡ b → (n < length xs → T (p (get_or xs n d)))
      → cond b 0 (suc n) < suc (length xs) → T (p (get_or (x ∷ xs) (cond b 0 (suc n)) d))
  cond-holds p x xs d n true e g l = true_T (p x) e
  cond-holds p x xs d n false e g l = g (le_of_suc-le-suc l)

  -- the first index that passes
  pub first-le : (p : A → Bool) (xs : List A) → first p xs ≤ length xs
  unfolding first
  first-le p [] = zero-le
  first-le p (x ∷ xs) = cond-le (p x) (first-le p xs)

  pub first_holds : (p : A → Bool) (xs : List A) (d : A) → first p xs < length xs → T (p (get_or xs (first p xs) d))
  unfolding first
  first_holds p [] d h = absurd (not-suc-le-zero h)
  first_holds p (x ∷ xs) d h = cond-holds p x xs d (first p xs) (p x) refl (first_holds p xs d) h

  pub first-least : (p : A → Bool) (xs : List A) (d : A) (i : ℕ) → i < length xs → T (p (get_or xs i d)) → first p xs ≤ i
  unfolding first
  first-least p [] d i l h = absurd (not-suc-le-zero l)
  first-least p (x ∷ xs) d zero l h = rw (T_true (p x) h) zero-le
  first-least p (x ∷ xs) d (suc i) l h = cond-le (p x) (first-least p xs d i (le_of_suc-le-suc l) h)

  -- no element passes where the first index is the length
  pub first-none : (p : A → Bool) (xs : List A) (d : A) → ((i : ℕ) → i < length xs → T (p (get_or xs i d)) → ⊥) → first p xs ≡ length xs
  unfolding first
  first-none p [] d h = refl
  first-none p (x ∷ xs) d h =
      rw (not-T_false (p x) (h 0 (suc-le-suc zero-le))) (ap suc (first-none p xs d (λ i l. h (suc i) (suc-le-suc l))))

  -- what stands behind does not matter where one passes before
  pub first-append : (p : A → Bool) (xs ys : List A) → first p xs < length xs → first p (xs ++ ys) ≡ first p xs
  unfolding first
  first-append p [] ys h = absurd (not-suc-le-zero h)
  first-append p (x ∷ xs) ys h = cond_same (p x) (first p xs) (first p (xs ++ ys)) (length xs) h (first-append p xs ys)

  pub first-append-none : (p : A → Bool) (xs ys : List A) → first p xs ≡ length xs → first p (xs ++ ys) ≡ length xs + first p ys
  unfolding first
  first-append-none p [] ys h = omega arith
  first-append-none p (x ∷ xs) ys h =
      cond_behind (p x) (first p xs) (first p (xs ++ ys)) (length xs) (first p ys) h (first-append-none p xs ys)

-- the first index is the same for two lists of one length whose elements pass alike
pub first_alike : {A B : Type 0} (p : A → Bool) (q : B → Bool) (xs : List A) (ys : List B) (d : A) (e : B) → length xs ≡ length ys
    → ((i : ℕ) → i < length xs → p (get_or xs i d) ≡ q (get_or ys i e)) → first p xs ≡ first q ys
unfolding first
first_alike p q [] [] d e h g = refl
first_alike p q [] (y ∷ ys) d e h g = omega arith
first_alike p q (x ∷ xs) [] d e h g = omega arith
first_alike p q (x ∷ xs) (y ∷ ys) d e h g =
    ap₂ (λ (b : Bool) (n : ℕ). cond b 0 (suc n)) (g 0 (suc-le-suc zero-le))
    (first_alike p q xs ys d e (omega arith) (λ i l. g (suc i) (suc-le-suc l)))

-- n numbers from i on, the one at j being i + j
pub length_from : (i n : ℕ) → length (from i n) ≡ n
unfolding from
length_from i zero = refl
length_from i (suc n) = ap suc (length_from (suc i) n)

pub get_or-from : (i n j d : ℕ) → j < n → get_or (from i n) j d ≡ i + j
unfolding from
get_or-from i zero j d h = absurd (not-suc-le-zero h)
get_or-from i (suc n) zero d h = omega arith
get_or-from i (suc n) (suc j) d h = get_or-from (suc i) n j d (le_of_suc-le-suc h) ∙ omega arith

-- m + k numbers are m numbers and then k
pub from-append : (i m k : ℕ) → from i (m + k) ≡ from i m ++ from (i + m) k
unfolding from
from-append i zero k = rw (zero-add, add-zero)
from-append i (suc m) k = rw (suc-add, from-append (suc i) m k, suc-add, add-suc)

-- f of the elements at each index, for lists of one length
pub length-pairwise : (f : ℕ → ℕ → ℕ) (xs ys : List ℕ) → length xs ≡ length ys → length (pairwise f xs ys) ≡ length xs
unfolding pairwise
length-pairwise f [] ys h = refl
length-pairwise f (x ∷ xs) [] h = sym h
length-pairwise f (x ∷ xs) (y ∷ ys) h = ap suc (length-pairwise f xs ys (omega arith))

pub get_or-pairwise : (f : ℕ → ℕ → ℕ) (xs ys : List ℕ) → length xs ≡ length ys
    → (i : ℕ) → i < length xs → get_or (pairwise f xs ys) i 0 ≡ f (get_or xs i 0) (get_or ys i 0)
unfolding pairwise
get_or-pairwise f [] ys h i l = absurd (not-suc-le-zero l)
get_or-pairwise f (x ∷ xs) [] h i l = omega arith
get_or-pairwise f (x ∷ xs) (y ∷ ys) h zero l = refl
get_or-pairwise f (x ∷ xs) (y ∷ ys) h (suc i) l = get_or-pairwise f xs ys (omega arith) i (le_of_suc-le-suc l)

-- the lists of xs ++ ys are those of xs, then those of ys
pub concat_map-append : {A : Type 0} (f : A → List ℕ) (xs ys : List A) → concat_map f (xs ++ ys) ≡ concat_map f xs ++ concat_map f ys
unfolding concat_map
concat_map-append f [] ys = refl
concat_map-append f (x ∷ xs) ys = rw (append_assoc, concat_map-append f xs ys)

-- equality of lists of numbers is a test of equality
pub eq_numbers-eq : (xs ys : List ℕ) → T (eq_numbers xs ys) → xs ≡ ys
unfolding eq_numbers is_empty
eq_numbers-eq [] [] h = refl
eq_numbers-eq [] (y ∷ ys) h = absurd h
eq_numbers-eq (x ∷ xs) [] h = absurd h
eq_numbers-eq (x ∷ xs) (y ∷ ys) h =
    ap₂ ◌∷◌ (eqb→eq x y (and_left (eqb x y) _ h)) (eq_numbers-eq xs ys (and_right (eqb x y) _ h))

pub eq_numbers_refl : (xs : List ℕ) → T (eq_numbers xs xs)
unfolding eq_numbers is_empty
eq_numbers_refl [] = tt
eq_numbers_refl (x ∷ xs) = and_both (eqb x x) _ (eqb_refl x) (eq_numbers_refl xs)

-- of two lists of two, part by part
pub same_first : {m n k l : ℕ} → k ∷ l ∷ [] ≡ m ∷ n ∷ [] → k ≡ m
same_first h = cc

pub same_second : {m n k l : ℕ} → k ∷ l ∷ [] ≡ m ∷ n ∷ [] → l ≡ n
same_second h = cc
