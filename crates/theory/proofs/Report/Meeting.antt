-- What a report numbers: classes of entries, each once, so that the fuel of the numbering is enough. Assumes nothing.
use mathlib.Core.Path.{◌≡◌, refl, sym, ◌∙◌, subst}
use mathlib.Core.List.{List, [], ◌∷◌, ◌++◌, map}
use mathlib.Core.Bool.{Bool, true, false, cond}
use Prim.Native.Nat.{ℕ, zero, suc, ◌+◌, ◌≤◌, ◌<◌, zero-le, suc-le-suc}
use native.Mathlib.Nat.{le_of_suc-le-suc, not-suc-le-zero}
use native.Mathlib.Omega.{arith}
use lib.ListN.{length, get_or, length-map}
use lib.Dec.{eqb, ltb}
use borrow.Author.Tests.{ltb-true, ltb-false, le-ltb, eq-eqb}
use Rattle.model.specs.Lists.{first}
use Rattle.model.specs.Term.{Node, Book, Bindings, val}
use Rattle.model.specs.Table.{Kind, hole, common, Table, entry}
use Rattle.model.specs.Report.{meet, meet_all, kind_arguments, class, argument_classes, meet_arguments, order}
use Rattle.theory.specs.Numbering.{Distinct, Met}
use Rattle.theory.proofs.Soundness.Facts.{Has, KindRight, TableRight}
use Rattle.theory.proofs.Lists.Laws.{true_T, first-least}
use Rattle.theory.proofs.Lists.Pigeonhole.{pigeonhole}
use Rattle.theory.proofs.Table.Place.{get_or-map-lt, entry_of_has, entry_of-least, entry_of-values}

-- every element of a list, and one more behind it
snoc_all : (P : ℕ → Type 0) (xs : List ℕ) (x : ℕ) → ((i : ℕ) → i < length xs → P (get_or xs i 0)) → P x
    → (i : ℕ) → i < length (xs ++ x ∷ []) → P (get_or (xs ++ x ∷ []) i 0)
snoc_all P [] x h p zero l = p
snoc_all P [] x h p (suc i) l = absurd (not-suc-le-zero (le_of_suc-le-suc l))
snoc_all P (y ∷ ys) x h p zero l = h 0 (suc-le-suc zero-le)
snoc_all P (y ∷ ys) x h p (suc i) l = snoc_all P ys x (λ i l. h (suc i) (suc-le-suc l)) p i (le_of_suc-le-suc l)

-- distinct elements stay so with another behind
snoc_distinct : (xs : List ℕ) (x : ℕ) → Distinct xs → ((i : ℕ) → i < length xs → get_or xs i 0 ≡ x → ⊥) → Distinct (xs ++ x ∷ [])
snoc_distinct [] x h g i j p l e = omega arith
snoc_distinct (y ∷ ys) x h g i zero p l e = not-suc-le-zero p
snoc_distinct (y ∷ ys) x h g zero (suc j) p l e =
    snoc_all (λ z. y ≡ z → ⊥) ys x (λ k m. h 0 (suc k) (suc-le-suc zero-le) (suc-le-suc m)) (g 0 (suc-le-suc zero-le)) j
    (le_of_suc-le-suc l) e
snoc_distinct (y ∷ ys) x h g (suc i) (suc j) p l e =
    snoc_distinct ys x (λ i j p l. h (suc i) (suc j) (suc-le-suc p) (suc-le-suc l)) (λ i l. g (suc i) (suc-le-suc l)) i j
    (le_of_suc-le-suc p) (le_of_suc-le-suc l) e

pub met_none : (n : ℕ) → Met n []
met_none n = record { below = λ i l. absurd (not-suc-le-zero l); distinct = λ i j p l e. not-suc-le-zero l }

-- a number that `first` does not find is not there
first_absent : (met : List ℕ) (x : ℕ) → ltb (first (eqb x) met) (length met) ≡ false → (i : ℕ) → i < length met → get_or met i 0 ≡ x → ⊥
first_absent met x e i l h =
    let p : first (eqb x) met ≤ i = first-least (eqb x) met 0 i l (true_T (eqb x (get_or met i 0)) (eq-eqb x (get_or met i 0) (sym h))) in
    omega (arith, ltb-false (first (eqb x) met) (length met) e)

module _ (n : ℕ) where
  -- one more number is met
  pub met_meet : (met : List ℕ) (x : ℕ) → Met n met → x < n → Met n (meet met x)
  unfolding meet
  met_meet met x m h = go (ltb (first (eqb x) met) (length met)) refl
    where
      go : (b : Bool) → ltb (first (eqb x) met) (length met) ≡ b → Met n (cond b met (met ++ x ∷ []))
      go true e = m
      go false e =
          record {
            below = snoc_all (λ z. z < n) met x m.below h;
            distinct = snoc_distinct met x m.distinct (first_absent met x e);
          }

  -- several more are met
  pub met_meet_all : (met xs : List ℕ) → Met n met → ((i : ℕ) → i < length xs → get_or xs i 0 < n) → Met n (meet_all met xs)
  unfolding meet_all
  met_meet_all met [] m h = m
  met_meet_all met (x ∷ xs) m h =
      met_meet_all (meet met x) xs (met_meet met x m (h 0 (suc-le-suc zero-le))) (λ i l. h (suc i) (suc-le-suc l))

-- a choice is the same where its first case is, when it is taken
cond_when : (t : Bool) (x y z : List ℕ) → (t ≡ true → x ≡ y) → cond t x z ≡ cond t y z
cond_when true x y z h = h refl
cond_when false x y z h = refl

-- the arguments of a right kind are in the table
pub kind-arguments-below : (b : Book) (β : Bindings) (es : Table) (k : Kind) (l r : Node) → KindRight b β es k l r
    → (j : ℕ) → j < length (kind_arguments k) → get_or (kind_arguments k) j 0 < length es
unfolding kind_arguments
kind-arguments-below b β es hole l r h j p = absurd (not-suc-le-zero p)
kind-arguments-below b β es (common s args) l r h j p = (h.argument j p).present

module _ (b : Book) (β : Bindings) (es : Table) (right : TableRight b β es) where
  -- the class of an entry has its values
  pub class_has : (i : ℕ) → i < length es → Has b β es (class es i) (entry es i).left (entry es i).right
  unfolding class
  class_has i l =
      let own : Has b β es i (entry es i).left (entry es i).right = record { present = l; left = refl; right = refl } in
      let low = entry_of-least b β es i (entry es i).left (entry es i).right own in
      rw (right.same_as i l) (entry_of_has b β es (entry es i).left (entry es i).right (omega arith))

  -- entries of the same values are of one class
  pub class-values : (i j : ℕ) → i < length es → j < length es → val b β (entry es i).left ≡ val b β (entry es j).left
      → val b β (entry es i).right ≡ val b β (entry es j).right → class es i ≡ class es j
  unfolding class
  class-values i j l m p q =
      right.same_as i l ∙ entry_of-values b β es (entry es i).left (entry es i).right (entry es j).left (entry es j).right p q ∙
      sym (right.same_as j m)

  -- classes of entries are in the table
  pub classes-below : (xs : List ℕ) → ((i : ℕ) → i < length xs → get_or xs i 0 < length es)
      → (i : ℕ) → i < length (map (class es) xs) → get_or (map (class es) xs) i 0 < length es
  classes-below xs h i l =
      let m : i < length xs = subst (λ (n : ℕ). i < n) (length-map xs (class es)) l in
      rw (get_or-map-lt (class es) xs i 0 0 m) (class_has (get_or xs i 0) (h i m)).present

  -- the classes of an entry's arguments are met
  pub met_arguments : (met : List ℕ) (c : ℕ) → Met (length es) met → c < length es → Met (length es) (meet_all met (argument_classes es c))
  unfolding argument_classes
  met_arguments met c m h =
      met_meet_all (length es) met (argument_classes es c) m
      (classes-below (kind_arguments (entry es c).kind) (kind-arguments-below b β es (entry es c).kind _ _ (right.kind-right c h)))

  -- a list that was met is no longer than the table
  pub met_short : (met : List ℕ) → Met (length es) met → length met ≤ length es
  met_short met m = pigeonhole met (length es) m.below m.distinct

  -- fuel for the entries from i on is enough: two such amounts number the same
  enough : (k k' i : ℕ) (met : List ℕ) → Met (length es) met → length es ≤ k + i → length es ≤ k' + i
      → meet_arguments es k i met ≡ meet_arguments es k' i met
  unfolding meet_arguments
  enough zero zero i met m p q = refl
  enough zero (suc k') i met m p q = let h = met_short met m in rw (le-ltb i (length met) (omega arith))
  enough (suc k) zero i met m p q = let h = met_short met m in rw (le-ltb i (length met) (omega arith))
  enough (suc k) (suc k') i met m p q =
      cond_when (ltb i (length met)) _ _ met
      (λ e. enough k k' (suc i) _ (met_arguments met _ m (m.below i (ltb-true i (length met) e))) (omega arith) (omega arith))

  -- the numbering from lines in the table is the same over more fuel
  pub order-more : (lines : List ℕ) → ((i : ℕ) → i < length lines → get_or lines i 0 < length es) → (n : ℕ) → length es ≤ n
      → order es lines ≡ meet_arguments es n 0 (meet_all [] (map (class es) lines))
  unfolding order
  order-more lines h n p =
      enough (length es) n 0 (meet_all [] (map (class es) lines))
      (met_meet_all (length es) [] (map (class es) lines) (met_none (length es)) (classes-below lines h)) (omega arith) (omega arith)
