-- Search: the lowest entry with two values, and tables that extend others. Assumes nothing.
use mathlib.Core.Path.{◌≡◌, refl, ap, sym, ◌∙◌}
use mathlib.Core.List.{List, [], ◌∷◌, map}
use mathlib.Core.Bool.{Bool, true, false}
use mathlib.Core.Logic.{◌⊎◌, inl, inr}
use Prim.Native.Nat.{ℕ, zero, suc, ◌≤◌, ◌<◌}
use native.Mathlib.Nat.{le_of_suc-le-suc, not-suc-le-zero}
use native.Mathlib.Omega.{arith}
use borrow.Author.Tests.{ltb-true, ltb-false, eqb-true, eqb-false}
use lib.ListN.{length, get_or}
use lib.Dec.{eqb, ltb}
use Rattle.model.specs.Term.{Book, Bindings, val}
use Rattle.model.specs.Lists.{first}
use Rattle.model.specs.Table.{Entry, hole_at, Table, entry, holds, entry_of}
use Rattle.theory.proofs.Soundness.Facts.{Has}
use Rattle.theory.proofs.Lists.Laws.{first-le, first_holds, first-least, first_alike}
use Rattle.theory.proofs.Values.Equations.{holds-eq, eq-holds}

-- of two numbers the first is lower, or the second is at most the first
lt-or-le-at : (a b : ℕ) (t : Bool) → ltb a b ≡ t → (a < b) ⊎ (b ≤ a)
lt-or-le-at a b true e = inl (ltb-true a b e)
lt-or-le-at a b false e = inr (ltb-false a b e)

pub lt-or-le : (a b : ℕ) → (a < b) ⊎ (b ≤ a)
lt-or-le a b = lt-or-le-at a b (ltb a b) refl

eq-or-not-at : (a b : ℕ) (t : Bool) → eqb a b ≡ t → (a ≡ b) ⊎ (a ≡ b → ⊥)
eq-or-not-at a b true e = inl (eqb-true a b e)
eq-or-not-at a b false e = inr (eqb-false a b e)

-- two numbers are equal or not
pub eq-or-not : (a b : ℕ) → (a ≡ b) ⊎ (a ≡ b → ⊥)
eq-or-not a b = eq-or-not-at a b (eqb a b) refl

-- the mapped element at an index
pub get_or-map-lt : {A B : Type 0} (f : A → B) (xs : List A) (i : ℕ) (d : A) (d' : B) → i < length xs → get_or (map f xs) i d' ≡ f (get_or xs i d)
get_or-map-lt f [] i d d' h = absurd (not-suc-le-zero h)
get_or-map-lt f (x ∷ xs) zero d d' h = refl
get_or-map-lt f (x ∷ xs) (suc i) d d' h = get_or-map-lt f xs i d d' (le_of_suc-le-suc h)

-- es' has the pairs of es at their numbers, and perhaps more.
pub record Extends (es es' : Table) : Type 0 where
  pub longer : length es ≤ length es'
  pub left : (i : ℕ) → i < length es → (entry es' i).left ≡ (entry es i).left
  pub right : (i : ℕ) → i < length es → (entry es' i).right ≡ (entry es i).right

-- a table extends itself, and what extends an extension extends the first
pub extends_refl : (es : Table) → Extends es es
extends_refl es = record { longer = omega arith; left = λ i h. refl; right = λ i h. refl }

pub extends_trans : (es es' es'' : Table) → Extends es es' → Extends es' es'' → Extends es es''
extends_trans es es' es'' h g =
    record {
      longer = omega (arith, h.longer, g.longer);
      left = λ i l. g.left i (omega (arith, h.longer)) ∙ h.left i l;
      right = λ i l. g.right i (omega (arith, h.longer)) ∙ h.right i l;
    }

-- a table whose first entries are those of es extends it
pub extends_whole : (es es' : Table) → length es ≤ length es' → ((i : ℕ) → i < length es → entry es' i ≡ entry es i) → Extends es es'
extends_whole es es' h g =
    record { longer = h; left = λ i l. ap (λ (e : Entry). e.left) (g i l); right = λ i l. ap (λ (e : Entry). e.right) (g i l) }

module _ (b : Book) (β : Bindings) where
  -- an entry keeps its values in a table that extends it
  pub has_extends : (es es' : Table) (i l r : ℕ) → Extends es es' → Has b β es i l r → Has b β es' i l r
  has_extends es es' i l r x h =
      record {
        present = omega (arith, x.longer, h.present);
        left = ap (val b β) (x.left i h.present) ∙ h.left;
        right = ap (val b β) (x.right i h.present) ∙ h.right;
      }

  -- and had them before, where it was there
  pub has_back : (es es' : Table) (i l r : ℕ) → Extends es es' → i < length es → Has b β es' i l r → Has b β es i l r
  has_back es es' i l r x p h =
      record {
        present = p;
        left = ap (val b β) (sym (x.left i p)) ∙ h.left;
        right = ap (val b β) (sym (x.right i p)) ∙ h.right;
      }

  -- the number found has the values, and is the lowest that has them
  pub entry_of-le : (es : Table) (l r : ℕ) → entry_of b β es l r ≤ length es
  unfolding entry_of
  entry_of-le es l r = first-le (holds b β l r) es

  pub entry_of_has : (es : Table) (l r : ℕ) → entry_of b β es l r < length es → Has b β es (entry_of b β es l r) l r
  unfolding entry_of
  entry_of_has es l r h =
      let g = holds-eq b β l r (entry es (first (holds b β l r) es)) (first_holds (holds b β l r) es (hole_at 0 0 0) h) in
      record { present = h; left = g.0; right = g.1 }

  pub entry_of-least : (es : Table) (i l r : ℕ) → Has b β es i l r → entry_of b β es l r ≤ i
  unfolding entry_of
  entry_of-least es i l r h =
      first-least (holds b β l r) es (hole_at 0 0 0) i h.present (eq-holds b β l r (entry es i) h.left h.right)

  -- it depends on the values of the pairs alone, and stays in a table that extends this one
  pub entry_of-values : (es : Table) (l r l' r' : ℕ) → val b β l ≡ val b β l' → val b β r ≡ val b β r' → entry_of b β es l r ≡ entry_of b β es l' r'
  unfolding entry_of holds
  entry_of-values es l r l' r' p q =
      first_alike (holds b β l r) (holds b β l' r') es es (hole_at 0 0 0) (hole_at 0 0 0) refl (λ i h. rw (p, q))

  -- a table that is no longer and has what the other has finds no higher number
  entry_of_mono_at : (es es' : Table) (l r : ℕ) → length es ≤ length es' → ((i : ℕ) → Has b β es' i l r → Has b β es i l r)
      → (entry_of b β es' l r < length es') ⊎ (length es' ≤ entry_of b β es' l r) → entry_of b β es l r ≤ entry_of b β es' l r
  entry_of_mono_at es es' l r p h (inl q) = entry_of-least es _ l r (h _ (entry_of_has es' l r q))
  entry_of_mono_at es es' l r p h (inr q) = omega (arith, entry_of-le es l r)

  pub entry_of_mono : (es es' : Table) (l r : ℕ) → length es ≤ length es' → ((i : ℕ) → Has b β es' i l r → Has b β es i l r)
      → entry_of b β es l r ≤ entry_of b β es' l r
  entry_of_mono es es' l r p h = entry_of_mono_at es es' l r p h (lt-or-le _ _)

  pub entry_of_extends : (es es' : Table) (l r : ℕ) → Extends es es' → entry_of b β es l r < length es → entry_of b β es' l r ≡ entry_of b β es l r
  entry_of_extends es es' l r x h =
      let up : entry_of b β es' l r ≤ entry_of b β es l r = entry_of-least es' _ l r (has_extends es es' _ l r x (entry_of_has es l r h)) in
      let there = entry_of_has es' l r (omega (arith, x.longer)) in
      let down : entry_of b β es l r ≤ entry_of b β es' l r = entry_of-least es _ l r (has_back es es' _ l r x (omega arith) there) in
      omega arith

  pub entry_of-same-length : (es es' : Table) (l r : ℕ) → Extends es es' → length es ≡ length es' → entry_of b β es' l r ≡ entry_of b β es l r
  entry_of-same-length es es' l r x h =
      let up : entry_of b β es' l r ≤ entry_of b β es l r = entry_of_mono es' es l r (omega arith) (λ i. has_extends es es' i l r x) in
      let down : entry_of b β es l r ≤ entry_of b β es' l r =
      entry_of_mono es es' l r (omega arith) (λ i g. has_back es es' i l r x (omega (arith, g.present)) g) in
      omega arith
