-- Two right tables over one book: entries of the same two values match, and so do their classes and their kinds. Assumes
-- nothing.
use mathlib.Core.Path.{◌≡◌, refl, ap, ap₂, sym, ◌∙◌, subst}
use mathlib.Core.List.{List, [], ◌∷◌, ◌++◌, map}
use mathlib.Core.Bool.{Bool, true, false, cond}
use Prim.Native.Nat.{ℕ, zero, suc, ◌<◌, zero-le, suc-le-suc}
use native.Mathlib.Nat.{le_of_suc-le-suc, not-suc-le-zero}
use native.Mathlib.Omega.{arith}
use lib.ListN.{length, get_or}
use lib.Dec.{eqb}
use borrow.Author.Tests.{eqb-true, eqb-false, eq-eqb, ne_eqb}
use Rattle.model.specs.Lists.{first, concat_map}
use Rattle.model.specs.Term.{alike, Book, Bindings, val, root}
use Rattle.model.specs.Table.{Kind, hole, common, Table, entry}
use Rattle.model.specs.Report.{class}
use Rattle.theory.proofs.Soundness.Facts.{Formed, Acyclic, KindRight, TableRight}
use Rattle.theory.proofs.Values.Equations.{alike_trees, alike-values, same-value-symbol, same-value-count, same-value-argument}
use Rattle.theory.proofs.Report.Meeting.{class_has, class-values}

-- Two lists of one length whose elements at the same index are in the relation R.
pub data Both (R : ℕ → ℕ → Type 0) : List ℕ → List ℕ → Type 0 where
  none : Both R [] []
  one : {i j : ℕ} {is js : List ℕ} → R i j → Both R is js → Both R (i ∷ is) (j ∷ js)

-- no test is true and false
true_not_false : (t : Bool) → t ≡ true → t ≡ false → ⊥
true_not_false t h g = let z : ◌≡◌ {A = ℕ} 0 1 = cc in omega arith

module _ {R : ℕ → ℕ → Type 0} where
  pub both_length : {is js : List ℕ} → Both R is js → length is ≡ length js
  both_length none = refl
  both_length (one h hs) = ap suc (both_length hs)

  pub both_intro : (is js : List ℕ) → length is ≡ length js → ((k : ℕ) → k < length is → R (get_or is k 0) (get_or js k 0)) → Both R is js
  both_intro [] [] e h = none
  both_intro [] (j ∷ js) e h = absurd (omega arith)
  both_intro (i ∷ is) [] e h = absurd (omega arith)
  both_intro (i ∷ is) (j ∷ js) e h = one (h 0 (suc-le-suc zero-le)) (both_intro is js (omega arith) (λ k l. h (suc k) (suc-le-suc l)))

  pub both_get_or : {is js : List ℕ} → Both R is js → (k : ℕ) → k < length is → R (get_or is k 0) (get_or js k 0)
  both_get_or none k l = absurd (not-suc-le-zero l)
  both_get_or (one h hs) zero l = h
  both_get_or (one h hs) (suc k) l = both_get_or hs k (le_of_suc-le-suc l)

  pub both_snoc : {is js : List ℕ} {i j : ℕ} → Both R is js → R i j → Both R (is ++ i ∷ []) (js ++ j ∷ [])
  both_snoc none h = one h none
  both_snoc (one g gs) h = one g (both_snoc gs h)

  -- tests that agree choose lists that match
  pub both_cond : (t u : Bool) {is js is' js' : List ℕ} → t ≡ u → (t ≡ true → Both R is js) → Both R is' js'
      → Both R (cond t is is') (cond u js js')
  both_cond true true e h g = h refl
  both_cond true false e h g = absurd (true_not_false true refl e)
  both_cond false true e h g = absurd (true_not_false true refl (sym e))
  both_cond false false e h g = g

  -- functions that agree on what is related give the same lists
  pub both_map : {B : Type 0} (f g : ℕ → B) → ((i j : ℕ) → R i j → f i ≡ g j) → {is js : List ℕ} → Both R is js → map f is ≡ map g js
  both_map f g e none = refl
  both_map f g e (one {i = i} {j = j} h hs) = ap₂ ◌∷◌ (e i j h) (both_map f g e hs)

  pub both_concat_map : (f g : ℕ → List ℕ) → ((i j : ℕ) → R i j → f i ≡ g j) → {is js : List ℕ} → Both R is js
      → concat_map f is ≡ concat_map g js
  unfolding concat_map
  both_concat_map f g e none = refl
  both_concat_map f g e (one {i = i} {j = j} h hs) = ap₂ ◌++◌ (e i j h) (both_concat_map f g e hs)

  -- tests that agree on what is related pass first at the same index
  pub both_first : (p q : ℕ → Bool) → ((i j : ℕ) → R i j → p i ≡ q j) → {is js : List ℕ} → Both R is js → first p is ≡ first q js
  unfolding first
  both_first p q e none = refl
  both_first p q e (one {i = i} {j = j} h hs) =
      ap₂ (λ (t : Bool) (n : ℕ). cond t 0 (suc n)) (e i j h) (both_first p q e hs)

-- related lists are mapped to related lists
pub both_both : {R S : ℕ → ℕ → Type 0} (f g : ℕ → ℕ) → ((i j : ℕ) → R i j → S (f i) (g j)) → {is js : List ℕ} → Both R is js
    → Both S (map f is) (map g js)
both_both f g e none = none
both_both f g e (one {i = i} {j = j} h hs) = one (e i j h) (both_both f g e hs)

-- Entry i of es and entry j of es' have the same values.
pub record Match (b : Book) (β : Bindings) (es es' : Table) (i j : ℕ) : Type 0 where
  pub present : i < length es
  pub present' : j < length es'
  pub left : val b β (entry es i).left ≡ val b β (entry es' j).left
  pub right : val b β (entry es i).right ≡ val b β (entry es' j).right

-- They are also the numbers of their classes.
pub record MatchClass (b : Book) (β : Bindings) (es es' : Table) (i j : ℕ) : Type 0 where
  pub match : Match b β es es' i j
  pub lowest : class es i ≡ i
  pub lowest' : class es' j ≡ j

-- Two kinds match: holes, or one symbol over arguments that match.
pub data MatchKind (R : ℕ → ℕ → Type 0) : Kind → Kind → Type 0 where
  holes : MatchKind R hole hole
  commons : (s : ℕ) {args args' : List ℕ} → Both R args args' → MatchKind R (common s args) (common s args')

-- two tests are the same where each passes if the other does
eqb_same : (a b c d : ℕ) → (a ≡ b → c ≡ d) → (c ≡ d → a ≡ b) → eqb a b ≡ eqb c d
eqb_same a b c d h g = go (eqb a b) refl
  where
    go : (t : Bool) → eqb a b ≡ t → t ≡ eqb c d
    go true e = sym (eq-eqb c d (h (eqb-true a b e)))
    go false e = sym (ne_eqb c d (λ x. eqb-false a b e (g x)))

-- class numbers are equal where they match one number
same_class : (b : Book) (β : Bindings) (es es' : Table) → TableRight b β es' → (x y x' y' : ℕ) → MatchClass b β es es' x x'
    → MatchClass b β es es' y y' → x ≡ y → x' ≡ y'
same_class b β es es' right x y x' y' m n e =
    sym m.lowest' ∙
    class-values b β es' right x' y' m.match.present' n.match.present'
    (sym m.match.left ∙ ap (λ (z : ℕ). val b β (entry es z).left) e ∙ n.match.left)
    (sym m.match.right ∙ ap (λ (z : ℕ). val b β (entry es z).right) e ∙ n.match.right) ∙
    n.lowest'

-- matching the other way round
match_flip : (b : Book) (β : Bindings) (es es' : Table) (i j : ℕ) → MatchClass b β es es' i j → MatchClass b β es' es j i
match_flip b β es es' i j m =
    record {
      match =
          record {
            present = m.match.present';
            present' = m.match.present;
            left = sym m.match.left;
            right = sym m.match.right;
          };
      lowest = m.lowest';
      lowest' = m.lowest;
    }

module _ (b : Book) (β : Bindings) (es es' : Table) (right : TableRight b β es) (right' : TableRight b β es') where
  -- class numbers that match are equal alike
  pub class_test : (x y x' y' : ℕ) → MatchClass b β es es' x x' → MatchClass b β es es' y y' → eqb x y ≡ eqb x' y'
  class_test x y x' y' m n =
      eqb_same x y x' y' (same_class b β es es' right' x y x' y' m n)
      (same_class b β es' es right x' y' x y (match_flip b β es es' x x' m) (match_flip b β es es' y y' n))

  -- the classes of entries that match, match
  pub match_class : (i j : ℕ) → Match b β es es' i j → MatchClass b β es es' (class es i) (class es' j)
  match_class i j m =
      let h = class_has b β es right i m.present in
      let g = class_has b β es' right' j m.present' in
      record {
        match =
            record {
              present = h.present;
              present' = g.present;
              left = h.left ∙ m.left ∙ sym g.left;
              right = h.right ∙ m.right ∙ sym g.right;
            };
        lowest = class-values b β es right (class es i) i h.present m.present h.left h.right;
        lowest' = class-values b β es' right' (class es' j) j g.present m.present' g.left g.right;
      }

module _ (b : Book) (β : Bindings) (formed : Formed b β) (acyclic : Acyclic b β) (es es' : Table) where
  -- kinds that are right for terms of the same values match
  kinds_match : (l r l' r' : ℕ) → l < length b → r < length b → l' < length b → r' < length b → val b β l ≡ val b β l'
      → val b β r ≡ val b β r' → (k k' : Kind) → KindRight b β es k (root b β l) (root b β r)
      → KindRight b β es' k' (root b β l') (root b β r') → MatchKind (Match b β es es') k k'
  kinds_match l r l' r' lt rt lt' rt' p q = go
    where
      alike_both : alike (root b β l) (root b β r) ≡ alike (root b β l') (root b β r')
      alike_both =
          alike-values b β formed acyclic l r lt rt ∙ ap₂ alike_trees p q ∙ sym (alike-values b β formed acyclic l' r' lt' rt')

      go : (k k' : Kind) → KindRight b β es k (root b β l) (root b β r) → KindRight b β es' k' (root b β l') (root b β r')
          → MatchKind (Match b β es es') k k'
      go hole hole h g = holes
      go hole (common s' args') h g = absurd (true_not_false _ g.alike-roots (sym alike_both ∙ h))
      go (common s args) hole h g = absurd (true_not_false _ h.alike-roots (alike_both ∙ g))
      go (common s args) (common s' args') h g =
          let same : s ≡ s' = h.the_symbol ∙ same-value-symbol b β formed acyclic l l' lt lt' p ∙ sym g.the_symbol in
          let count : length args ≡ length args' =
          h.count_left ∙ same-value-count b β formed acyclic l l' lt lt' p ∙ sym g.count_left in
          subst (λ (z : ℕ). MatchKind (Match b β es es') (common s args) (common z args')) same
          (commons s
          (both_intro args args' count
          (λ k n.
          let n' : k < length args' = omega arith in
          let a = h.argument k n in
          let a' = g.argument k n' in
          record {
            present = a.present;
            present' = a'.present;
            left = a.left ∙ same-value-argument b β formed acyclic l l' lt lt' p k ∙ sym a'.left;
            right = a.right ∙ same-value-argument b β formed acyclic r r' rt rt' q k ∙ sym a'.right;
          })))

  -- the kinds of entries that match, match
  pub match_kind : TableRight b β es → TableRight b β es' → (i j : ℕ) → Match b β es es' i j
      → MatchKind (Match b β es es') (entry es i).kind (entry es' j).kind
  match_kind right right' i j m =
      kinds_match (entry es i).left (entry es i).right (entry es' j).left (entry es' j).right (right.left-term i m.present)
      (right.right-term i m.present) (right'.left-term j m.present') (right'.right-term j m.present') m.left
      m.right (entry es i).kind (entry es' j).kind (right.kind-right i m.present) (right'.kind-right j m.present')
