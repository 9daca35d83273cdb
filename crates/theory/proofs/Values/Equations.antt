-- Values: fuel, the equations of values, roots, equality of trees, names. Assumes nothing.
use mathlib.Core.Path.{◌≡◌, refl, ap, ap₂, sym, ◌∙◌}
use mathlib.Core.List.{List, [], ◌∷◌}
use mathlib.Core.Bool.{Bool, true, false, ◌&&◌}
use mathlib.Core.Option.{Option, none, some}
use Prim.Native.Nat.{ℕ, zero, suc, ◌≤◌, ◌<◌}
use native.Mathlib.Nat.{le_of_suc-le-suc, not-suc-le-zero}
use native.Mathlib.Omega.{arith}
use lib.ListN.{length, get_or}
use lib.Dec.{T, eqb, eqb→eq, eqb_refl}
use Rattle.model.specs.Lists.{all, from}
use Rattle.model.specs.Term.{Node, var, app, symbol, arguments, alike, Book, Bindings, Tree, free, node, Trees, nil, more, count, trees, value_step, value, ends_step, ends, deref_step, deref, eq_tree, eq_trees, val, root, name}
use Rattle.model.specs.Table.{Entry, holds}
use Rattle.theory.proofs.Lists.Laws.{and_left, and_right, and_both, true_T, first_holds, first-least, length_from, get_or-from}
use Rattle.theory.proofs.Soundness.Facts.{Formed, Acyclic}

-- equality of trees is a test of equality
mutual
  unfolding eq_tree eq_trees

  pub eq_tree-eq : (x y : Tree) → T (eq_tree x y) → x ≡ y
  eq_tree-eq (free x) (free y) h = ap free (eqb→eq x y h)
  eq_tree-eq (free x) (node s ts) h = absurd h
  eq_tree-eq (node s ts) (free y) h = absurd h
  eq_tree-eq (node s ts) (node s' us) h =
      ap₂ node (eqb→eq s s' (and_left (eqb s s') _ h)) (eq_trees-eq ts us (and_right (eqb s s') _ h))

  eq_trees-eq : (ts us : Trees) → T (eq_trees ts us) → ts ≡ us
  eq_trees-eq nil nil h = refl
  eq_trees-eq nil (more u us) h = absurd h
  eq_trees-eq (more t ts) nil h = absurd h
  eq_trees-eq (more t ts) (more u us) h =
      ap₂ more (eq_tree-eq t u (and_left (eq_tree t u) _ h)) (eq_trees-eq ts us (and_right (eq_tree t u) _ h))

mutual
  unfolding eq_tree eq_trees

  pub eq_tree_refl : (x : Tree) → T (eq_tree x x)
  eq_tree_refl (free x) = eqb_refl x
  eq_tree_refl (node s ts) = and_both (eqb s s) _ (eqb_refl s) (eq_trees_refl ts)

  eq_trees_refl : (ts : Trees) → T (eq_trees ts ts)
  eq_trees_refl nil = tt
  eq_trees_refl (more t ts) = and_both (eq_tree t t) _ (eq_tree_refl t) (eq_trees_refl ts)

-- where every term that passes p passes q, so do the terms of a list, and one step of unfolding
all_imply : (p q : ℕ → Bool) → ((t : ℕ) → T (p t) → T (q t)) → (args : List ℕ) → T (all p args) → T (all q args)
unfolding all
all_imply p q h [] e = tt
all_imply p q h (a ∷ args) e =
    and_both (q a) _ (h a (and_left (p a) _ e)) (all_imply p q h args (and_right (p a) _ e))

ends_step_imply : (p q : ℕ → Bool) → ((t : ℕ) → T (p t) → T (q t)) → (n : Node) (o : Option ℕ)
    → T (ends_step p n o) → T (ends_step q n o)
unfolding ends_step
ends_step_imply p q h var none e = tt
ends_step_imply p q h var (some u) e = h u e
ends_step_imply p q h (app s args) o e = all_imply p q h args e

-- where f and g agree on the terms that pass p, the arguments' values agree, one step of unfolding, and one binding
trees_agree : (p : ℕ → Bool) (f g : ℕ → Tree) → ((t : ℕ) → T (p t) → f t ≡ g t) → (args : List ℕ) → T (all p args)
    → trees f args ≡ trees g args
unfolding trees all
trees_agree p f g h [] e = refl
trees_agree p f g h (a ∷ args) e =
    ap₂ more (h a (and_left (p a) _ e)) (trees_agree p f g h args (and_right (p a) _ e))

value_step_agree : (p : ℕ → Bool) (f g : ℕ → Tree) → ((t : ℕ) → T (p t) → f t ≡ g t) → (t : ℕ) (n : Node) (o : Option ℕ)
    → T (ends_step p n o) → value_step f t n o ≡ value_step g t n o
unfolding ends_step value_step
value_step_agree p f g h t var none e = refl
value_step_agree p f g h t var (some u) e = h u e
value_step_agree p f g h t (app s args) o e = ap (node s) (trees_agree p f g h args e)

deref_step_agree : (p : ℕ → Bool) (f g : ℕ → ℕ) → ((t : ℕ) → T (p t) → f t ≡ g t) → (t : ℕ) (n : Node) (o : Option ℕ)
    → T (ends_step p n o) → deref_step f t n o ≡ deref_step g t n o
unfolding ends_step deref_step
deref_step_agree p f g h t var none e = refl
deref_step_agree p f g h t var (some u) e = h u e
deref_step_agree p f g h t (app s args) o e = refl

module _ (b : Book) (β : Bindings) where
  -- where unfolding ends, it ends with more fuel, at the same value and the same root
  pub ends_more : (k j t : ℕ) → k ≤ j → T (ends b β k t) → T (ends b β j t)
  unfolding ends
  ends_more zero j t h e = absurd e
  ends_more (suc k) zero t h e = absurd (not-suc-le-zero h)
  ends_more (suc k) (suc j) t h e =
      ends_step_imply (ends b β k) (ends b β j) (λ u. ends_more k j u (le_of_suc-le-suc h)) (get_or b t var) (get_or β t none) e

  pub value-more : (k j t : ℕ) → k ≤ j → T (ends b β k t) → value b β j t ≡ value b β k t
  unfolding ends value
  value-more zero j t h e = absurd e
  value-more (suc k) zero t h e = absurd (not-suc-le-zero h)
  value-more (suc k) (suc j) t h e =
      value_step_agree (ends b β k) (value b β j) (value b β k) (λ u. value-more k j u (le_of_suc-le-suc h)) t (get_or b t var)
      (get_or β t none) e

  pub deref-more : (k j t : ℕ) → k ≤ j → T (ends b β k t) → deref b β j t ≡ deref b β k t
  unfolding ends deref
  deref-more zero j t h e = absurd e
  deref-more (suc k) zero t h e = absurd (not-suc-le-zero h)
  deref-more (suc k) (suc j) t h e =
      deref_step_agree (ends b β k) (deref b β j) (deref b β k) (λ u. deref-more k j u (le_of_suc-le-suc h)) t (get_or b t var)
      (get_or β t none) e

  -- where unfolding ends, one step of unfolding changes nothing
  value-step : (k t : ℕ) → T (ends b β k t) → value b β k t ≡ value_step (value b β k) t (get_or b t var) (get_or β t none)
  unfolding value
  value-step k t e = sym (value-more k (suc k) t (omega arith) e)

  -- an entry holds the values of l and r exactly when its two values are theirs
  pub holds-eq : (l r : ℕ) (e : Entry) → T (holds b β l r e) → (val b β e.left ≡ val b β l) × (val b β e.right ≡ val b β r)
  unfolding holds
  holds-eq l r e h = (
    eq_tree-eq _ _ (and_left (eq_tree (val b β e.left) (val b β l)) _ h),
    eq_tree-eq _ _ (and_right (eq_tree (val b β e.left) (val b β l)) _ h),
  )

  pub eq-holds : (l r : ℕ) (e : Entry) → val b β e.left ≡ val b β l → val b β e.right ≡ val b β r → T (holds b β l r e)
  unfolding holds
  eq-holds l r e h g = rw (h, g) (and_both (eq_tree (val b β l) (val b β l)) _ (eq_tree_refl (val b β l)) (eq_tree_refl (val b β r)))

-- the root symbol of a tree (a free variable has 0), its subtrees (a free variable has none), and the one at j
tree_symbol : Tree → ℕ
tree_symbol (free x) = 0
tree_symbol (node s ts) = s

unfoldable pub subtrees : Tree → Trees
subtrees (free x) = nil
subtrees (node s ts) = ts

-- whether two values have one root symbol over as many subtrees
unfoldable pub alike_trees : Tree → Tree → Bool
alike_trees (free x) y = false
alike_trees (node s ts) (free y) = false
alike_trees (node s ts) (node s' us) = eqb s s' && eqb (count ts) (count us)

tree_at : Trees → ℕ → Tree → Tree
tree_at nil j d = d
tree_at (more t ts) zero d = t
tree_at (more t ts) (suc j) d = tree_at ts j d

-- of the trees that f gives: their count and the one at j
pub count-trees : (f : ℕ → Tree) (args : List ℕ) → count (trees f args) ≡ length args
unfolding count trees
count-trees f [] = refl
count-trees f (a ∷ args) = ap suc (count-trees f args)

tree_at_trees : (f : ℕ → Tree) (args : List ℕ) (j d : ℕ) → tree_at (trees f args) j (f d) ≡ f (get_or args j d)
unfolding tree_at trees
tree_at_trees f [] j d = refl
tree_at_trees f (a ∷ args) zero d = refl
tree_at_trees f (a ∷ args) (suc j) d = tree_at_trees f args j d

-- d is what t stands for: a term of the same value that is not bound
record Stands (b : Book) (β : Bindings) (t d : ℕ) : Type 0 where
  present : d < length b
  same : val b β d ≡ val b β t
  unbound : get_or b d var ≡ var → get_or β d none ≡ none

-- nodes that are alike have one count of arguments
pub alike-counts : (m n : Node) → alike m n ≡ true → length (arguments m) ≡ length (arguments n)
unfolding alike arguments
alike-counts var n h = let z : ◌≡◌ {A = ℕ} 0 1 = cc in absurd (omega arith)
alike-counts (app s args) var h = let z : ◌≡◌ {A = ℕ} 0 1 = cc in absurd (omega arith)
alike-counts (app s args) (app s' args') h =
    eqb→eq (length args) (length args') (and_right (eqb s s') (eqb (length args) (length args')) (true_T _ h))

module _ (b : Book) (β : Bindings) (formed : Formed b β) (acyclic : Acyclic b β) where
  -- the equations of values
  pub val-free : (t : ℕ) → t < length b → get_or b t var ≡ var → get_or β t none ≡ none → val b β t ≡ free t
  unfolding value_step
  val-free t l p q = value-step b β (length b) t (acyclic t l) ∙ rw (p, q)

  pub val-bound : (t u : ℕ) → t < length b → get_or β t none ≡ some u → val b β t ≡ val b β u
  unfolding value_step
  val-bound t u l p = value-step b β (length b) t (acyclic t l) ∙ rw ((formed.bound-var t u p).0, p)

  pub val-app : (t s : ℕ) (args : List ℕ) → t < length b → get_or b t var ≡ app s args → val b β t ≡ node s (trees (val b β) args)
  unfolding value_step
  val-app t s args l p = value-step b β (length b) t (acyclic t l) ∙ rw p

  -- the end of a chain of at most k bindings from t is what t stands for: one step, then all
  deref_step-stands : (k t : ℕ) → t < length b → (n : Node) (o : Option ℕ) → get_or b t var ≡ n → get_or β t none ≡ o
      → ((u : ℕ) → u < length b → T (ends b β k u) → Stands b β u (deref b β k u))
      → T (ends_step (ends b β k) n o) → Stands b β t (deref_step (deref b β k) t n o)
  unfolding ends_step deref_step
  deref_step-stands k t l var none p q ih e = record { present = l; same = refl; unbound = λ r. q }
  deref_step-stands k t l var (some u) p q ih e =
      let s : Stands b β u (deref b β k u) = ih u (formed.bound-var t u q).1 e in
      record { present = s.present; same = s.same ∙ sym (val-bound t u l q); unbound = s.unbound }
  deref_step-stands k t l (app s args) o p q ih e = record { present = l; same = refl; unbound = λ r. cc }

  deref-stands : (k t : ℕ) → t < length b → T (ends b β k t) → Stands b β t (deref b β k t)
  unfolding ends deref
  deref-stands zero t l e = absurd e
  deref-stands (suc k) t l e = deref_step-stands k t l (get_or b t var) (get_or β t none) refl refl (deref-stands k) e

  stands : (t : ℕ) → t < length b → Stands b β t (deref b β (length b) t)
  stands t l = deref-stands (length b) t l (acyclic t l)

  -- what a term stands for is a term, with the same value; it is a free variable or an application
  pub deref-lt : (t : ℕ) → t < length b → deref b β (length b) t < length b
  deref-lt t l = (stands t l).present

  pub val-deref : (t : ℕ) → t < length b → val b β (deref b β (length b) t) ≡ val b β t
  val-deref t l = (stands t l).same

  pub deref-free : (t : ℕ) → t < length b → root b β t ≡ var → get_or β (deref b β (length b) t) none ≡ none
  unfolding root
  deref-free t l p = (stands t l).unbound p

  -- the value of a term by its root
  pub root-var : (t : ℕ) → t < length b → root b β t ≡ var → val b β t ≡ free (deref b β (length b) t)
  unfolding root
  root-var t l p = sym (val-deref t l) ∙ val-free (deref b β (length b) t) (deref-lt t l) p (deref-free t l p)

  pub root-app : (t s : ℕ) (args : List ℕ) → t < length b → root b β t ≡ app s args → val b β t ≡ node s (trees (val b β) args)
  unfolding root
  root-app t s args l p = sym (val-deref t l) ∙ val-app (deref b β (length b) t) s args (deref-lt t l) p

  -- the arguments of a root are terms
  pub root-argument : (t : ℕ) → t < length b → (j : ℕ) → j < length (arguments (root b β t)) → get_or (arguments (root b β t)) j 0 < length b
  unfolding root
  root-argument t l j h = omega (arith, formed.lower (deref b β (length b) t) (deref-lt t l) j h, deref-lt t l)

  -- roots are alike exactly when the values have one root symbol over as many subtrees
  alike-roots : (l r : ℕ) → l < length b → r < length b → (m n : Node) → root b β l ≡ m → root b β r ≡ n
      → alike m n ≡ alike_trees (val b β l) (val b β r)
  unfolding alike alike_trees count
  alike-roots l r p q var n e g = rw (root-var l p e)
  alike-roots l r p q (app s args) var e g = rw (root-app l s args p e, root-var r q g)
  alike-roots l r p q (app s args) (app s' args') e g = rw (root-app l s args p e, root-app r s' args' q g, count-trees, count-trees)

  pub alike-values : (l r : ℕ) → l < length b → r < length b → alike (root b β l) (root b β r) ≡ alike_trees (val b β l) (val b β r)
  alike-values l r p q = alike-roots l r p q (root b β l) (root b β r) refl refl

  -- the symbol and the arguments' values of a root are read off the value
  value-symbol : (t : ℕ) → t < length b → (n : Node) → root b β t ≡ n → tree_symbol (val b β t) ≡ symbol n
  unfolding tree_symbol symbol
  value-symbol t l var p = ap tree_symbol (root-var t l p)
  value-symbol t l (app s args) p = ap tree_symbol (root-app t s args l p)

  value_subtrees : (t : ℕ) → t < length b → (n : Node) → root b β t ≡ n → subtrees (val b β t) ≡ trees (val b β) (arguments n)
  unfolding subtrees arguments trees
  value_subtrees t l var p = ap subtrees (root-var t l p)
  value_subtrees t l (app s args) p = ap subtrees (root-app t s args l p)

  -- so terms of one value have roots whose arguments have one list of values
  same-value-trees : (t u : ℕ) → t < length b → u < length b → val b β t ≡ val b β u
      → trees (val b β) (arguments (root b β t)) ≡ trees (val b β) (arguments (root b β u))
  same-value-trees t u p q h =
      sym (value_subtrees t p (root b β t) refl) ∙ (ap subtrees h ∙ value_subtrees u q (root b β u) refl)

  -- terms of one value have roots of one symbol, one count and arguments of the same values
  pub same-value-symbol : (t u : ℕ) → t < length b → u < length b → val b β t ≡ val b β u → symbol (root b β t) ≡ symbol (root b β u)
  same-value-symbol t u p q h =
      sym (value-symbol t p (root b β t) refl) ∙ (ap tree_symbol h ∙ value-symbol u q (root b β u) refl)

  pub same-value-count : (t u : ℕ) → t < length b → u < length b → val b β t ≡ val b β u
      → length (arguments (root b β t)) ≡ length (arguments (root b β u))
  same-value-count t u p q h =
      sym (count-trees (val b β) (arguments (root b β t)))
      ∙ (ap count (same-value-trees t u p q h) ∙ count-trees (val b β) (arguments (root b β u)))

  pub same-value-argument : (t u : ℕ) → t < length b → u < length b → val b β t ≡ val b β u
      → (j : ℕ) → val b β (get_or (arguments (root b β t)) j 0) ≡ val b β (get_or (arguments (root b β u)) j 0)
  same-value-argument t u p q h j =
      sym (tree_at_trees (val b β) (arguments (root b β t)) j 0)
      ∙ (ap (λ (ts : Trees). tree_at ts j (val b β 0)) (same-value-trees t u p q h)
      ∙ tree_at_trees (val b β) (arguments (root b β u)) j 0)

-- names: the lowest term with a value
module _ (b : Book) (β : Bindings) where
  -- the number at place u of the terms' numbers is u
  term-at : (u : ℕ) → u < length b → get_or (from 0 (length b)) u 0 ≡ u
  term-at u l = get_or-from 0 (length b) u 0 l ∙ omega arith

  -- no term of t's value is lower than its name; the name is a term, and has t's value
  pub name-least : (t u : ℕ) → u < length b → val b β u ≡ val b β t → name b β t ≤ u
  unfolding name
  name-least t u l h =
      first-least (λ v. eq_tree (val b β v) (val b β t)) (from 0 (length b)) 0 u (rw length_from l)
      (rw (term-at u l, h) (eq_tree_refl (val b β t)))

  pub name-lt : (t : ℕ) → t < length b → name b β t < length b
  name-lt t l = omega (arith, name-least t t l refl)

  -- the term that `name` finds passes
  name_passes : (t : ℕ) → t < length b → T (eq_tree (val b β (get_or (from 0 (length b)) (name b β t) 0)) (val b β t))
  unfolding name
  name_passes t l =
      first_holds (λ v. eq_tree (val b β v) (val b β t)) (from 0 (length b)) 0 (rw length_from (name-lt t l))

  pub val-name : (t : ℕ) → t < length b → val b β (name b β t) ≡ val b β t
  val-name t l = eq_tree-eq _ _ (rw (term-at (name b β t) (name-lt t l)) at (name_passes t l))

  -- terms have one value exactly when they have one name
  pub same-value-name : (t u : ℕ) → val b β t ≡ val b β u → name b β t ≡ name b β u
  unfolding name
  same-value-name t u h = rw h

  pub same-name-value : (t u : ℕ) → t < length b → u < length b → name b β t ≡ name b β u → val b β t ≡ val b β u
  same-name-value t u p q h = sym (val-name t p) ∙ (ap (val b β) h ∙ val-name u q)
