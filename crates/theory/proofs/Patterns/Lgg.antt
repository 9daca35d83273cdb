-- The least general generalization of two values, and why it is the least. Assumes nothing.
use mathlib.Core.Path.{◌≡◌, refl, ap, ap₂, sym, ◌∙◌}
use mathlib.Core.List.{List, [], ◌∷◌, map}
use mathlib.Core.Bool.{false, cond, ◌&&◌}
use Prim.Native.Nat.{ℕ, suc}
use lib.Dec.{eqb}
use borrow.Author.Tests.{eq-eqb}
use Rattle.model.specs.Term.{Tree, free, node, Trees, nil, more, count}
use Rattle.model.specs.Pattern.{Pattern, variable, apply, Patterns, end, then, fill, fill_all, refine, refine_all}
use Rattle.theory.proofs.Values.Equations.{alike_trees}

-- two fillings give one list of patterns as many values
pub fill-counts : (σ τ : ℕ → Tree) (qs : Patterns) → count (fill_all σ qs) ≡ count (fill_all τ qs)
unfolding fill fill_all count
fill-counts σ τ end = refl
fill-counts σ τ (then q qs) = ap suc (fill-counts σ τ qs)

-- `class` numbers the open place of each pair of values
module _ (class : Tree → Tree → ℕ) where
  unfoldable mutual
    pub lgg : Tree → Tree → Pattern
    lgg (free x) u = variable (class (free x) u)
    lgg (node s ts) (free y) = variable (class (node s ts) (free y))
    lgg (node s ts) (node s' us) = cond (eqb s s' && eqb (count ts) (count us)) (apply s (lgg_all ts us)) (variable (class (node s ts) (node s' us)))

    pub lgg_all : Trees → Trees → Patterns
    lgg_all nil us = end
    lgg_all (more t ts) nil = end
    lgg_all (more t ts) (more u us) = then (lgg t u) (lgg_all ts us)

  -- values that are not alike are generalized by an open place, others by their symbol
  pub lgg_variable : (x y : Tree) → alike_trees x y ≡ false → lgg x y ≡ variable (class x y)
  unfolding lgg alike_trees
  lgg_variable (free x) y h = refl
  lgg_variable (node s ts) (free y) h = refl
  lgg_variable (node s ts) (node s' us) h = rw h

  pub lgg_apply : (s : ℕ) (ts us : Trees) → count ts ≡ count us → lgg (node s ts) (node s us) ≡ apply s (lgg_all ts us)
  unfolding lgg
  lgg_apply s ts us e = rw (eq-eqb s s refl, eq-eqb (count ts) (count us) e)

  -- whatever covers both values by σ and τ becomes their generalization by one filling
  module _ (σ τ : ℕ → Tree) where
    mutual
      unfolding fill refine lgg

      pub least : (q : Pattern) → refine (λ x. lgg (σ x) (τ x)) q ≡ lgg (fill σ q) (fill τ q)
      least (variable x) = refl
      least (apply s qs) = ap (apply s) (least_all qs) ∙ sym (lgg_apply s (fill_all σ qs) (fill_all τ qs) (fill-counts σ τ qs))

      least_all : (qs : Patterns) → refine_all (λ x. lgg (σ x) (τ x)) qs ≡ lgg_all (fill_all σ qs) (fill_all τ qs)
      least_all end = refl
      least_all (then q qs) = ap₂ then (least q) (least_all qs)

    -- the same for lists of patterns that cover the same values
    pub least-list : (l r : ℕ → Tree) (qs : List Pattern) (is : List ℕ) → map (fill σ) qs ≡ map l is → map (fill τ) qs ≡ map r is
        → map (refine (λ x. lgg (σ x) (τ x))) qs ≡ map (λ i. lgg (l i) (r i)) is
    least-list l r [] [] h g = refl
    least-list l r [] (i ∷ is) h g = cc
    least-list l r (q ∷ qs) [] h g = cc
    least-list l r (q ∷ qs) (i ∷ is) h g =
        let h₁ : map (fill σ) qs ≡ map l is = cc in
        let g₁ : map (fill τ) qs ≡ map r is = cc in
        cc (least q, least-list l r qs is h₁ g₁)
