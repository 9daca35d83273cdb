-- What a table keeps when a free variable v is bound to a term t in whose value it does not occur. Assumes nothing.
use mathlib.Core.Path.{◌≡◌, sym, ◌∙◌}
use mathlib.Core.List.{List}
use mathlib.Core.Bool.{true, false, true≢false, false≢true}
use mathlib.Core.Logic.{◌⊎◌, inl, inr}
use mathlib.Core.Option.{none, some}
use Prim.Native.Nat.{ℕ, ◌≤◌, ◌<◌}
use native.Mathlib.Omega.{arith}
use lib.ListN.{length, get_or, set}
use Rattle.model.specs.Term.{Node, var, app, alike, Book, Bindings, deref, occurs, val, root}
use Rattle.model.specs.Table.{Kind, hole, common, is_hole, Table, entry, entry_of}
use Rattle.theory.proofs.Soundness.Facts.{Formed, Acyclic, Has, CommonRight, KindRight, TableRight}
use Rattle.theory.proofs.Values.Equations.{root-argument}
use Rattle.theory.proofs.Values.Binding.{bound_equal, bound-root}
use Rattle.theory.proofs.Table.Place.{Extends, has_extends, entry_of_has, entry_of-least, eq-or-not}
use Rattle.theory.proofs.Table.WalkInvariant.{Pending, Holding}
use Rattle.theory.proofs.Table.WalkEntries.{found_self}

-- a variable is alike to no node
var-alike : (n : Node) → alike var n ≡ true → ⊥
unfolding alike
var-alike n e = false≢true e

alike-var : (n : Node) → alike n var ≡ true → ⊥
unfolding alike
alike-var var e = false≢true e
alike-var (app s args) e = false≢true e

module _ (b : Book) (β : Bindings) (formed : Formed b β) (acyclic : Acyclic b β) (v t : ℕ) (v_term : v < length b)
    (t_term : t < length b) (v_var : get_or b v var ≡ var) (v_free : get_or β v none ≡ none) (absent : occurs v (val b β t) ≡ false)
    (es : Table) (right : TableRight b β es) where
  abbrev β' : Bindings
  β' = set β v (some t)

  -- what stands for v has a variable for root
  stood-root : (u : ℕ) → deref b β (length b) u ≡ v → root b β u ≡ var
  unfolding root
  stood-root u e = rw e v_var

  -- a term whose root is alike to another does not stand for v, so its root stays
  left-stays : (l r : ℕ) → l < length b → alike (root b β l) (root b β r) ≡ true → root b β' l ≡ root b β l
  left-stays l r p e =
      bound-root b β formed acyclic v t v_term t_term v_var v_free absent l p
      (λ q. var-alike (root b β r) (rw (stood-root l q) at e))

  right-stays : (l r : ℕ) → r < length b → alike (root b β l) (root b β r) ≡ true → root b β' r ≡ root b β r
  right-stays l r p e =
      bound-root b β formed acyclic v t v_term t_term v_var v_free absent r p
      (λ q. alike-var (root b β l) (rw (stood-root r q) at e))

  -- an entry keeps the values of a pair of terms
  has_bound : (i l r : ℕ) → l < length b → r < length b → Has b β es i l r → Has b β' es i l r
  has_bound i l r p q h =
      record {
        present = h.present;
        left = bound_equal b β formed acyclic v t v_term t_term v_var v_free absent _ _ (right.left-term i h.present) p h.left;
        right = bound_equal b β formed acyclic v t v_term t_term v_var v_free absent _ _ (right.right-term i h.present) q h.right;
      }

  -- a right common entry stays right
  common-bound : (s : ℕ) (args : List ℕ) (l r : ℕ) → l < length b → r < length b → CommonRight b β es s args (root b β l) (root b β r)
      → CommonRight b β' es s args (root b β' l) (root b β' r)
  common-bound s args l r p q c =
      rw (left-stays l r p c.alike-roots, right-stays l r q c.alike-roots)
      (record {
        alike-roots = c.alike-roots;
        the_symbol = c.the_symbol;
        count_left = c.count_left;
        count-right = c.count-right;
        argument = λ j h.
            has_bound _ _ _ (root-argument b β formed acyclic l p j (omega (arith, c.count_left)))
            (root-argument b β formed acyclic r q j (omega (arith, c.count-right))) (c.argument j h);
      })

  pending_bound : (k : Kind) (l r : ℕ) → l < length b → r < length b → KindRight b β es k (root b β l) (root b β r)
      → Pending b β' es k (root b β' l) (root b β' r)
  pending_bound hole l r p q h = tt
  pending_bound (common s args) l r p q h = common-bound s args l r p q h

  -- so the walk under the new bindings can begin
  pub bound_holding : Holding b β' es
  bound_holding =
      record {
        left-term = right.left-term;
        right-term = right.right-term;
        pending = λ j h. pending_bound (entry es j).kind _ _ (right.left-term j h) (right.right-term j h) (right.kind-right j h);
        distinct-pairs = right.distinct-pairs;
      }

  -- the lowest entry of an old entry's values does not rise
  pub bound-same_as : (es' : Table) → Extends es es' → (j : ℕ) → j < length es
      → entry_of b β' es' (entry es j).left (entry es j).right ≤ (entry es j).same_as
  bound-same_as es' x j h =
      rw (right.same_as j h)
      (entry_of-least b β' es' _ _ _
      (has_extends b β' es es' _ _ _ x
      (has_bound _ _ _ (right.left-term j h) (right.right-term j h) (entry_of_has b β es _ _ (found_self b β es j h)))))

  -- where roots were not alike and are, a side stood for v
  stood-at : (l r : ℕ) → l < length b → r < length b → alike (root b β l) (root b β r) ≡ false → alike (root b β' l) (root b β' r) ≡ true
      → (deref b β (length b) l ≡ v) ⊎ (deref b β (length b) l ≡ v → ⊥) → (deref b β (length b) r ≡ v) ⊎ (deref b β (length b) r ≡ v → ⊥)
      → (deref b β (length b) l ≡ v) ⊎ (deref b β (length b) r ≡ v)
  stood-at l r p q e g (inl x) y = inl x
  stood-at l r p q e g (inr x) (inl y) = inr y
  stood-at l r p q e g (inr x) (inr y) =
      let same_left = bound-root b β formed acyclic v t v_term t_term v_var v_free absent l p x in
      let same-right = bound-root b β formed acyclic v t v_term t_term v_var v_free absent r q y in
      absurd (true≢false (sym (rw (same_left, same-right) at g) ∙ e))

  -- a hole of a right table is not alike
  hole_apart : (k : Kind) (l r : Node) → is_hole k ≡ true → KindRight b β es k l r → alike l r ≡ false
  unfolding is_hole
  hole_apart hole l r e h = h
  hole_apart (common s args) l r e h = absurd (false≢true e)

  -- so a side of a turned entry stood for v
  pub turned-stood : (j : ℕ) → j < length es → is_hole (entry es j).kind ≡ true
      → alike (root b β' (entry es j).left) (root b β' (entry es j).right) ≡ true
      → (deref b β (length b) (entry es j).left ≡ v) ⊎ (deref b β (length b) (entry es j).right ≡ v)
  turned-stood j h e g =
      stood-at _ _ (right.left-term j h) (right.right-term j h)
      (hole_apart (entry es j).kind _ _ e (right.kind-right j h)) g (eq-or-not _ v) (eq-or-not _ v)
