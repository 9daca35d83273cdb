-- Binding a free variable v to a term t in whose value it does not occur. Assumes nothing.
use mathlib.Core.Path.{◌≡◌, refl, ap, sym, ◌∙◌}
use mathlib.Core.Bool.{Bool, true, false, cond}
use mathlib.Core.Option.{Option, none, some}
use Prim.Native.Nat.{ℕ, zero, suc, ◌+◌, ◌≤◌, ◌<◌}
use native.Mathlib.Decide.{ℕ_discrete}
use native.Mathlib.Omega.{arith}
use lib.ListN.{length, get_or, set, length-set}
use lib.Seq.{get_or-set_same, get_or-set_other}
use lib.Dec.{T, eqb, eqb_refl}
use borrow.Author.Tests.{eq-eqb, ne_eqb}
use Rattle.model.specs.Term.{var, Book, Bindings, value_step, value, ends_step, ends, deref_step, deref, occurs, val, root}
use Rattle.theory.specs.Binding.{put}
use Rattle.theory.proofs.Soundness.Facts.{Formed, Acyclic}
use Rattle.theory.proofs.Values.Equations.{ends_more, value-more, deref-more}
use Rattle.theory.proofs.Values.Ends.{argument-lt, ends-length}
use Rattle.theory.proofs.Values.Put.{Moved, put_absent, moved-step}

-- equal bindings are bindings to equal terms
some_injective : (x y : ℕ) → ◌≡◌ {A = Option ℕ} (some x) (some y) → x ≡ y
some_injective x y e = cc

-- a choice between equals
cond_same : (c : Bool) (x : ℕ) → cond c x x ≡ x
cond_same true x = refl
cond_same false x = refl

-- where every term ends at some fuel, every term ends at the number of terms
pub ends-at-length : (b : Book) (β : Bindings) → Formed b β → (k : ℕ) → ((t : ℕ) → t < length b → T (ends b β k t)) → Acyclic b β
ends-at-length b β formed k h t l = ends-length b β formed k t l (h t l)

module _ (b : Book) (β : Bindings) (formed : Formed b β) (acyclic : Acyclic b β) (v t : ℕ) (v_term : v < length b)
    (t_term : t < length b) (v_var : get_or b v var ≡ var) (v_free : get_or β v none ≡ none) (absent : occurs v (val b β t) ≡ false) where
  -- v lies in the bindings
  v_bound : v < length β
  v_bound = omega (arith, formed.same_length)

  -- the bindings stay formed
  pub bound_formed : Formed b (set β v (some t))
  bound_formed =
      record {
        same_length = length-set β v (some t) ∙ formed.same_length;
        lower = formed.lower;
        small_arity = formed.small_arity;
        small-symbol = formed.small-symbol;
        bound-var = bound-var-set;
      }
    where
      bound-var-set : (a u : ℕ) → get_or (set β v (some t)) a none ≡ some u → (get_or b a var ≡ var) × (u < length b)
      bound-var-set a u e = go (ℕ_discrete a v)
        where
          go : Dec (a ≡ v) → (get_or b a var ≡ var) × (u < length b)
          go (yes q) = (ap (λ (i : ℕ). get_or b i var) q ∙ v_var, rw (some_injective t u (rw (q, get_or-set_same β v (some t) none v_bound) at e)) at t_term)
          go (no q) = formed.bound-var a u (rw get_or-set_other at e)

  -- u with k steps under the old bindings is moved to u with j steps under the new ones
  abbrev MovedAt : ℕ → ℕ → ℕ → Type 0
  MovedAt k j u =
      Moved v (val b β t) (deref b β (length b) t) (ends b (set β v (some t)) j u) (value b β k u) (value b (set β v (some t)) j u)
      (deref b β k u) (deref b (set β v (some t)) j u)

  -- v occurs in its own value under the old bindings
  v_occurs : (k u : ℕ) → u ≡ v → T (occurs v (value b β (suc k) u))
  unfolding value value_step occurs
  v_occurs k u s = rw (s, v_var, v_free) (eqb_refl v)

  -- Every term that ends is moved so, with m steps more, where v is: H says that v is, and is needed only where v occurs.
  moved_ends : (H : Type 0) (m : ℕ) → (H → (k j : ℕ) → suc k + m ≤ suc j → MovedAt (suc k) (suc j) v)
      → (k j u : ℕ) → k + m ≤ j → u < length b → T (ends b β k u) → (T (occurs v (value b β k u)) → H) → MovedAt k j u
  unfolding ends value deref
  moved_ends H m at-v zero j u f l e q = absurd e
  moved_ends H m at-v (suc k) zero u f l e q = absurd (omega arith)
  moved_ends H m at-v (suc k) (suc j) u f l e q = go (ℕ_discrete u v) (λ a. moved_ends H m at-v k j a (omega arith))
    where
      go : Dec (u ≡ v) → ((a : ℕ) → a < length b → T (ends b β k a) → (T (occurs v (value b β k a)) → H) → MovedAt k j a) → MovedAt (suc k) (suc j) u
      go (yes s) below = rw s (at-v (q (v_occurs k u s)) k j f)
      go (no s) below =
          rw (get_or-set_other β v u (some t) none s)
          (moved-step H (length b) v (val b β t) (deref b β (length b) t) (ends b β k) (ends b (set β v (some t)) j) (value b β k)
          (value b (set β v (some t)) j) (deref b β k) (deref b (set β v (some t)) j) below u s (get_or b u var) (get_or β u none)
          (argument-lt b β formed u l) (λ a r. (formed.bound-var u a r).1) e q)

  -- t ends under the new bindings, with its old value
  t_moved : MovedAt (length b) (length b) t
  t_moved = moved_ends ⊥ 0 (λ h. absurd h) (length b) (length b) t (omega arith) t_term (acyclic t t_term) (λ o. rw absent at o)

  -- v is moved so after one step more
  v_moved : (k j : ℕ) → suc k + suc (length b) ≤ suc j → MovedAt (suc k) (suc j) v
  unfolding ends value deref ends_step value_step deref_step put
  v_moved k j f =
      rw (v_var, v_free, get_or-set_same β v (some t) none v_bound)
      (record {
        finite = ends_more b (set β v (some t)) (length b) j t enough t_moved.finite;
        put-value =
            value-more b (set β v (some t)) (length b) j t enough t_moved.finite ∙ t_moved.put-value
            ∙ put_absent (val b β t) v (val b β t) absent ∙ rw (eq-eqb v v refl);
        stands_for =
            deref-more b (set β v (some t)) (length b) j t enough t_moved.finite ∙ t_moved.stands_for
            ∙ cond_same (eqb v (deref b β (length b) t)) (deref b β (length b) t) ∙ rw (eq-eqb v v refl);
      })
    where
      enough : length b ≤ j
      enough = omega arith

  -- so every term is moved so
  moved : (j u : ℕ) → length b + suc (length b) ≤ j → u < length b → MovedAt (length b) j u
  moved j u f l = moved_ends Unit (suc (length b)) (λ h. v_moved) (length b) j u f l (acyclic u l) (λ o. tt)

  -- they stay acyclic
  pub bound-acyclic : Acyclic b (set β v (some t))
  bound-acyclic =
      ends-at-length b (set β v (some t)) bound_formed (length b + suc (length b)) (λ u l. (moved (length b + suc (length b)) u (omega arith) l).finite)

  -- each new value is the old one with t's value put for v
  pub bound-value : (u : ℕ) → u < length b → val b (set β v (some t)) u ≡ put v (val b β t) (val b β u)
  bound-value u l =
      sym (value-more b (set β v (some t)) (length b) (length b + suc (length b)) u (omega arith) (bound-acyclic u l))
      ∙ (moved (length b + suc (length b)) u (omega arith) l).put-value

  -- so equal values stay equal
  pub bound_equal : (u w : ℕ) → u < length b → w < length b → val b β u ≡ val b β w → val b (set β v (some t)) u ≡ val b (set β v (some t)) w
  bound_equal u w p q h = rw (bound-value u p, bound-value w q, h)

  -- what a term stands for changes only where it stood for v: then it is what t stands for
  pub bound-deref : (u : ℕ) → u < length b
      → deref b (set β v (some t)) (length b) u ≡ cond (eqb v (deref b β (length b) u)) (deref b β (length b) t) (deref b β (length b) u)
  bound-deref u l =
      sym (deref-more b (set β v (some t)) (length b) (length b + suc (length b)) u (omega arith) (bound-acyclic u l))
      ∙ (moved (length b + suc (length b)) u (omega arith) l).stands_for

  pub bound-root : (u : ℕ) → u < length b → (deref b β (length b) u ≡ v → ⊥) → root b (set β v (some t)) u ≡ root b β u
  unfolding root
  bound-root u l h = rw (bound-deref u l, ne_eqb v (deref b β (length b) u) (λ e. h (sym e)))
