-- A value put for a variable: where the variable is absent nothing changes, and one step of unfolding keeps it. Assumes nothing.
use mathlib.Core.Path.{◌≡◌, refl, ap, ap₂, sym}
use mathlib.Core.List.{List, [], ◌∷◌}
use mathlib.Core.Bool.{Bool, true, false, cond, ◌||◌}
use mathlib.Core.Option.{Option, none, some}
use Prim.Native.Nat.{ℕ, zero, suc, ◌<◌, zero-le, suc-le-suc}
use native.Mathlib.Omega.{arith}
use lib.ListN.{length, get_or}
use lib.Dec.{T, eqb}
use borrow.Author.Tests.{ne_eqb}
use Rattle.model.specs.Term.{Node, var, app, arguments, Tree, free, node, Trees, nil, more, trees, value_step, ends_step, deref_step, occurs, occurs_any}
use Rattle.theory.specs.Binding.{put, put_all}
use Rattle.theory.proofs.Lists.Laws.{all-at, all_intro}

-- a disjunction holds where a part does, and where it is false so is each part
or_left_lem : (a c : Bool) → T a → T (a || c)
or_left_lem true c h = tt
or_left_lem false c h = absurd h

or_right : (a c : Bool) → T c → T (a || c)
or_right true c h = tt
or_right false c h = h

or_false_left : (a c : Bool) → (a || c) ≡ false → a ≡ false
or_false_left true c h = h
or_false_left false c h = refl

or_false_right : (a c : Bool) → (a || c) ≡ false → c ≡ false
or_false_right true c h = cc
or_false_right false c h = h

-- nothing changes where the variable is absent
mutual
  unfolding put put_all occurs occurs_any

  pub put_absent : (x : Tree) (v : ℕ) (y : Tree) → occurs v x ≡ false → put v y x ≡ x
  put_absent (free z) v y h = rw h
  put_absent (node s ts) v y h = ap (node s) (put_all_absent ts v y h)

  put_all_absent : (ts : Trees) (v : ℕ) (y : Tree) → occurs_any v ts ≡ false → put_all v y ts ≡ ts
  put_all_absent nil v y h = refl
  put_all_absent (more t ts) v y h =
      ap₂ more (put_absent t v y (or_false_left (occurs v t) (occurs_any v ts) h))
      (put_all_absent ts v y (or_false_right (occurs v t) (occurs_any v ts) h))

-- what occurs in the value of one argument occurs in the values of the arguments
occurs-argument : (v : ℕ) (f : ℕ → Tree) (args : List ℕ) (i : ℕ) → i < length args → T (occurs v (f (get_or args i 0))) → T (occurs_any v (trees f args))
unfolding trees occurs_any
occurs-argument v f [] i l h = absurd (omega arith)
occurs-argument v f (a ∷ args) zero l h = or_left_lem (occurs v (f a)) (occurs_any v (trees f args)) h
occurs-argument v f (a ∷ args) (suc i) l h = or_right (occurs v (f a)) (occurs_any v (trees f args)) (occurs-argument v f args i (omega arith) h)

-- what is put in each argument's value is put in all of them
trees-put : (v : ℕ) (x : Tree) (f g : ℕ → Tree) (args : List ℕ) → ((i : ℕ) → i < length args → g (get_or args i 0) ≡ put v x (f (get_or args i 0)))
    → trees g args ≡ put_all v x (trees f args)
unfolding trees put_all
trees-put v x f g [] h = refl
trees-put v x f g (a ∷ args) h =
    ap₂ more (h zero (suc-le-suc zero-le)) (trees-put v x f g args (λ i l. h (suc i) (suc-le-suc l)))

-- a term that ends, has the old value x with the value y put for v, and stands for what it did, d, or for w where that was v
pub record Moved (v : ℕ) (y : Tree) (w : ℕ) (ends : Bool) (x x' : Tree) (d d' : ℕ) : Type 0 where
  pub finite : T ends
  pub put-value : x' ≡ put v y x
  pub stands_for : d' ≡ cond (eqb v d) w d

-- One step of unfolding a term u other than v moves it so where the terms below n are moved so. Ending p, values f and what
-- terms stand for g become p', f' and g'. Where v occurs in a value, H is to hold.
module _ (H : Type 0) (n v : ℕ) (y : Tree) (w : ℕ) (p p' : ℕ → Bool) (f f' : ℕ → Tree) (g g' : ℕ → ℕ)
    (below : (a : ℕ) → a < n → T (p a) → (T (occurs v (f a)) → H) → Moved v y w (p' a) (f a) (f' a) (g a) (g' a)) where
  pub moved-step : (u : ℕ) → (u ≡ v → ⊥) → (x : Node) (o : Option ℕ)
      → ((i : ℕ) → i < length (arguments x) → get_or (arguments x) i 0 < n) → ((a : ℕ) → o ≡ some a → a < n)
      → T (ends_step p x o) → (T (occurs v (value_step f u x o)) → H)
      → Moved v y w (ends_step p' x o) (value_step f u x o) (value_step f' u x o) (deref_step g u x o) (deref_step g' u x o)
  unfolding put put_all occurs occurs_any arguments ends_step value_step deref_step
  moved-step u h var none arg-lt bound e q =
      record { finite = tt; put-value = rw (ne_eqb v u (λ s. h (sym s))); stands_for = rw (ne_eqb v u (λ s. h (sym s))) }
  moved-step u h var (some a) arg-lt bound e q = below a (bound a refl) e q
  moved-step u h (app s args) o arg-lt bound e q =
      record {
        finite = all_intro p' args 0 (λ i l. (at i l).finite);
        put-value = ap (node s) (trees-put v y f f' args (λ i l. (at i l).put-value));
        stands_for = rw (ne_eqb v u (λ s. h (sym s)));
      }
    where
      at : (i : ℕ) → i < length args → Moved v y w (p' (get_or args i 0)) (f (get_or args i 0)) (f' (get_or args i 0)) (g (get_or args i 0)) (g' (get_or args i 0))
      at i l = below (get_or args i 0) (arg-lt i l) (all-at p args 0 e i l) (λ o. q (occurs-argument v f args i l o))
