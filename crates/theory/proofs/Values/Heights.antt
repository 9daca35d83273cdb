-- The height of a value is at most the number of steps that unfolded it. Assumes nothing.
use mathlib.Core.List.{List, [], ◌∷◌}
use mathlib.Core.Option.{Option, none, some}
use Prim.Native.Nat.{ℕ, zero, suc, ◌≤◌, ◌<◌, zero-le, suc-le-suc, max}
use native.Mathlib.Nat.{not-suc-le-zero, le_of_suc-le-suc}
use native.Mathlib.Omega.{arith}
use lib.ListN.{length, get_or}
use Rattle.model.specs.Term.{Node, var, app, Book, Bindings, Tree, free, node, Trees, nil, more, trees, value_step, value}

unfoldable mutual
  pub height : Tree → ℕ
  height (free x) = 0
  height (node s ts) = suc (heights ts)

  pub heights : Trees → ℕ
  heights nil = 0
  heights (more t ts) = max (height t) (heights ts)

module _ (f : ℕ → Tree) where
  -- a tree of a list is at most as high as the list, and the list as any bound of its trees
  pub height_at : (args : List ℕ) (j : ℕ) → j < length args → height (f (get_or args j 0)) ≤ heights (trees f args)
  unfolding heights trees
  height_at [] j l = absurd (not-suc-le-zero l)
  height_at (a ∷ args) zero l = omega arith
  height_at (a ∷ args) (suc j) l = omega (arith, height_at args j (le_of_suc-le-suc l))

  module _ (k : ℕ) (low : (u : ℕ) → height (f u) ≤ k) where
    heights_le : (args : List ℕ) → heights (trees f args) ≤ k
    unfolding heights trees
    heights_le [] = zero-le
    heights_le (a ∷ args) = omega (arith, low a, heights_le args)

    -- a step adds at most one
    height_step : (t : ℕ) (n : Node) (o : Option ℕ) → height (value_step f t n o) ≤ suc k
    unfolding height value_step
    height_step t var none = zero-le
    height_step t var (some u) = omega (arith, low u)
    height_step t (app s args) o = suc-le-suc (heights_le args)

pub height_value : (b : Book) (β : Bindings) (k t : ℕ) → height (value b β k t) ≤ k
unfolding height value
height_value b β zero t = zero-le
height_value b β (suc k) t = height_step (value b β k) k (height_value b β k) t (get_or b t var) (get_or β t none)
