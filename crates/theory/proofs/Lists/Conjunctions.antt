-- Several tests at once: taken apart, and put together. Assumes nothing.
use mathlib.Core.Path.{◌≡◌, refl}
use mathlib.Core.List.{List, [], ◌∷◌}
use mathlib.Core.Bool.{Bool, true, false, ◌&&◌, and-false}
use mathlib.Core.Logic.{◌↔◌}
use lib.Dec.{T}
use Rattle.model.specs.Lists.{all}
use Rattle.theory.proofs.Lists.Laws.{and_left, and_right, and_both}

-- two, three, four and six tests hold together exactly when each holds
pub and₂ : (a b : Bool) → T (a && b) ↔ (T a × T b)
and₂ a b = (λ h. (and_left a b h, and_right a b h), λ h. and_both a b h.0 h.1)

pub and₃ : (a b c : Bool) → T (a && b && c) ↔ (T a × T b × T c)
and₃ a b c = (
  λ h. let g : T a × T b = (and₂ a b).0 (and_left (a && b) c h) in (g.0, g.1, and_right (a && b) c h),
  λ h. and_both (a && b) c ((and₂ a b).1 (h.0, h.1)) h.2,
)

pub and₄ : (a b c d : Bool) → T (a && b && c && d) ↔ (T a × T b × T c × T d)
and₄ a b c d = (
  λ h. let g : T a × T b × T c = (and₃ a b c).0 (and_left (a && b && c) d h) in (g.0, g.1, g.2, and_right (a && b && c) d h),
  λ h. and_both (a && b && c) d ((and₃ a b c).1 (h.0, h.1, h.2)) h.3,
)

pub and₆ : (a b c d e f : Bool) → T (a && b && c && d && e && f) ↔ (T a × T b × T c × T d × T e × T f)
and₆ a b c d e f = (
  λ h. let g : T (a && b && c && d) × T e × T f = (and₃ (a && b && c && d) e f).0 h in
      let k : T a × T b × T c × T d = (and₄ a b c d).0 g.0 in (k.0, k.1, k.2, k.3, g.1, g.2),
  λ h. (and₃ (a && b && c && d) e f).1 ((and₄ a b c d).1 (h.0, h.1, h.2, h.3), h.4, h.5),
)

-- two tests of every element are the first of every one and the second of every one
and_exchange : (a b c d : Bool) → (a && b && (c && d)) ≡ (a && c && (b && d))
and_exchange false b c d = refl
and_exchange true b false d = and-false b
and_exchange true b true d = refl

pub all-and : {A : Type 0} (p q : A → Bool) (xs : List A) → all (λ x. p x && q x) xs ≡ (all p xs && all q xs)
unfolding all
all-and p q [] = refl
all-and p q (x ∷ xs) = rw (all-and p q xs) (and_exchange (p x) (q x) (all p xs) (all q xs))
