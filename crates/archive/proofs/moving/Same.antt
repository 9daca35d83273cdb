-- A book moved by functions that agree on its terms. Assumes nothing.
use Rattle.std.proofs.Common.{◌≡◌, refl, ap, ap₂, List, [], ◌∷◌, map, ℕ, suc, ◌<◌, zero-le, suc-le-suc, zero-add, length, get_or}
use Rattle.model.specs.Term.{Node, var, app, arguments, Book}
use Rattle.model.specs.Archive.{renumbered, moved}
use Rattle.theory.proofs.Lists.From.{map-from-same}

map_same : (f g : ℕ → ℕ) (xs : List ℕ) → ((i : ℕ) → i < length xs → f (get_or xs i 0) ≡ g (get_or xs i 0)) → map f xs ≡ map g xs
map_same f g [] h = refl
map_same f g (x ∷ xs) h = ap₂ ◌∷◌ (h 0 (suc-le-suc zero-le)) (map_same f g xs (λ i l. h (suc i) (suc-le-suc l)))

renumbered-same : (f g : ℕ → ℕ) (n : Node) → ((i : ℕ) → i < length (arguments n) → f (get_or (arguments n) i 0) ≡ g (get_or (arguments n) i 0))
    → renumbered f n ≡ renumbered g n
unfolding renumbered arguments
renumbered-same f g var h = refl
renumbered-same f g (app s args) h = ap (app s) (map_same f g args h)

pub moved_same : (source source' target target' : ℕ → ℕ) (b : Book)
    → ((i : ℕ) → i < length b → source i ≡ source' i) → ((i : ℕ) → i < length b → source' i < length b)
    → ((t : ℕ) → t < length b → (i : ℕ) → i < length (arguments (get_or b t var)) → get_or (arguments (get_or b t var)) i 0 < length b)
    → ((a : ℕ) → a < length b → target a ≡ target' a)
    → moved source target b ≡ moved source' target' b
unfolding moved
moved_same source source' target target' b s low args t =
    map-from-same (λ i. renumbered target (get_or b (source i) var)) (λ i. renumbered target' (get_or b (source' i) var)) var 0 (length b)
    (λ j l. rw (zero-add, s j l)
    (renumbered-same target target' (get_or b (source' j) var) (λ i k. t _ (args (source' j) (low j l) i k))))
