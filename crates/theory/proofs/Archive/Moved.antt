-- Books renumbered by a list that names every term once: old and new numbers undo each other, and so do moving there and back.
-- Assumes nothing.
use mathlib.Core.Path.{◌≡◌, refl, ap, ap₂, sym, ◌∙◌}
use mathlib.Core.List.{List, [], ◌∷◌, map}
use Prim.Native.Nat.{ℕ, zero, suc, ◌≤◌, ◌<◌, zero-le, suc-le-suc}
use native.Mathlib.Nat.{zero-add, le_of_suc-le-suc}
use native.Mathlib.Decide.{dec_lt}
use native.Mathlib.Omega.{arith}
use lib.ListN.{length, get_or, length-map}
use lib.Seq.{ext_get_or}
use lib.Dec.{eqb, eqb→eq, eqb_refl}
use Rattle.model.specs.Lists.{first, from}
use Rattle.model.specs.Term.{Node, var, app, arguments, Book}
use Rattle.model.specs.Archive.{new_number, old_number, renumbered, moved}
use Rattle.theory.specs.Archive.{EachOnce}
use Rattle.theory.proofs.Lists.Laws.{first_holds, first-least, length_from}
use Rattle.theory.proofs.Lists.From.{get_or-map-from}
use Rattle.theory.proofs.Lists.Pigeonhole.{pigeonhole}

module _ (n : ℕ) (list : List ℕ) (o : EachOnce n list) where
  -- every term is named
  there : (t : ℕ) → t < n → first (eqb t) list < length list
  there t l = go (dec_lt (first (eqb t) list) (length list))
    where
      absent : (first (eqb t) list < length list → ⊥) → (i : ℕ) → i < length list → t ≡ get_or list i 0 → ⊥
      absent h i k e = h (omega (arith, first-least (eqb t) list 0 i k (rw (← e) (eqb_refl t))))

      go : Dec (first (eqb t) list < length list) → first (eqb t) list < length list
      go (yes h) = h
      go (no h) = absurd (omega (arith, o.as_many, pigeonhole (t ∷ list) n below apart))
        where
          below : (i : ℕ) → i < length (t ∷ list) → get_or (t ∷ list) i 0 < n
          below zero k = l
          below (suc i) k = o.terms i (omega (arith, o.as_many))

          apart : (i j : ℕ) → i < j → j < length (t ∷ list) → get_or (t ∷ list) i 0 ≡ get_or (t ∷ list) j 0 → ⊥
          apart i zero p k e = omega arith
          apart zero (suc j) p k e = absent h j (le_of_suc-le-suc k) e
          apart (suc i) (suc j) p k e = o.once i j (le_of_suc-le-suc p) (le_of_suc-le-suc k) e

  pub new-lt : (t : ℕ) → t < n → new_number list t < n
  unfolding new_number
  new-lt t l = omega (arith, there t l, o.as_many)

  pub old-new : (t : ℕ) → t < n → old_number list (new_number list t) ≡ t
  unfolding new_number old_number
  old-new t l = sym (eqb→eq t _ (first_holds (eqb t) list 0 (there t l)))

  pub new-old : (i : ℕ) → i < n → new_number list (old_number list i) ≡ i
  unfolding new_number old_number
  new-old i l = go (dec_lt j i)
    where
      x : ℕ
      x = get_or list i 0

      j : ℕ
      j = first (eqb x) list

      here : i < length list
      here = omega (arith, o.as_many)

      low : j ≤ i
      low = first-least (eqb x) list 0 i here (eqb_refl x)

      go : Dec (j < i) → j ≡ i
      go (yes h) = absurd (o.once j i h here (sym (eqb→eq x _ (first_holds (eqb x) list 0 (omega (arith, low))))))
      go (no h) = omega (arith, low)

-- a book moved, term by term
pub length_moved : (source target : ℕ → ℕ) (b : Book) → length (moved source target b) ≡ length b
unfolding moved
length_moved source target b = length-map (from 0 (length b)) (λ i. renumbered target (get_or b (source i) var)) ∙ length_from 0 (length b)

map_back : (f g : ℕ → ℕ) (xs : List ℕ) → ((i : ℕ) → i < length xs → g (f (get_or xs i 0)) ≡ get_or xs i 0) → map g (map f xs) ≡ xs
map_back f g [] h = refl
map_back f g (x ∷ xs) h = ap₂ ◌∷◌ (h 0 (suc-le-suc zero-le)) (map_back f g xs (λ i l. h (suc i) (suc-le-suc l)))

pub node_back : (f g : ℕ → ℕ) (n : Node) → ((i : ℕ) → i < length (arguments n) → g (f (get_or (arguments n) i 0)) ≡ get_or (arguments n) i 0)
    → renumbered g (renumbered f n) ≡ n
unfolding renumbered arguments
node_back f g var h = refl
node_back f g (app s args) h = ap (app s) (map_back f g args h)

pub moved_at : (source target : ℕ → ℕ) (b : Book) (i : ℕ) → i < length b
    → get_or (moved source target b) i var ≡ renumbered target (get_or b (source i) var)
unfolding moved
moved_at source target b i l =
    get_or-map-from (λ i. renumbered target (get_or b (source i) var)) 0 (length b) i var l
    ∙ rw zero-add

-- there and back
pub moved_back : (b : Book) (list : List ℕ) → EachOnce (length b) list
    → ((t : ℕ) → t < length b → (i : ℕ) → i < length (arguments (get_or b t var)) → get_or (arguments (get_or b t var)) i 0 < length b)
    → moved (new_number list) (old_number list) (moved (old_number list) (new_number list) b) ≡ b
moved_back b list o terms = ext_get_or var _ b (length_moved _ _ there' ∙ same) at
  where
    there' : Book
    there' = moved (old_number list) (new_number list) b

    same : length there' ≡ length b
    same = length_moved (old_number list) (new_number list) b

    at : (t : ℕ) → t < length (moved (new_number list) (old_number list) there') → get_or (moved (new_number list) (old_number list) there') t var ≡ get_or b t var
    at t l =
        let k : t < length b = omega (arith, length_moved (new_number list) (old_number list) there', same) in
        moved_at (new_number list) (old_number list) there' t (omega (arith, same))
        ∙ ap (renumbered (old_number list)) (moved_at (old_number list) (new_number list) b (new_number list t) (new-lt (length b) list o t k))
        ∙ rw (old-new (length b) list o t k)
        (node_back (new_number list) (old_number list) (get_or b t var) (λ i h. old-new (length b) list o _ (terms t k i h)))
