-- Rows of one width, one after the other, and lists padded with zeros. Assumes nothing.
use mathlib.Core.Path.{◌≡◌, refl, ap₂}
use mathlib.Core.List.{List, [], ◌∷◌, ◌++◌, append_assoc, map}
use Prim.Native.Nat.{ℕ, zero, suc, ◌+◌, ◌*◌, ◌-◌, ◌≤◌, ◌<◌, zero-le, suc-le-suc}
use native.Mathlib.Nat.{le_of_suc-le-suc, not-suc-le-zero, mul-zero, mul-suc, add-zero, add-suc, add_comm, suc-add}
use native.Mathlib.Omega.{arith}
use lib.ListN.{length, get_or, take, drop, replicate, length-append, length-replicate}
use lib.Seq.{take_at, drop-append-add, get_or-append-add, get_or-take, get_or-drop}
use Rattle.model.specs.Lists.{from, concat_map, padded}

-- behind a first list of length n
pub drop_behind : {A : Type 0} (xs ys : List A) (n m : ℕ) → length xs ≡ n → drop (n + m) (xs ++ ys) ≡ drop m ys
drop_behind xs ys n m e = rw (← e, drop-append-add)

pub get_or_behind : {A : Type 0} (xs ys : List A) (n m : ℕ) (d : A) → length xs ≡ n → get_or (xs ++ ys) (n + m) d ≡ get_or ys m d
get_or_behind xs ys n m d e = rw (← e, get_or-append-add)

-- a list is what f gives from i on, where f gives its elements in order
pub map-from : {A : Type 0} (f : ℕ → A) (i : ℕ) (xs : List A) (d : A) → ((j : ℕ) → j < length xs → f (i + j) ≡ get_or xs j d)
    → map f (from i (length xs)) ≡ xs
unfolding from
map-from f i [] d h = refl
map-from f i (x ∷ xs) d h =
    ap₂ ◌∷◌ (rw add-zero at (h 0 (suc-le-suc zero-le)))
    (map-from f (suc i) xs d (λ j l. rw (suc-add, ← add-suc) (h (suc j) (suc-le-suc l))))

module _ {A : Type 0} (f : A → List ℕ) (w : ℕ) (d : A) where
  -- every row has width w
  abbrev pub Wide : List A → Type 0
  Wide xs = (i : ℕ) → i < length xs → length (f (get_or xs i d)) ≡ w

  -- the length of all rows
  pub length-rows : (xs : List A) → Wide xs → length (concat_map f xs) ≡ w * length xs
  unfolding concat_map
  length-rows [] h = rw mul-zero
  length-rows (x ∷ xs) h =
      rw (length-append, h 0 (suc-le-suc zero-le), length-rows xs (λ i l. h (suc i) (suc-le-suc l)), mul-suc) (add_comm w (w * length xs))

  -- a bound on it, where no row is wider than w
  pub rows_short : (xs : List A) → ((i : ℕ) → i < length xs → length (f (get_or xs i d)) ≤ w) → length (concat_map f xs) ≤ w * length xs
  unfolding concat_map
  rows_short [] h = zero-le
  rows_short (x ∷ xs) h =
      rw (length-append, mul-suc) (omega (arith, h 0 (suc-le-suc zero-le), rows_short xs (λ i l. h (suc i) (suc-le-suc l))))

  -- row i, with anything behind the rows
  pub row : (xs : List A) (rest : List ℕ) → Wide xs → (i : ℕ) → i < length xs
      → take w (drop (w * i) (concat_map f xs ++ rest)) ≡ f (get_or xs i d)
  unfolding concat_map
  row [] rest h i l = absurd (not-suc-le-zero l)
  row (x ∷ xs) rest h zero l = rw (mul-zero, append_assoc) (take_at (f x) (concat_map f xs ++ rest) w (h 0 l))
  row (x ∷ xs) rest h (suc i) l =
      rw (mul-suc, add_comm (w * i) w, append_assoc, drop_behind (f x) (concat_map f xs ++ rest) w (w * i) (h 0 (suc-le-suc zero-le)))
      (row xs rest (λ j m. h (suc j) (suc-le-suc m)) i (le_of_suc-le-suc l))

  -- number j of row i
  pub row_at : (xs : List A) (rest : List ℕ) → Wide xs → (i j : ℕ) → i < length xs → j < w
      → get_or (concat_map f xs ++ rest) (w * i + j) 0 ≡ get_or (f (get_or xs i d)) j 0
  row_at xs rest h i j l m = rw (← get_or-drop, ← get_or-take w (drop (w * i) (concat_map f xs ++ rest)) j 0, row xs rest h i l)

-- a padded list has the length that it is padded to
pub length-padded : (n : ℕ) (xs : List ℕ) → length xs ≤ n → length (padded n xs) ≡ n
unfolding padded
length-padded n xs h = rw (length-append, length-replicate) (omega arith)

-- zeros behind a list change no number of it: past its end every number is 0
get_or-zeros : (n i : ℕ) → ◌≡◌ {A = ℕ} (get_or (replicate n 0) i 0) 0
get_or-zeros zero i = refl
get_or-zeros (suc n) zero = refl
get_or-zeros (suc n) (suc i) = get_or-zeros n i

get_or-append-zeros : (xs : List ℕ) (n i : ℕ) → get_or (xs ++ replicate n 0) i 0 ≡ get_or xs i 0
get_or-append-zeros [] n i = get_or-zeros n i
get_or-append-zeros (x ∷ xs) n zero = refl
get_or-append-zeros (x ∷ xs) n (suc i) = get_or-append-zeros xs n i

pub get_or-padded : (n : ℕ) (xs : List ℕ) (i : ℕ) → get_or (padded n xs) i 0 ≡ get_or xs i 0
unfolding padded
get_or-padded n xs i = get_or-append-zeros xs (n - length xs) i

-- number j of row i, where the rows are padded
pub padded-row : {A : Type 0} (f : A → List ℕ) (w : ℕ) (d : A) (n : ℕ) (xs : List A) → Wide f w d xs
    → (i j : ℕ) → i < length xs → j < w → get_or (padded n (concat_map f xs)) (w * i + j) 0 ≡ get_or (f (get_or xs i d)) j 0
unfolding padded
padded-row f w d n xs h i j l m = row_at f w d xs (replicate (n - length (concat_map f xs)) 0) h i j l m

-- every number, also past the end, is below n
pub record Below (n : ℕ) (xs : List ℕ) : Type 0 where
  pub at : (i : ℕ) → get_or xs i 0 < n

module _ {n : ℕ} where
  -- lists put together from such lists
  pub below-nil : 0 < n → Below n []
  below-nil h = record { at = λ i. h }

  pub below-cons : {x : ℕ} {xs : List ℕ} → x < n → Below n xs → Below n (x ∷ xs)
  below-cons {x} {xs} h g = record { at = go }
    where
      go : (i : ℕ) → get_or (x ∷ xs) i 0 < n
      go zero = h
      go (suc i) = g.at i

  pub below-append : (xs : List ℕ) {ys : List ℕ} → Below n xs → Below n ys → Below n (xs ++ ys)
  below-append [] h g = g
  below-append (x ∷ xs) h g = below-cons (h.at 0) (below-append xs (record { at = λ i. h.at (suc i) }) g)

  pub below-padded : (k : ℕ) {xs : List ℕ} → Below n xs → Below n (padded k xs)
  below-padded k {xs} h = record { at = λ i. rw get_or-padded (h.at i) }

  pub below_rows : {A : Type 0} (f : A → List ℕ) (d : A) (xs : List A) → 0 < n
      → ((i : ℕ) → i < length xs → Below n (f (get_or xs i d))) → Below n (concat_map f xs)
  unfolding concat_map
  below_rows f d [] z h = below-nil z
  below_rows f d (x ∷ xs) z h =
      below-append (f x) (h 0 (suc-le-suc zero-le)) (below_rows f d xs z (λ i l. h (suc i) (suc-le-suc l)))

  -- a list whose numbers are below n
  pub below_all : (xs : List ℕ) → 0 < n → ((i : ℕ) → i < length xs → get_or xs i 0 < n) → Below n xs
  below_all [] z h = below-nil z
  below_all (x ∷ xs) z h = below-cons (h 0 (suc-le-suc zero-le)) (below_all xs z (λ i l. h (suc i) (suc-le-suc l)))
