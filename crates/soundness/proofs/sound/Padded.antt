-- Words that are rows, one after the other, and zeros behind them. Assumes nothing.
use Rattle.std.proofs.Common.{◌≡◌, refl, sym, ap, ap₂, ◌∙◌, List, [], ◌∷◌, map, ℕ, zero, suc, ◌+◌, ◌*◌, ◌-◌, ◌≤◌, ◌<◌, zero-le, suc-le-suc, mul-zero, mul-suc, add-zero, zero-add, add-suc, suc-add, add_comm, arith, length, take, drop, replicate, take-append-drop, length-drop, take-add, drop-drop, drop_at, length-take-le, T, eqb, eqb→eq}
use Rattle.model.specs.Lists.{all, from, concat_map, padded}
use Rattle.theory.proofs.Lists.Laws.{and_left, and_right}
use Rattle.theory.proofs.Lists.From.{length-map-from, get_or-map-from}
use Rattle.theory.proofs.Lists.Rows.{Wide, row, length-rows}
use Rattle.soundness.specs.rows.RowTests.{zero_from}

-- a list passes the test of zeros exactly when it is zeros
zeros : (xs : List ℕ) → T (all (eqb 0) xs) → xs ≡ replicate (length xs) 0
unfolding all
zeros [] h = refl
zeros (x ∷ xs) h = ap₂ ◌∷◌ (sym (eqb→eq 0 x (and_left (eqb 0 x) _ h))) (zeros xs (and_right (eqb 0 x) _ h))

all-zeros : (n : ℕ) → T (all (eqb 0) (replicate n 0))
unfolding all
all-zeros zero = tt
all-zeros (suc n) = all-zeros n

-- words are a padded list exactly when they begin with it and go on with zeros
pub to_padded : (words xs : List ℕ) (n k : ℕ) → length words ≡ n → k ≤ n → take k words ≡ xs → T (zero_from words k) → words ≡ padded n xs
unfolding padded zero_from
to_padded words xs n k e h first behind =
    let long : length (take k words) ≡ k = length-take-le k words (omega arith) in
    rw (← first, long, ← e, ← length-drop k words, ← zeros (drop k words) behind) (sym (take-append-drop k words))

pub from-padded : (words xs : List ℕ) (n k : ℕ) → length xs ≡ k → words ≡ padded n xs → T (zero_from words k)
unfolding padded zero_from
from-padded words xs n k l e = rw (e, drop_at xs (replicate (n - length xs) 0) k l) (all-zeros (n - length xs))

-- rows of width w, each of which is what f gives of what g reads there, one after the other
rows-read : {A : Type 0} (f : A → List ℕ) (g : ℕ → A) (w : ℕ) (words : List ℕ) (i n : ℕ)
    → ((j : ℕ) → j < n → take w (drop (w * (i + j)) words) ≡ f (g (i + j)))
    → concat_map f (map g (from i n)) ≡ take (w * n) (drop (w * i) words)
unfolding concat_map from
rows-read f g w words i zero h = rw mul-zero
rows-read f g w words i (suc n) h =
    let first : take w (drop (w * i) words) ≡ f (g i) = rw add-zero at (h 0 (suc-le-suc zero-le)) in
    let behind : concat_map f (map g (from (suc i) n)) ≡ take (w * n) (drop (w * suc i) words) =
    rows-read f g w words (suc i) n (λ j l. rw (suc-add, ← add-suc) (h (suc j) (suc-le-suc l))) in
    rw (behind, ← first, mul-suc w i, mul-suc w n, add_comm (w * n) w, take-add w (w * n) (drop (w * i) words), drop-drop)

module _ {A : Type 0} (f : A → List ℕ) (g : ℕ → A) (w : ℕ) (words : List ℕ) (m n : ℕ) where
  -- words are m rows, padded, exactly when each of the first m rows is its row and what is behind them is zeros
  pub rows-padded : length words ≡ n → w * m ≤ n → ((i : ℕ) → i < m → take w (drop (w * i) words) ≡ f (g i)) → T (zero_from words (w * m))
      → words ≡ padded n (concat_map f (map g (from 0 m)))
  rows-padded e h rows behind =
      let read : concat_map f (map g (from 0 m)) ≡ take (w * m) words =
      rw mul-zero at (rows-read f g w words 0 m (λ i l. rw zero-add (rows i l))) in
      to_padded words _ n (w * m) e h (sym read) behind

  pub padded-rows : (d : A) → Wide f w d (map g (from 0 m)) → words ≡ padded n (concat_map f (map g (from 0 m)))
      → ((i : ℕ) → i < m → take w (drop (w * i) words) ≡ f (g i)) × T (zero_from words (w * m))
  unfolding padded
  padded-rows d wide e =
      let xs : List A = map g (from 0 m) in
      let long : length (concat_map f xs) ≡ w * m = length-rows f w d xs wide ∙ ap (λ k. w * k) (length-map-from g 0 m) in (
        λ i l. ap (λ x. take w (drop (w * i) x)) e ∙ row f w d xs (replicate (n - length (concat_map f xs)) 0) wide i (rw (length-map-from g 0 m) l) ∙
            ap f (rw zero-add at (get_or-map-from g 0 m i d l)),
        from-padded words (concat_map f xs) n (w * m) long e,
      )
