-- Laws of the first place of a pair: where it lies, what stands there, and what a further pair changes. Assumes nothing.
use Rattle.std.proofs.Common.{◌≡◌, ap, sym, ◌∙◌, List, inl, inr, ℕ, suc, ◌≤◌, ◌<◌, arith, length, get_or, set, get_or-set_same, get_or-set_other, T, eqb, eqb→eq}
use Rattle.std.proofs.Math.ListN.{length-map}
use Rattle.std.proofs.lemmas.List.{get_or-map}
use Rattle.std.proofs.Math.Dec.{eqb_refl}
use Rattle.model.specs.Lists.{first, from}
use Rattle.pairs.specs.Pairs.{Pair, pair_at, pairs_of, is_pair, place_of}
use Rattle.theory.proofs.Lists.Laws.{and_left, and_right, and_both, first-le, first_holds, first-least, length_from, get_or-from}
use Rattle.theory.proofs.Table.Search.{lt-or-le}

-- The pair at place i of two lists is (a, b).
pub record Holds (lefts rights : List ℕ) (i a b : ℕ) : Type 0 where
  pub left : get_or lefts i 0 ≡ a
  pub right : get_or rights i 0 ≡ b

module _ (lefts rights : List ℕ) where
  -- there are n pairs, each the pair at its place
  pub length_pairs : (n : ℕ) → length (pairs_of lefts rights n) ≡ n
  unfolding pairs_of
  length_pairs n = rw (length-map, length_from)

  pub pairs-at : (n i : ℕ) (d : Pair) → i < n → get_or (pairs_of lefts rights n) i d ≡ pair_at lefts rights i
  unfolding pairs_of
  pairs-at n i d h =
      get_or-map (pair_at lefts rights) (from 0 n) i 0 d (rw length_from h) ∙ ap (pair_at lefts rights) (get_or-from 0 n i 0 h ∙ omega arith)

  -- the test of a pair is that it holds the numbers
  is-holds : (i a b : ℕ) → T (is_pair a b (pair_at lefts rights i)) → Holds lefts rights i a b
  unfolding is_pair pair_at
  is-holds i a b h =
      let l = eqb (get_or lefts i 0) a in
      let r = eqb (get_or rights i 0) b in
      record { left = eqb→eq _ a (and_left l r h); right = eqb→eq _ b (and_right l r h) }

  holds-is : (i a b : ℕ) → Holds lefts rights i a b → T (is_pair a b (pair_at lefts rights i))
  unfolding is_pair pair_at
  holds-is i a b h = rw (h.left, h.right) (and_both (eqb a a) (eqb b b) (eqb_refl a) (eqb_refl b))

  module _ (n a b : ℕ) where
    -- the first place is at most n
    pub place-le : place_of lefts rights n a b ≤ n
    unfolding place_of
    place-le = rw length_pairs at (first-le (is_pair a b) (pairs_of lefts rights n))

    -- it holds the pair where it is below n
    pub place-holds : place_of lefts rights n a b < n → Holds lefts rights (place_of lefts rights n a b) a b
    unfolding place_of
    place-holds h =
        let d = pair_at lefts rights 0 in
        is-holds _ a b (rw (pairs-at n (first (is_pair a b) (pairs_of lefts rights n)) d h) at (first_holds (is_pair a b) (pairs_of lefts rights n) d (rw length_pairs h)))

    -- and no lower place holds it
    pub place-least : (i : ℕ) → i < n → Holds lefts rights i a b → place_of lefts rights n a b ≤ i
    unfolding place_of
    place-least i l h =
        let d = pair_at lefts rights 0 in
        first-least (is_pair a b) (pairs_of lefts rights n) d i (rw length_pairs l) (rw (pairs-at n i d l) (holds-is i a b h))

    -- it is at least i where no place below i holds the pair, so n where no place holds it
    place-from : (i : ℕ) → i ≤ n → ((j : ℕ) → j < i → Holds lefts rights j a b → ⊥) → i ≤ place_of lefts rights n a b
    place-from i l g =
        let not_below : place_of lefts rights n a b < i → ⊥ = λ p. g _ p (place-holds (omega arith)) in
        omega arith

    pub place_none : ((i : ℕ) → i < n → Holds lefts rights i a b → ⊥) → place_of lefts rights n a b ≡ n
    place_none g = omega (arith, place-le, place-from n (omega arith) g)

-- a list that is no longer, and has the pair wherever the other has it, has it no later
pub place_mono : (lefts rights lefts' rights' : List ℕ) (n n' a b : ℕ) → n ≤ n' → ((i : ℕ) → i < n → Holds lefts' rights' i a b → Holds lefts rights i a b)
    → place_of lefts rights n a b ≤ place_of lefts' rights' n' a b
place_mono lefts rights lefts' rights' n n' a b longer back =
    let top = place-le lefts rights n a b in
    place-from lefts' rights' n' a b _ (omega (arith, top))
    (λ j l h. let own = place-least lefts rights n a b j (omega (arith, top)) (back j (omega (arith, top)) h) in omega (arith, own))

-- The first n pairs of the first two lists are those of the other two.
pub record Kept (lefts rights lefts' rights' : List ℕ) (n : ℕ) : Type 0 where
  pub left : (i : ℕ) → i < n → get_or lefts' i 0 ≡ get_or lefts i 0
  pub right : (i : ℕ) → i < n → get_or rights' i 0 ≡ get_or rights i 0

module _ {lefts rights lefts' rights' : List ℕ} {n : ℕ} (k : Kept lefts rights lefts' rights' n) where
  -- what holds a pair there holds it here, and the other way round
  pub kept_holds : (i a b : ℕ) → i < n → Holds lefts rights i a b → Holds lefts' rights' i a b
  kept_holds i a b l h = record { left = k.left i l ∙ h.left; right = k.right i l ∙ h.right }

  pub kept_back : (i a b : ℕ) → i < n → Holds lefts' rights' i a b → Holds lefts rights i a b
  kept_back i a b l h = record { left = sym (k.left i l) ∙ h.left; right = sym (k.right i l) ∙ h.right }

  -- the first place among as many pairs, or fewer, is the same
  pub place_kept : (m a b : ℕ) → m ≤ n → place_of lefts' rights' m a b ≡ place_of lefts rights m a b
  place_kept m a b h =
      let up = place_mono lefts rights lefts' rights' m m a b (omega arith) (λ i l. kept_back i a b (omega arith)) in
      let down = place_mono lefts' rights' lefts rights m m a b (omega arith) (λ i l. kept_holds i a b (omega arith)) in
      omega (arith, up, down)

-- a pair that is there stays at its first place as more pairs are counted
pub place-longer : (lefts rights : List ℕ) (n m a b : ℕ) → n ≤ m → place_of lefts rights n a b < n → place_of lefts rights m a b ≡ place_of lefts rights n a b
place-longer lefts rights n m a b longer h =
    let up = place_mono lefts rights lefts rights n m a b longer (λ i l g. g) in
    let down = place-least lefts rights m a b (place_of lefts rights n a b) (omega arith) (place-holds lefts rights n a b h) in
    omega (arith, up, down)

-- the first place of the pair at place i is its first place among the pairs before, or i: it does not depend on later pairs
module _ (lefts rights : List ℕ) (n i a b : ℕ) (there : i < n) (held : Holds lefts rights i a b) where
  pub place_at : place_of lefts rights n a b ≡ place_of lefts rights i a b
  place_at =
      elim (lt-or-le (place_of lefts rights i a b) i) [
        | inl p ↦ place-longer lefts rights i n a b (omega arith) p
        | inr p ↦
            let up = place_mono lefts rights lefts rights i n a b (omega arith) (λ j l g. g) in
            omega (arith, up, place-least lefts rights n a b i there held)
      ]

-- One pair more: (a, b) at place n.
module _ (lefts rights : List ℕ) (n a b : ℕ) where
  pub kept_set : Kept lefts rights (set lefts n a) (set rights n b) n
  kept_set =
      record {
        left = λ i l. get_or-set_other lefts n i a 0 (λ e. omega arith);
        right = λ i l. get_or-set_other rights n i b 0 (λ e. omega arith);
      }

  -- a pair that was there stays at its first place
  pub place-old : (x y : ℕ) → place_of lefts rights n x y < n → place_of (set lefts n a) (set rights n b) (suc n) x y ≡ place_of lefts rights n x y
  place-old x y h =
      let e = place_kept kept_set n x y (omega arith) in
      place-longer (set lefts n a) (set rights n b) n (suc n) x y (omega arith) (omega (arith, e)) ∙ e

module _ (lefts rights : List ℕ) (n a b : ℕ) (room-left : n < length lefts) (room-right : n < length rights) where
  -- place n holds the pair
  pub holds-set : Holds (set lefts n a) (set rights n b) n a b
  holds-set = record { left = get_or-set_same lefts n a 0 room-left; right = get_or-set_same rights n b 0 room-right }

  -- its first place is the one that it had, or n
  pub place-new : place_of (set lefts n a) (set rights n b) (suc n) a b ≡ place_of lefts rights n a b
  place-new =
      place_at (set lefts n a) (set rights n b) (suc n) n a b (omega arith) holds-set ∙ place_kept (kept_set lefts rights n a b) n a b (omega arith)

  -- a pair that was not there is still not, unless it is the new one
  pub place_other : (x y : ℕ) → (x ≡ a → y ≡ b → ⊥) → place_of lefts rights n x y ≡ n → place_of (set lefts n a) (set rights n b) (suc n) x y ≡ suc n
  place_other x y g e = place_none (set lefts n a) (set rights n b) (suc n) x y none
    where
      none : (i : ℕ) → i < suc n → Holds (set lefts n a) (set rights n b) i x y → ⊥
      none i l h =
          elim (lt-or-le i n) [
            | inl p ↦
                let below = place-least lefts rights n x y i p (kept_back (kept_set lefts rights n a b) i x y p h) in
                omega arith
            | inr p ↦
                let here : i ≡ n = omega arith in
                let own : Holds (set lefts n a) (set rights n b) n x y = rw here at h in
                g (sym own.left ∙ holds-set.left) (sym own.right ∙ holds-set.right)
          ]
