-- The inverse of a list, number by number. A place is taken where the number that stands there is this one. Assumes nothing.
use Rattle.std.proofs.Common.{◌≡◌, refl, ap, sym, ◌∙◌, List, true, false, ℕ, ◌+◌, ◌<◌, arith, length, set, get_or-set_same, get_or-set_other}
use native.Mathlib.Decide.{dec_lt}
use Rattle.model.specs.Archive.{new_number, old_number, all_distinct}
use Rattle.theory.specs.Numbering.{Distinct}
use Rattle.theory.specs.Archive.{EachOnce}
use Rattle.theory.proofs.Lists.Laws.{not-T_false}
use Rattle.theory.proofs.Refusals.Deciding.{tells_of, told}
use Rattle.theory.proofs.Refusals.Archive.{tells_distinct}
use Rattle.theory.proofs.Archive.Moved.{new-lt, old-new}
use Rattle.layout.specs.limits.Rows.{at}
use Rattle.archive.specs.list.Listed.{Inverse}

-- The first i numbers have their places.
abbrev pub Placed : List ℕ → ℕ → List ℕ → Type 0
Placed listed i places = (j : ℕ) → j < i → at places (at listed j) ≡ j

module _ (listed : List ℕ) (i : ℕ) (places : List ℕ) (p : Placed listed i places) where
  -- a number that does not stand at its place has not been met
  not_met : (at places (at listed i) < i → at listed (at places (at listed i)) ≡ at listed i → ⊥)
      → (j : ℕ) → j < i → at listed j ≡ at listed i → ⊥
  not_met h j l e =
      let here : at places (at listed i) ≡ j = ap (at places) (sym e) ∙ p j l in
      h (omega arith) (ap (at listed) here ∙ e)

  -- and gets its place
  pub placed-more : at listed i < length places → (at places (at listed i) < i → at listed (at places (at listed i)) ≡ at listed i → ⊥)
      → Placed listed (i + 1) (set places (at listed i) i)
  placed-more room h j l = go (dec_lt j i)
    where
      go : Dec (j < i) → at (set places (at listed i) i) (at listed j) ≡ j
      go (yes q) = get_or-set_other places (at listed i) (at listed j) i 0 (not_met h j q) ∙ p j q
      go (no q) = let e : j ≡ i = omega arith in rw e (get_or-set_same places (at listed i) i 0 room)

module _ (listed : List ℕ) where
  -- a number that stands at its place is there twice
  pub twice : (i j : ℕ) → j < i → i < length listed → at listed j ≡ at listed i → all_distinct listed ≡ false
  twice i j l m e = not-T_false _ (λ d. tells_of (tells_distinct listed) d j i l m e)

  module _ (places : List ℕ) (p : Placed listed (length listed) places) where
    -- where all have their places, none is there twice
    distinct : Distinct listed
    distinct i j l m e =
        let z : i ≡ j = sym (p i (omega arith)) ∙ ap (at places) e ∙ p j m in
        omega arith

    pub placed-once : all_distinct listed ≡ true
    placed-once = told (tells_distinct listed) distinct

    -- and the places are the new numbers
    pub placed_inverse : ((i : ℕ) → i < length listed → at listed i < length listed) → Inverse (length listed) listed places
    unfolding old_number
    placed_inverse below t l =
        let o : EachOnce (length listed) listed = record { as_many = refl; terms = below; once = distinct } in
        let k : new_number listed t < length listed = new-lt (length listed) listed o t l in
        let old : at listed (new_number listed t) ≡ t = old-new (length listed) listed o t l in
        ap (at places) (sym old) ∙ p (new_number listed t) k
