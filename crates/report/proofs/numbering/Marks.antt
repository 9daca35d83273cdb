-- What a list keeps of its classes, as one more class is met. Assumes nothing.
use Rattle.std.proofs.Common.{◌≡◌, refl, sym, ◌∙◌, List, [], ◌∷◌, ◌++◌, ◌⊎◌, inl, inr, ℕ, suc, ◌+◌, ◌≤◌, ◌<◌, arith, lt-ltb, le-ltb, eq-eqb, ne_eqb, length, length-append, eqb}
use Rattle.model.specs.Lists.{first}
use Rattle.model.specs.Report.{meet}
use Rattle.theory.proofs.Lists.Laws.{first-le, first-append, first-append-none}
use Rattle.theory.proofs.Table.Search.{lt-or-le}
use Rattle.report.specs.numbering.Numbering.{mark}

module _ (met : List ℕ) (x : ℕ) where
  -- a class that was met has a mark, its number plus 1, and any other has none
  pub mark_in : first (eqb x) met < length met → mark met x ≡ suc (first (eqb x) met)
  unfolding mark
  mark_in h = rw (lt-ltb (first (eqb x) met) (length met) h)

  pub mark_out : length met ≤ first (eqb x) met → mark met x ≡ 0
  unfolding mark
  mark_out h = rw (le-ltb (first (eqb x) met) (length met) h)

  -- so a mark says whether it was met
  pub marked_in : (mark met x ≡ 0 → ⊥) → first (eqb x) met < length met
  marked_in h = go (lt-or-le (first (eqb x) met) (length met))
    where
      go : (first (eqb x) met < length met) ⊎ (length met ≤ first (eqb x) met) → first (eqb x) met < length met
      go (inl l) = l
      go (inr l) = absurd (h (mark_out l))

  pub unmarked_out : mark met x ≡ 0 → length met ≤ first (eqb x) met
  unmarked_out h = go (lt-or-le (first (eqb x) met) (length met))
    where
      go : (first (eqb x) met < length met) ⊎ (length met ≤ first (eqb x) met) → length met ≤ first (eqb x) met
      go (inl l) = let e = mark_in l in absurd (omega arith)
      go (inr l) = l

  -- a class that was met is passed over, and any other goes to the end
  pub meet_in : first (eqb x) met < length met → meet met x ≡ met
  unfolding meet
  meet_in h = rw (lt-ltb (first (eqb x) met) (length met) h)

  pub meet_out : length met ≤ first (eqb x) met → meet met x ≡ met ++ x ∷ []
  unfolding meet
  meet_out h = rw (le-ltb (first (eqb x) met) (length met) h)

-- the marks with class x at the end: of x itself, where it was not met before, and of any other class
length_snoc : (met : List ℕ) (x : ℕ) → length (met ++ x ∷ []) ≡ suc (length met)
length_snoc met x = rw length-append (omega arith)

module _ (met : List ℕ) (x : ℕ) where
  pub mark-new : length met ≤ first (eqb x) met → mark (met ++ x ∷ []) x ≡ suc (length met)
  unfolding first
  mark-new h =
      let none : first (eqb x) met ≡ length met = omega (arith, first-le (eqb x) met) in
      let here : first (eqb x) (met ++ x ∷ []) ≡ length met = first-append-none (eqb x) met (x ∷ []) none ∙ rw (eq-eqb x x refl) (omega arith) in
      rw (mark_in (met ++ x ∷ []) x (omega (arith, length_snoc met x)), here)

  pub mark_other : (y : ℕ) → (y ≡ x → ⊥) → mark (met ++ x ∷ []) y ≡ mark met y
  unfolding first
  mark_other y h = go (lt-or-le (first (eqb y) met) (length met))
    where
      go : (first (eqb y) met < length met) ⊎ (length met ≤ first (eqb y) met) → mark (met ++ x ∷ []) y ≡ mark met y
      go (inl l) =
          let same = first-append (eqb y) met (x ∷ []) l in
          mark_in (met ++ x ∷ []) y (omega (arith, length_snoc met x)) ∙ rw (same, mark_in met y l)
      go (inr l) =
          let none : first (eqb y) met ≡ length met = omega (arith, first-le (eqb y) met) in
          let past : first (eqb y) (met ++ x ∷ []) ≡ length met + 1 = first-append-none (eqb y) met (x ∷ []) none ∙ rw (ne_eqb y x h) in
          mark_out (met ++ x ∷ []) y (omega (arith, length_snoc met x)) ∙ sym (mark_out met y l)
