-- Classes that are met one after the other: one class, more behind, and the classes of a list of entries. Assumes nothing.
use Rattle.std.proofs.Common.{◌≡◌, refl, sym, subst, ◌∙◌, List, [], ◌∷◌, ◌++◌, Bool, true, false, ℕ, ◌+◌, ◌≤◌, ◌<◌, add-one, arith, eqb-true, length, take, set, length-append, length-set, length-take-le, take-suc-set, get_or-set_same, get_or-set_other, eqb}
use borrow.Author.Tests.{eqb-false}
use Rattle.model.specs.Lists.{first}
use Rattle.model.specs.Report.{meet, meet_all}
use Rattle.theory.specs.Numbering.{Met}
use Rattle.theory.proofs.Lists.Pigeonhole.{pigeonhole}
use Rattle.theory.proofs.Report.Meeting.{met_meet}
use Rattle.layout.specs.limits.Rows.{at}
use Rattle.report.specs.numbering.Numbering.{mark, MetSoFar, MetAll}
use Rattle.report.proofs.numbering.Marks.{marked_in, unmarked_out, meet_in, meet_out, mark-new, mark_other}

-- the words of `met` are as many as were met
pub counted-length : {m : ℕ} {met numbers : List ℕ} {n : ℕ} → MetSoFar m met numbers n → length (take n met) ≡ n
counted-length {m} {met} {numbers} {n} c = length-take-le n met (omega (arith, c.few, c.room.met_fit))

module _ {m : ℕ} {met numbers : List ℕ} {n : ℕ} (c : MetSoFar m met numbers n) (x : ℕ) (l : x < m) where
  -- a class that has a mark was met
  pub meet-old : (at numbers x ≡ 0 → ⊥) → MetAll m met n (x ∷ []) met numbers n
  unfolding meet_all
  meet-old h =
      let marked : mark (take n met) x ≡ 0 → ⊥ = λ e. h (c.marks x l ∙ e) in
      record { counted = c; in_order = sym (meet_in (take n met) x (marked_in (take n met) x marked)) }

  module _ (h : at numbers x ≡ 0) where
    new : length (take n met) ≤ first (eqb x) (take n met)
    new = unmarked_out (take n met) x (sym (c.marks x l) ∙ h)

    -- the classes with it
    more_met : Met m (take n met ++ x ∷ [])
    more_met = subst (Met m) (meet_out (take n met) x new) (met_meet m (take n met) x c.are_met l)

    -- so there is room for it
    pub meet-room : n < m
    meet-room =
        omega (arith, pigeonhole (take n met ++ x ∷ []) m more_met.below more_met.distinct, length-append (take n met) (x ∷ []), counted-length c)

    stored : take (n + 1) (set met n x) ≡ take n met ++ x ∷ []
    stored = rw add-one (take-suc-set met n x (omega (arith, meet-room, c.room.met_fit)))

    -- the marks after it
    new-marks : (y : ℕ) → y < m → at (set numbers x (n + 1)) y ≡ mark (take n met ++ x ∷ []) y
    new-marks y k = go (eqb y x) refl
      where
        go : (b : Bool) → eqb y x ≡ b → at (set numbers x (n + 1)) y ≡ mark (take n met ++ x ∷ []) y
        go true e =
            let same : y ≡ x = eqb-true y x e in
            rw (same, get_or-set_same numbers x (n + 1) 0 (omega (arith, c.room.numbers_fit)), mark-new (take n met) x new, counted-length c) (add-one n)
        go false e =
            rw (get_or-set_other numbers x y (n + 1) 0 (eqb-false y x e), mark_other (take n met) x y (eqb-false y x e)) (c.marks y k)

    -- any other class goes to the end
    pub meet-new : MetAll m met n (x ∷ []) (set met n x) (set numbers x (n + 1)) (n + 1)
    unfolding meet_all
    meet-new =
        record {
          counted = record {
            room = record {
              met_fit = rw length-set c.room.met_fit;
              numbers_fit = rw length-set c.room.numbers_fit;
              words = c.room.words;
            };
            few = omega (arith, meet-room);
            are_met = rw stored more_met;
            marks = λ y k. rw stored (new-marks y k);
          };
          in_order = stored ∙ sym (meet_out (take n met) x new);
        }

-- classes met behind others
pub meet_all-append : (met xs ys : List ℕ) → meet_all met (xs ++ ys) ≡ meet_all (meet_all met xs) ys
unfolding meet_all
meet_all-append met [] ys = refl
meet_all-append met (x ∷ xs) ys = meet_all-append (meet met x) xs ys

module _ {m : ℕ} {met : List ℕ} {n : ℕ} where
  -- no class is met
  pub meet-none : {numbers : List ℕ} → MetSoFar m met numbers n → MetAll m met n [] met numbers n
  unfolding meet_all
  meet-none c = record { counted = c; in_order = refl }

  -- more are met
  pub meet-more : {xs ys met' numbers' met'' numbers'' : List ℕ} {n' n'' : ℕ} → MetAll m met n xs met' numbers' n'
      → MetAll m met' n' ys met'' numbers'' n'' → MetAll m met n (xs ++ ys) met'' numbers'' n''
  meet-more {xs} {ys} p q = record { counted = q.counted; in_order = q.in_order ∙ rw (p.in_order, meet_all-append) }
