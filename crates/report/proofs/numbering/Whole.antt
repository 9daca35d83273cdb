-- The numbering as a loop: the lines' classes first, then those of the arguments of one number after the other. Assumes
-- nothing.
use Rattle.std.proofs.Common.{◌≡◌, refl, sym, ◌∙◌, List, ◌++◌, map, ℕ, zero, suc, ◌+◌, ◌-◌, ◌≤◌, ◌<◌, zero-le, add-one, arith, lt-ltb, le-ltb, length, get_or, take, drop, replicate, get_or-take}
use Rattle.std.proofs.Math.Nat.{sub-zero}
use Rattle.std.proofs.Math.ListN.{length-replicate, get_or-replicate, get_or-append}
use Rattle.model.specs.Lists.{first}
use Rattle.model.specs.Table.{Table}
use Rattle.model.specs.Report.{class, meet_all, argument_classes, meet_arguments, order}
use Rattle.theory.proofs.Report.Meeting.{met_none}
use Rattle.layout.specs.limits.Rows.{at, table_of}
use Rattle.layout.proofs.limits.Rows.{length-table_of}
use Rattle.report.specs.numbering.Numbering.{mark, NumberRoom, MetSoFar, MetAll, Numbered}
use Rattle.report.proofs.numbering.Meeting.{counted-length}

module _ (es : Table) where
  -- nothing is met where no number is left
  arguments-end : (k i : ℕ) (met : List ℕ) → length met ≤ i → meet_arguments es k i met ≡ met
  unfolding meet_arguments
  arguments-end zero i met h = refl
  arguments-end (suc k) i met h = rw (le-ltb i (length met) h)

  -- the arguments of number i
  arguments-next : (k i : ℕ) (met : List ℕ) → i < length met
      → meet_arguments es (suc k) i met ≡ meet_arguments es k (suc i) (meet_all met (argument_classes es (get_or met i 0)))
  unfolding meet_arguments
  arguments-next k i met h = rw (lt-ltb i (length met) h)

-- no class was met once the marks are cleared
pub cleared : {m : ℕ} {met numbers : List ℕ} (numbers' : List ℕ) → NumberRoom m met numbers → numbers' ≡ replicate m 0 ++ drop m numbers
    → length numbers' ≡ length numbers → MetSoFar m met numbers' 0
unfolding mark first
cleared {m} {met} {numbers} numbers' room e same =
    record {
      room = record { met_fit = room.met_fit; numbers_fit = omega (arith, room.numbers_fit); words = room.words };
      few = zero-le;
      are_met = met_none m;
      marks = λ x l.
          rw e (get_or-append (replicate m 0) (drop m numbers) 0 x (rw length-replicate l) ∙ get_or-replicate m x 0 0 l);
    }

-- The numbering with the arguments of the first i numbers met: n classes were met, and what is left leads to the order.
pub record Reached (lines entries : List ℕ) (m : ℕ) (met numbers : List ℕ) (n i : ℕ) : Type 0 where
  pub counted : MetSoFar m met numbers n
  pub ahead : order (table_of entries m) lines ≡ meet_arguments (table_of entries m) (m - i) i (take n met)

module _ {lines entries : List ℕ} {m : ℕ} where
  -- once the lines' classes are met
  pub reached_lines : {met₀ met numbers : List ℕ} {n : ℕ} → MetAll m met₀ 0 (map (class (table_of entries m)) lines) met numbers n
      → Reached lines entries m met numbers n 0
  unfolding order
  reached_lines {met₀} {met} {numbers} {n} h =
      record {
        counted = h.counted;
        ahead = rw (length-table_of entries m, h.in_order, sub-zero);
      }

  module _ {met numbers : List ℕ} {n i : ℕ} (h : Reached lines entries m met numbers n i) where
    -- number i is a class
    pub number-class : i < n → at met i < m
    number-class l =
        rw (get_or-take n met i 0 l) at (h.counted.are_met.below i (omega (arith, counted-length h.counted)))

    -- once the classes of its arguments are met
    pub reached_more : i < n → {met' numbers' : List ℕ} {n' : ℕ} → MetAll m met n (argument_classes (table_of entries m) (at met i)) met' numbers' n'
        → Reached lines entries m met' numbers' n' (i + 1)
    reached_more l {met'} {numbers'} {n'} g =
        let fuel : m - i ≡ suc (m - (i + 1)) = omega (arith, h.counted.few) in
        let next = arguments-next (table_of entries m) (m - (i + 1)) i (take n met) (omega (arith, counted-length h.counted)) in
        record {
          counted = g.counted;
          ahead = h.ahead ∙ rw fuel (next ∙ rw (get_or-take n met i 0 l, ← g.in_order, add-one));
        }

    -- where no number is left, all are numbered
    pub reached_all : n ≤ i → Numbered (table_of entries m) lines met numbers n
    reached_all l =
        record {
          counted = rw (length-table_of entries m) h.counted;
          in_order = sym (h.ahead ∙ arguments-end (table_of entries m) (m - i) i (take n met) (omega (arith, counted-length h.counted)));
        }

-- the same of two slices that are equal
pub numbered_now : {es : Table} {lines met numbers met' numbers' : List ℕ} {n : ℕ} → Numbered es lines met numbers n → met' ≡ met → numbers' ≡ numbers
    → Numbered es lines met' numbers' n
numbered_now h p q = rw (p, q) h
