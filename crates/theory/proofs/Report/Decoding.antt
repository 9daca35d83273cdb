-- What is written one after the other is read in one way only: the bytes of numbers, and the entries of a report. Assumes
-- nothing.
use mathlib.Core.Path.{◌≡◌, ap, sym, ◌∙◌}
use mathlib.Core.List.{List, [], ◌∷◌, ◌++◌, map}
use Prim.Native.Nat.{ℕ, suc, ◌≤◌, ◌<◌, zero-le, suc-le-suc}
use native.Mathlib.Omega.{arith}
use lib.ListN.{length, get_or, take, drop, length-append, length-map}
use lib.Seq.{take_at, drop_at, ext_get_or, take-append_seam, drop-append_seam}
use Rattle.leb128.specs.Number.{max_groups, max_number, number, read, write}
use Rattle.leb128.proofs.Laws.{reads_what_is-written, writes_bytes}
use Rattle.model.specs.Lists.{concat_map}
use Rattle.model.specs.Term.{Book, Bindings, name}
use Rattle.model.specs.Table.{Kind, hole, common, Table, entry}
use Rattle.model.specs.Report as Report
use Rattle.model.specs.Report.{kind_numbers, entry_numbers, number_bytes}
use Rattle.theory.proofs.Soundness.Facts.{TableRight}
use Rattle.theory.proofs.Values.Equations.{same-name-value}
use Rattle.theory.proofs.Report.Matching.{Both, none, one, both_length, both_get_or, Match}

-- the parts of equal lists that are cut at one place are equal
pub cut-same : {A : Type 0} (xs ys xs' ys' : List A) → length xs ≡ length xs' → xs ++ ys ≡ xs' ++ ys' → (xs ≡ xs') × (ys ≡ ys')
cut-same xs ys xs' ys' l e = (
  sym (take_at xs ys (length xs') l) ∙ ap (take (length xs')) e ∙ take-append_seam xs' ys',
  sym (drop_at xs ys (length xs') l) ∙ ap (drop (length xs')) e ∙ drop-append_seam xs' ys',
)

-- no list has nothing and something in front of a rest
not_nothing : (xs ys : List ℕ) → 0 < length xs → [] ≡ xs ++ ys → ⊥
not_nothing xs ys h e = omega (arith, ap length e, length-append xs ys)

-- Rows that show where they end: f and g write what passes P and Q, and where a row of f and a row of g begin one list, what
-- they write is in the relation R, and they leave the same rest.
module _ (f g : ℕ → List ℕ) (P Q : ℕ → Type 0) (R : ℕ → ℕ → Type 0) (some-f : (x : ℕ) → 0 < length (f x))
    (some-g : (y : ℕ) → 0 < length (g y))
    (ends : (x y : ℕ) (xs ys : List ℕ) → P x → Q y → f x ++ xs ≡ g y ++ ys → R x y × (xs ≡ ys)) where
  -- equal rows are so one for one
  rows_both : (xs ys : List ℕ) → ((i : ℕ) → i < length xs → P (get_or xs i 0)) → ((i : ℕ) → i < length ys → Q (get_or ys i 0))
      → concat_map f xs ≡ concat_map g ys → Both R xs ys
  unfolding concat_map
  rows_both [] [] p q e = none
  rows_both [] (y ∷ ys) p q e = absurd (not_nothing (g y) (concat_map g ys) (some-g y) e)
  rows_both (x ∷ xs) [] p q e = absurd (not_nothing (f x) (concat_map f xs) (some-f x) (sym e))
  rows_both (x ∷ xs) (y ∷ ys) p q e =
      let c = ends x y (concat_map f xs) (concat_map g ys) (p 0 (suc-le-suc zero-le)) (q 0 (suc-le-suc zero-le)) e in
      one c.0 (rows_both xs ys (λ i l. p (suc i) (suc-le-suc l)) (λ i l. q (suc i) (suc-le-suc l)) c.1)

-- a number's bytes show where they end
number-ends : (x y : ℕ) (xs ys : List ℕ) → x ≤ max_number → y ≤ max_number → write max_groups x ++ xs ≡ write max_groups y ++ ys
    → (x ≡ y) × (xs ≡ ys)
number-ends x y xs ys p q e =
    let same : number x xs ≡ number y ys =
    sym (reads_what_is-written max_groups max_number x xs (omega arith) (omega arith) p) ∙
    ap (read max_groups max_number) e ∙ reads_what_is-written max_groups max_number y ys (omega arith) (omega arith) q in
    (cc, cc)

-- so equal bytes are those of the same numbers
pub number_bytes_tell : (xs ys : List ℕ) → ((i : ℕ) → i < length xs → get_or xs i 0 ≤ max_number)
    → ((i : ℕ) → i < length ys → get_or ys i 0 ≤ max_number) → number_bytes xs ≡ number_bytes ys → xs ≡ ys
unfolding number_bytes
number_bytes_tell xs ys p q e =
    let some : (n : ℕ) → 0 < length (write max_groups n) = λ n. (writes_bytes max_groups n).2 (omega arith) in
    let same = rows_both (write max_groups) (write max_groups) (λ n. n ≤ max_number) (λ n. n ≤ max_number) (λ i j. i ≡ j) some some
    number-ends xs ys p q e in
    ext_get_or 0 xs ys (both_length same) (both_get_or same)

module _ (es es' : Table) (met met' : List ℕ) where
  -- a kind's numbers show where they end
  kind-ends : (k k' : Kind) (xs ys : List ℕ) → kind_numbers es met k ++ xs ≡ kind_numbers es' met' k' ++ ys → xs ≡ ys
  unfolding kind_numbers
  kind-ends hole hole xs ys e = cc
  kind-ends hole (common s args) xs ys e = let z : 0 ≡ suc s = cc in absurd (omega arith)
  kind-ends (common s args) hole xs ys e = let z : suc s ≡ 0 = cc in absurd (omega arith)
  kind-ends (common s args) (common s' args') xs ys e =
      let ms : List ℕ = map (Report.number es met) args in
      let ns : List ℕ = map (Report.number es' met') args' in
      let count : length args ≡ length args' = cc in
      let rest : ms ++ xs ≡ ns ++ ys = cc in
      (cut-same ms xs ns ys (length-map args _ ∙ count ∙ sym (length-map args' _)) rest).1

  module _ (b : Book) (β : Bindings) (right : TableRight b β es) (right' : TableRight b β es') where
    -- so do an entry's, and they tell its two values
    entry-ends : (x y : ℕ) (xs ys : List ℕ) → x < length es → y < length es'
        → entry_numbers es b β met x ++ xs ≡ entry_numbers es' b β met' y ++ ys → Match b β es es' x y × (xs ≡ ys)
    unfolding entry_numbers
    entry-ends x y xs ys p q e =
        let l : name b β (entry es x).left ≡ name b β (entry es' y).left = cc in
        let r : name b β (entry es x).right ≡ name b β (entry es' y).right = cc in
        let rest : kind_numbers es met (entry es x).kind ++ xs ≡ kind_numbers es' met' (entry es' y).kind ++ ys = cc in (
          record {
            present = p;
            present' = q;
            left = same-name-value b β _ _ (right.left-term x p) (right'.left-term y q) l;
            right = same-name-value b β _ _ (right.right-term x p) (right'.right-term y q) r;
          },
          kind-ends (entry es x).kind (entry es' y).kind xs ys rest,
        )

    -- equal entries of two reports match one for one
    pub entries_tell : (is js : List ℕ) → ((i : ℕ) → i < length is → get_or is i 0 < length es)
        → ((i : ℕ) → i < length js → get_or js i 0 < length es')
        → concat_map (entry_numbers es b β met) is ≡ concat_map (entry_numbers es' b β met') js → Both (Match b β es es') is js
    unfolding entry_numbers
    entries_tell =
        rows_both (entry_numbers es b β met) (entry_numbers es' b β met') (λ x. x < length es) (λ y. y < length es') (Match b β es es')
        (λ x. suc-le-suc zero-le) (λ y. suc-le-suc zero-le) entry-ends
