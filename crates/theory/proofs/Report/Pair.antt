-- Two right tables over one book, with lines that match, are numbered alike: what was met matches at each number, and the
-- entries have the same numbers. Assumes nothing.
use mathlib.Core.Path.{◌≡◌, refl, ap, ap₂, sym, subst, subst₂}
use mathlib.Core.List.{List, [], ◌∷◌, ◌++◌, map}
use Prim.Native.Nat.{ℕ, zero, suc, ◌+◌, ◌<◌}
use native.Mathlib.Omega.{arith}
use lib.ListN.{length, get_or}
use lib.Dec.{eqb, ltb}
use borrow.Author.Tests.{ltb-true}
use Rattle.model.specs.Lists.{first, concat_map}
use Rattle.model.specs.Term.{Book, Bindings}
use Rattle.model.specs.Table.{Kind, Table}
use Rattle.model.specs.Report.{meet, meet_all, kind_arguments, class, argument_classes, meet_arguments, order, number, kind_numbers, entry_numbers}
use Rattle.theory.proofs.Soundness.Facts.{Formed, Acyclic, TableRight}
use Rattle.theory.proofs.Values.Equations.{same-value-name}
use Rattle.theory.proofs.Report.Meeting.{order-more}
use Rattle.theory.proofs.Report.Matching.{Both, none, one, both_length, both_get_or, both_snoc, both_cond, both_map, both_concat_map, both_first, both_both, Match, MatchClass, MatchKind, holes, commons, class_test, match_class, match_kind}

-- the arguments of kinds that match, match
kinds_arguments : {R : ℕ → ℕ → Type 0} {k k' : Kind} → MatchKind R k k' → Both R (kind_arguments k) (kind_arguments k')
unfolding kind_arguments
kinds_arguments holes = none
kinds_arguments (commons s hs) = hs

module _ (b : Book) (β : Bindings) (formed : Formed b β) (acyclic : Acyclic b β) (es es' : Table) (right : TableRight b β es) (right' : TableRight b β es') where
  -- a class has one place in lists that match
  same_place : (x x' : ℕ) (met met' : List ℕ) → MatchClass b β es es' x x' → Both (MatchClass b β es es') met met'
      → first (eqb x) met ≡ first (eqb x') met'
  same_place x x' met met' m hs =
      both_first (eqb x) (eqb x') (λ i j n. class_test b β es es' right right' x i x' j m n) hs

  -- classes that match are met alike
  meet_both : (met met' : List ℕ) (x x' : ℕ) → Both (MatchClass b β es es') met met' → MatchClass b β es es' x x'
      → Both (MatchClass b β es es') (meet met x) (meet met' x')
  unfolding meet
  meet_both met met' x x' hs m =
      both_cond _ _ (ap₂ ltb (same_place x x' met met' m hs) (both_length hs)) (λ e. hs)
      (both_snoc hs m)

  -- and so are lists of them
  meet_all_both : (met met' : List ℕ) {xs xs' : List ℕ} → Both (MatchClass b β es es') met met' → Both (MatchClass b β es es') xs xs'
      → Both (MatchClass b β es es') (meet_all met xs) (meet_all met' xs')
  unfolding meet_all
  meet_all_both met met' hs none = hs
  meet_all_both met met' hs (one {i = x} {j = x'} m ms) = meet_all_both (meet met x) (meet met' x') (meet_both met met' x x' hs m) ms

  -- the classes of entries that match
  classes_both : {is js : List ℕ} → Both (Match b β es es') is js → Both (MatchClass b β es es') (map (class es) is) (map (class es') js)
  classes_both = both_both (class es) (class es') (match_class b β es es' right right')

  -- the classes of their arguments
  arguments_both : (i j : ℕ) → Match b β es es' i j → Both (MatchClass b β es es') (argument_classes es i) (argument_classes es' j)
  unfolding argument_classes
  arguments_both i j m = classes_both (kinds_arguments (match_kind b β formed acyclic es es' right right' i j m))

  -- their arguments are met alike, over the same fuel
  meet_arguments_both : (k i : ℕ) (met met' : List ℕ) → Both (MatchClass b β es es') met met'
      → Both (MatchClass b β es es') (meet_arguments es k i met) (meet_arguments es' k i met')
  unfolding meet_arguments
  meet_arguments_both zero i met met' hs = hs
  meet_arguments_both (suc k) i met met' hs =
      both_cond _ _ (ap (ltb i) (both_length hs))
      (λ e.
      let m = both_get_or hs i (ltb-true i (length met) e) in
      meet_arguments_both k (suc i) _ _ (meet_all_both met met' hs (arguments_both (get_or met i 0) (get_or met' i 0) m.match)))
      hs

  -- the numbering of lines that match
  order_both : (is js : List ℕ) → Both (Match b β es es') is js → Both (MatchClass b β es es') (order es is) (order es' js)
  order_both is js hs =
      let n = length es + length es' in
      let below : (i : ℕ) → i < length is → get_or is i 0 < length es = λ i l. (both_get_or hs i l).present in
      let below' : (i : ℕ) → i < length js → get_or js i 0 < length es' =
      λ i l. (both_get_or hs i (subst (λ (m : ℕ). i < m) (sym (both_length hs)) l)).present' in
      subst₂ (Both (MatchClass b β es es')) (sym (order-more b β es right is below n (omega arith)))
      (sym (order-more b β es' right' js below' n (omega arith)))
      (meet_arguments_both n 0 _ _ (meet_all_both [] [] none (classes_both hs)))

  module _ (met met' : List ℕ) (mets : Both (MatchClass b β es es') met met') where
    -- entries that match have one new number
    number_same : (i j : ℕ) → Match b β es es' i j → number es met i ≡ number es' met' j
    unfolding number
    number_same i j m = same_place (class es i) (class es' j) met met' (match_class b β es es' right right' i j m) mets

    -- kinds that match have the same numbers
    kind-same : {k k' : Kind} → MatchKind (Match b β es es') k k' → kind_numbers es met k ≡ kind_numbers es' met' k'
    unfolding kind_numbers
    kind-same holes = refl
    kind-same (commons s hs) =
        ap₂ (λ (n : ℕ) (ns : List ℕ). suc s ∷ n ∷ ns) (both_length hs)
        (both_map (number es met) (number es' met') number_same hs)

    -- entries that match are written alike
    entry-same : (i j : ℕ) → MatchClass b β es es' i j → entry_numbers es b β met i ≡ entry_numbers es' b β met' j
    unfolding entry_numbers
    entry-same i j m =
        ap₂ ◌∷◌ (same-value-name b β _ _ m.match.left)
        (ap₂ ◌∷◌ (same-value-name b β _ _ m.match.right) (kind-same (match_kind b β formed acyclic es es' right right' i j m.match)))

    -- all lines and entries
    numbers-same : (is js : List ℕ) → Both (Match b β es es') is js
        → length is ∷ map (number es met) is ++ (length met ∷ concat_map (entry_numbers es b β met) met) ≡
        length js ∷ map (number es' met') js ++ (length met' ∷ concat_map (entry_numbers es' b β met') met')
    numbers-same is js hs =
        ap₂ ◌∷◌ (both_length hs)
        (ap₂ ◌++◌ (both_map (number es met) (number es' met') number_same hs)
        (ap₂ ◌∷◌ (both_length mets)
        (both_concat_map (entry_numbers es b β met) (entry_numbers es' b β met') entry-same mets)))

-- The report of a table and its lines.
unfoldable pub table_report : Book → Bindings → Table → List ℕ → List ℕ
table_report b β es lines =
    let met = order es lines in
    length lines ∷ map (number es met) lines ++ (length met ∷ concat_map (entry_numbers es b β met) met)

-- tables whose lines match have one report
pub table_report_same : (b : Book) (β : Bindings) → Formed b β → Acyclic b β → (es es' : Table) → TableRight b β es → TableRight b β es'
    → (is js : List ℕ) → Both (Match b β es es') is js → table_report b β es is ≡ table_report b β es' js
unfolding table_report
table_report_same b β formed acyclic es es' right right' is js hs =
    numbers-same b β formed acyclic es es' right right' (order es is) (order es' js)
    (order_both b β formed acyclic es es' right right' is js hs) is js hs
