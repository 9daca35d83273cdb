-- Whether each pair of a table, under a function, has its first place at its own entry. Assumes nothing.
use Rattle.std.proofs.Common.{◌≡◌, sym, List, Bool, false, ℕ, ◌≤◌, ◌<◌, arith, T, eqb, eqb→eq}
use Rattle.model.specs.Table.{Table}
use Rattle.model.specs.Area.{distinct}
use Rattle.theory.proofs.Lists.Laws.{true_T, not-T_false}
use Rattle.theory.proofs.Soundness.Table.{eq-T}
use Rattle.layout.specs.limits.Rows.{table_of}
use Rattle.layout.proofs.limits.Rows.{length-table_of}
use Rattle.soundness.proofs.rows.Loops.{Passed, not_both}
use Rattle.soundness.proofs.distinct.Places.{place_by, alone_distinct, distinct_alone}

-- whether the pair of entry j has its first place there
abbrev pub own_place : (ℕ → ℕ) → Table → ℕ → Bool
own_place f es j = eqb (place_by f es j) j

module _ (entries : List ℕ) (m i : ℕ) where
  -- all pairs have, or one has not
  pub all-distinct : (f : ℕ → ℕ) → m ≤ i → Passed (own_place f (table_of entries m)) i → T (distinct (table_of entries m))
  all-distinct f l h =
      alone_distinct f (table_of entries m) (λ j k. eqb→eq _ _ (true_T _ (h j (omega (arith, rw length-table_of at k)))))

  pub not-distinct : i < m → own_place (λ t. t) (table_of entries m) i ≡ false → false ≡ distinct (table_of entries m)
  not-distinct l e =
      sym (not-T_false (distinct (table_of entries m)) (λ d. not_both _ e (eq-T _ _ (distinct_alone (table_of entries m) d i (rw length-table_of l)))))
