-- The test of an entry's row, taken apart: its sides, its kind, its count and its places. Assumes nothing.
use Rattle.std.proofs.Common.{◌≡◌, refl, sym, ◌∙◌, List, [], ◌∷◌, ◌++◌, Bool, false, ◌&&◌, ℕ, ◌+◌, ◌*◌, ◌-◌, ◌≤◌, ◌<◌, zero-le, arith, le-leb, eq-eqb, ne_eqb, length, take, drop, length-drop, take-suc, get_or-drop, eqb, ltb, leb}
use Rattle.std.proofs.Math.Bool.{and-true, and-false, and_assoc}
use Rattle.std.proofs.lemmas.Bool.{lt-leb}
use Rattle.model.specs.Limits.{max_arity}
use Rattle.model.specs.Lists.{all, is_empty, eq_numbers}
use Rattle.model.specs.Table.{hole, common}
use Rattle.model.specs.Area.{entry_row_words, kind_words, entry_words}
use Rattle.model.specs.Report.{kind_arguments}
use Rattle.theory.proofs.Lists.Laws.{T_true, eq_numbers_refl}
use Rattle.theory.proofs.Area.Rows.{width_kind}
use Rattle.layout.specs.limits.Rows.{at, kind_of, loaded_entry}
use Rattle.soundness.specs.rows.RowTests.{entry_row_ok}
use Rattle.soundness.proofs.rows.Parts.{part, run, length_run, run-cons}
use Rattle.soundness.proofs.rows.Zeros.{places_behind, run-zeros, no_count}

-- numbers with the same numbers behind them
same_behind : (xs ys zs : List ℕ) → length xs ≡ length ys → eq_numbers (xs ++ zs) (ys ++ zs) ≡ eq_numbers xs ys
unfolding eq_numbers is_empty
same_behind [] [] zs e = T_true (eq_numbers zs zs) (eq_numbers_refl zs)
same_behind [] (y ∷ ys) zs e = absurd (omega arith)
same_behind (x ∷ xs) [] zs e = absurd (omega arith)
same_behind (x ∷ xs) (y ∷ ys) zs e = rw (same_behind xs ys zs (omega arith))

-- the row is that of its entry, sides apart
unfoldable pub entry_form : List ℕ → ℕ → Bool
entry_form entries i =
    leb (at entries (entry_row_words * i + 4)) max_arity &&
    eq_numbers (take entry_row_words (drop (entry_row_words * i) entries)) (entry_words (loaded_entry entries i))

module _ (entries : List ℕ) (i : ℕ) (h : entry_row_words * i + entry_row_words ≤ length entries) where
  -- the two sides
  pub sides : (n : ℕ) → entry_row_ok entries n i
      ≡ entry_form entries i && all (λ w. ltb w n) (part entries (entry_row_words * i) (entry_row_words * i + 2))
  unfolding entry_row_ok entry_form all
  sides n =
      rw (run, run-cons entries (entry_row_words * i) 1 0 (omega arith), run-cons entries (entry_row_words * i + 1) 0 0 (omega arith), and-true, and_assoc (entry_form entries i))

  -- the words of the row
  row_words : take entry_row_words (drop (entry_row_words * i) entries)
      ≡ at entries (entry_row_words * i) ∷ at entries (entry_row_words * i + 1) ∷
      take (3 + max_arity) (drop (entry_row_words * i + 2) entries) ++ at entries (entry_row_words * i + entry_row_words - 1) ∷ []
  row_words =
      let next : entry_row_words * i + 1 + 1 ≡ entry_row_words * i + 2 = omega arith in
      let last : entry_row_words * i + entry_row_words - 1 ≡ entry_row_words * i + 2 + 11 = omega arith in
      let room : 11 < length (drop (entry_row_words * i + 2) entries) = rw length-drop (omega arith) in
      rw (
        run-cons entries (entry_row_words * i) 13 0 (omega arith),
        run-cons entries (entry_row_words * i + 1) 12 0 (omega arith),
        next,
        take-suc (drop (entry_row_words * i + 2) entries) 11 0 room,
        get_or-drop,
        last,
      )

  -- the words of its kind
  kind-words : let k = entry_row_words * i + 2 in
      take (3 + max_arity) (drop k entries) ≡ at entries k ∷ at entries (k + 1) ∷ at entries (k + 2) ∷ take max_arity (drop (k + 3) entries)
  kind-words =
      let k = entry_row_words * i + 2 in
      let second : k + 1 + 1 ≡ k + 2 = omega arith in
      let third : k + 2 + 1 ≡ k + 3 = omega arith in
      rw (run-cons entries k 10 0 (omega arith), run-cons entries (k + 1) 9 0 (omega arith), second, run-cons entries (k + 2) 8 0 (omega arith), third)

  -- the row is that of its entry where the words of its kind are
  kind_alone : let k = kind_of entries (entry_row_words * i + 2) in length (kind_arguments k) ≤ max_arity
      → entry_form entries i ≡ leb (at entries (entry_row_words * i + 2 + 2)) max_arity && eq_numbers (take (3 + max_arity) (drop (entry_row_words * i + 2) entries)) (kind_words k)
  unfolding entry_form loaded_entry entry_words eq_numbers
  kind_alone e =
      let j = entry_row_words * i in
      let k = kind_words (kind_of entries (j + 2)) in
      let xs = take (3 + max_arity) (drop (j + 2) entries) in
      let there : j + 4 ≡ j + 2 + 2 = omega arith in
      let wide : length xs ≡ length k = length_run entries (j + 2) (3 + max_arity) (omega arith) ∙ sym (width_kind (kind_of entries (j + 2)) e) in
      rw (
        row_words,
        there,
        eq-eqb (at entries j) (at entries j) refl,
        eq-eqb (at entries (j + 1)) (at entries (j + 1)) refl,
        same_behind xs k (at entries (j + entry_row_words - 1) ∷ []) wide,
      )

  -- a count above the limit
  pub high_count : max_arity < at entries (entry_row_words * i + 2 + 2) → entry_form entries i ≡ false
  unfolding entry_form
  high_count l =
      let there : entry_row_words * i + 4 ≡ entry_row_words * i + 2 + 2 = omega arith in
      rw (there, lt-leb (at entries (entry_row_words * i + 2 + 2)) max_arity l)

  -- a hole's row is all zeros between its sides and its last word
  pub hole-row : at entries (entry_row_words * i + 2) ≡ 0
      → entry_form entries i ≡ all (eqb 0) (part entries (entry_row_words * i + 2) (entry_row_words * i + 13))
  unfolding kind_of kind_words kind_arguments all
  hole-row e =
      let k = entry_row_words * i + 2 in
      let is-hole : kind_of entries k ≡ hole = rw e in
      let end : entry_row_words * i + 13 ≡ k + (3 + max_arity) = omega arith in
      rw (kind_alone (rw is-hole zero-le), is-hole, end, run-zeros entries k (3 + max_arity) (omega arith), run, kind-words, e)
      (no_count (eqb 0 (at entries (k + 1))) (at entries (k + 2)) max_arity _)

  -- a kind above 1
  pub high_kind : (at entries (entry_row_words * i + 2) ≡ 0 → ⊥) → (at entries (entry_row_words * i + 2) ≡ 1 → ⊥) → entry_form entries i ≡ false
  unfolding entry_form loaded_entry entry_words kind_of kind_words eq_numbers
  high_kind e d =
      let kind = at entries (entry_row_words * i + 2) in
      rw (row_words, kind-words, ne_eqb kind 0 e, ne_eqb kind 1 d, and-false, and-false, and-false)

  -- a common entry's row: the places behind its arguments are 0
  pub common-row : at entries (entry_row_words * i + 2) ≡ 1 → at entries (entry_row_words * i + 2 + 2) ≤ max_arity →
      let first = entry_row_words * i + 2 + 3 in
      entry_form entries i ≡ all (eqb 0) (part entries (first + at entries (entry_row_words * i + 2 + 2)) (entry_row_words * i + 13))
  unfolding kind_of kind_words kind_arguments eq_numbers
  common-row e l =
      let k = entry_row_words * i + 2 in
      let count = at entries (k + 2) in
      let args = take count (drop (k + 3) entries) in
      let is-common : kind_of entries k ≡ common (at entries (k + 1)) args = rw e in
      let few : length args ≤ max_arity = rw (length_run entries (k + 3) count (omega arith)) l in
      let end : entry_row_words * i + 13 ≡ k + 3 + max_arity = omega arith in
      rw (
        kind_alone (rw is-common few),
        is-common,
        kind-words,
        le-leb count max_arity l,
        e,
        eq-eqb (at entries (k + 1)) (at entries (k + 1)) refl,
        places_behind entries (k + 3) max_arity count (omega arith) l,
        end,
      )
