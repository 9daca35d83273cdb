-- The test of a term's row, taken apart: by its first word, its count and its places. Assumes nothing.
use Rattle.std.proofs.Common.{◌≡◌, List, ◌∷◌, true, false, ◌&&◌, ℕ, suc, ◌+◌, ◌*◌, ◌-◌, ◌≤◌, ◌<◌, arith, le-leb, eq-eqb, ne_eqb, length, take, drop, eqb, ltb}
use Rattle.std.proofs.Math.Bool.{and-true, and-false, and_comm}
use Rattle.std.proofs.lemmas.Bool.{lt-leb}
use Rattle.model.specs.Limits.{max_arity, max_symbol}
use Rattle.model.specs.Lists.{all, eq_numbers}
use Rattle.model.specs.Area.{term_words, node_words}
use Rattle.layout.specs.limits.Rows.{at, node_of}
use Rattle.soundness.specs.rows.RowTests.{node_in_range, term_row_ok}
use Rattle.soundness.proofs.rows.Parts.{part, run, run-cons}
use Rattle.soundness.proofs.rows.Zeros.{places_behind, run-zeros, no_count}

module _ (rows : List ℕ) (t : ℕ) (h : term_words * t + term_words ≤ length rows) where
  -- the words of the row
  row_words : take term_words (drop (term_words * t) rows)
      ≡ at rows (term_words * t) ∷ at rows (term_words * t + 1) ∷ take max_arity (drop (term_words * t + 2) rows)
  row_words =
      let next : term_words * t + 1 + 1 ≡ term_words * t + 2 = omega arith in
      rw (run-cons rows (term_words * t) 9 0 (omega arith), run-cons rows (term_words * t + 1) 8 0 (omega arith), next)

  -- a variable's row is all zeros
  pub variable-row : at rows (term_words * t) ≡ 0 → term_row_ok rows t ≡ all (eqb 0) (part rows (term_words * t) (term_words * t + term_words))
  unfolding term_row_ok node_of node_words node_in_range all
  variable-row e =
      rw (e, and-true, run-zeros rows (term_words * t) term_words h, run, row_words, e)
      (no_count true (at rows (term_words * t + 1)) max_arity _)

  -- a count above the limit
  pub high_count : max_arity < at rows (term_words * t + 1) → term_row_ok rows t ≡ false
  unfolding term_row_ok
  high_count l = rw (lt-leb (at rows (term_words * t + 1)) max_arity l)

  module _ (e : at rows (term_words * t) ≡ 0 → ⊥) where
    -- a symbol above the limit
    pub high_symbol : suc max_symbol < at rows (term_words * t) → term_row_ok rows t ≡ false
    unfolding term_row_ok node_of node_in_range
    high_symbol l =
        rw (ne_eqb (at rows (term_words * t)) 0 e, lt-leb (at rows (term_words * t) - 1) max_symbol (omega arith), and-false)

    -- an application's row: its arguments are lower, and the places behind them are 0
    pub application_row : at rows (term_words * t) ≤ suc max_symbol → at rows (term_words * t + 1) ≤ max_arity →
        let first = term_words * t + 2 in
        let last = first + at rows (term_words * t + 1) in
        term_row_ok rows t ≡ all (λ a. ltb a t) (part rows first last) && all (eqb 0) (part rows last (term_words * t + term_words))
    unfolding term_row_ok node_of node_words node_in_range eq_numbers
    application_row l k =
        let tag = at rows (term_words * t) in
        let count = at rows (term_words * t + 1) in
        let first = term_words * t + 2 in
        let end : term_words * t + term_words ≡ first + max_arity = omega arith in
        let back : eqb tag (suc (tag - 1)) ≡ true = eq-eqb tag (suc (tag - 1)) (omega arith) in
        rw (
          ne_eqb tag 0 e,
          row_words,
          le-leb count max_arity k,
          back,
          places_behind rows first max_arity count (omega arith) k,
          le-leb (tag - 1) max_symbol (omega arith),
          run,
          end,
        )
        (and_comm (all (eqb 0) (part rows (first + count) (first + max_arity))) (all (λ a. ltb a t) (take count (drop first rows))))
