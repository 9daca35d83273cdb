-- Two terms of one symbol and one count, by the first two words of their rows. Assumes nothing.
use Rattle.std.proofs.Common.{◌≡◌, refl, sym, ap, List, Bool, true, false, cond, ◌&&◌, ℕ, ◌+◌, ◌*◌, ◌-◌, ◌≤◌, arith, ne_eqb, eqb-true, length, take, drop, length-drop, length-take-le, eqb, eqb→eq}
use Rattle.std.proofs.lemmas.Bool.{eqb-false}
use Rattle.model.specs.Term.{Node, var, app, alike}
use Rattle.model.specs.Area.{term_words}
use Rattle.theory.proofs.Lists.Laws.{true_T, same_test}
use Rattle.theory.proofs.Soundness.Table.{eq-T}
use Rattle.layout.specs.limits.Rows.{at, node_of}
use Rattle.layout.proofs.limits.Rows.{node-var}

-- an application and a term, by their first words and their arguments
symbols_at : (x y : ℕ) (xs ys : List ℕ) → (x ≡ 0 → ⊥) → (t : Bool) → eqb y 0 ≡ t
    → alike (app (x - 1) xs) (cond t var (app (y - 1) ys)) ≡ eqb x y && eqb (length xs) (length ys)
unfolding alike
symbols_at x y xs ys d true e = sym (ap (λ t. t && eqb (length xs) (length ys)) (ne_eqb x y (λ p. omega (arith, eqb-true y 0 e))))
symbols_at x y xs ys d false e =
    let n : y ≡ 0 → ⊥ = eqb-false y 0 e in
    ap (λ t. t && eqb (length xs) (length ys))
    (same_test (eqb (x - 1) (y - 1)) (eqb x y) (λ h. eq-T x y (omega (arith, eqb→eq (x - 1) (y - 1) h)))
    (λ h. eq-T _ _ (ap (λ (k : ℕ). k - 1) (eqb→eq x y h))))

-- nothing is like a variable
alike-none : (n : Node) → alike n var ≡ false
unfolding alike
alike-none var = refl
alike-none (app s args) = refl

-- as many words as a row's second says
row-long : (rows : List ℕ) (i n : ℕ) → i + 2 + n ≤ length rows → length (take n (drop (i + 2) rows)) ≡ n
row-long rows i n h = length-take-le n (drop (i + 2) rows) (rw length-drop (omega arith))

module _ (rows : List ℕ) (l r : ℕ) where
  -- a variable is like nothing
  pub alike-variable : at rows (term_words * l) ≡ 0 → false ≡ alike (node_of rows l) (node_of rows r)
  unfolding alike
  alike-variable e = rw (node-var rows l e)

  -- an application is like one of the same symbol and the same count
  pub alike-words : (at rows (term_words * l) ≡ 0 → ⊥) → term_words * l + 2 + at rows (term_words * l + 1) ≤ length rows
      → term_words * r + 2 + at rows (term_words * r + 1) ≤ length rows → (t : Bool) → t ≡ eqb (at rows (term_words * l)) (at rows (term_words * r))
      → t && eqb (at rows (term_words * l + 1)) (at rows (term_words * r + 1)) ≡ alike (node_of rows l) (node_of rows r)
  unfolding node_of
  alike-words d p q t e =
      rw (
        ne_eqb (at rows (term_words * l)) 0 d,
        symbols_at (at rows (term_words * l)) (at rows (term_words * r)) _ _ d (eqb (at rows (term_words * r)) 0) refl,
        row-long rows (term_words * l) _ p,
        row-long rows (term_words * r) _ q,
        e,
      )

  -- terms that are alike are applications
  module _ (e : alike (node_of rows l) (node_of rows r) ≡ true) where
    pub left-applied : at rows (term_words * l) ≡ 0 → ⊥
    left-applied z = rw (← alike-variable z) at (true_T (alike (node_of rows l) (node_of rows r)) e)

    pub right-applied : at rows (term_words * r) ≡ 0 → ⊥
    right-applied z = rw (node-var rows r z, alike-none (node_of rows l)) at (true_T (alike (node_of rows l) (node_of rows r)) e)
