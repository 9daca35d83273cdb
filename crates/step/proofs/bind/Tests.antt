-- The tests of a choice before the walk. Assumes nothing.
use Rattle.std.proofs.Common.{◌≡◌, refl, List, [], ◌∷◌, Bool, true, false, cond, not, ℕ, ◌*◌, ◌-◌, ◌≤◌, ◌<◌, arith, ltb-true, lt-ltb, le-ltb, length, get_or, eqb, ltb, leb}
use mathlib.Core.Option.{none, some}
use Rattle.model.specs.Term.{var, Book, Bindings, val, occurs}
use Rattle.model.specs.Step.{State, Answer, refused, accepted, require, saturate, is_free, turned, bind}
use Rattle.model.specs.Area.{term_words}
use Rattle.theory.proofs.Steps.Answers.{and-true, free-var, choice_table, choice_state}
use Rattle.layout.specs.limits.Rows.{at, node_of, book_of, binding_of, bound_of}
use Rattle.layout.proofs.limits.Rows.{length-book_of, get_or-book_of, get_or-bound_of, node-var, node-app}
use Rattle.step.specs.bind.Choosing.{early_refusal}

-- a free variable by the first word of its row and by its binding's word
module _ (rows bindings : List ℕ) (v : ℕ) where
  pub not_a_variable : (at rows (term_words * v) ≡ 0 → ⊥) → false ≡ is_free (node_of rows v) (binding_of bindings v)
  unfolding is_free
  not_a_variable h = rw (node-app rows v h)

  free-word : (x : Bool) → x ≡ is_free var (cond x none (some (at bindings v - 1)))
  unfolding is_free
  free-word true = refl
  free-word false = refl

  pub a_variable : at rows (term_words * v) ≡ 0 → eqb (at bindings v) 0 ≡ is_free (node_of rows v) (binding_of bindings v)
  unfolding binding_of
  a_variable e = rw (node-var rows v e) (free-word (eqb (at bindings v) 0))

-- the refusal by each test, in their order
module _ (rows bindings : List ℕ) (n v t : ℕ) where
  pub no_term_v : n ≤ v → 8 ≡ early_refusal (book_of rows n) (bound_of bindings n) v t
  unfolding early_refusal
  no_term_v h = rw (length-book_of rows n, le-ltb v n h)

  module _ (p : v < n) where
    pub no_term_t : n ≤ t → 8 ≡ early_refusal (book_of rows n) (bound_of bindings n) v t
    unfolding early_refusal
    no_term_t h = rw (length-book_of rows n, lt-ltb v n p, le-ltb t n h)

    module _ (q : t < n) (x : Bool) (e : x ≡ is_free (node_of rows v) (binding_of bindings v)) where
      pub not_free : x ≡ false → 9 ≡ early_refusal (book_of rows n) (bound_of bindings n) v t
      unfolding early_refusal
      not_free h = rw (length-book_of rows n, lt-ltb v n p, lt-ltb t n q, get_or-book_of rows n v p, get_or-bound_of bindings n v p, ← e, h)

      pub by_occurrence : x ≡ true → (y : Bool) → y ≡ occurs v (val (book_of rows n) (bound_of bindings n) t)
          → cond y 10 0 ≡ early_refusal (book_of rows n) (bound_of bindings n) v t
      unfolding early_refusal
      by_occurrence h y o =
          rw (o, length-book_of rows n, lt-ltb v n p, lt-ltb t n q, get_or-book_of rows n v p, get_or-bound_of bindings n v p, ← e, h)

-- What holds of a choice that these tests pass.
pub record Passed (b : Book) (β : Bindings) (v t : ℕ) : Type 0 where
  pub v_term : v < length b
  pub t_term : t < length b
  pub v_var : get_or b v var ≡ var
  pub v_free : get_or β v none ≡ none
  pub absent : occurs v (val b β t) ≡ false

-- the refusal by what the tests say
abbrev refusal_by : Bool → Bool → Bool → ℕ
refusal_by x y z = cond x (cond y (cond z 10 0) 9) 8

all_pass : (x y z : Bool) → refusal_by x y z ≡ 0 → (x ≡ true) × (y ≡ true) × (z ≡ false)
all_pass true true true e = absurd (omega arith)
all_pass true true false e = (refl, refl, refl)
all_pass true false z e = absurd (omega arith)
all_pass false y z e = absurd (omega arith)

pub passed : (b : Book) (β : Bindings) (v t : ℕ) → early_refusal b β v t ≡ 0 → Passed b β v t
unfolding early_refusal
passed b β v t e =
    let h = all_pass _ (is_free (get_or b v var) (get_or β v none)) (occurs v (val b β t)) e in
    let terms = and-true (ltb v (length b)) _ h.0 in
    let free = free-var _ _ h.1 in
    record { v_term = ltb-true v _ terms.0; t_term = ltb-true t _ terms.1; v_var = free.0; v_free = free.1; absent = h.2 }

-- the tests in a row are these, and then what comes behind them
tests_first : (x y z : Bool) (a : Answer)
    → require x 8 (require y 9 (require (not z) 10 a)) ≡ cond (eqb (refusal_by x y z) 0) a (refused (refusal_by x y z))
unfolding require
tests_first true true true a = refl
tests_first true true false a = refl
tests_first true false z a = refl
tests_first false y z a = refl

-- the numbers of an accepted choice
abbrev pub choice_numbers : State → ℕ → ℕ → List ℕ
choice_numbers s v t = turned s.entries (choice_table s v t) ∷ (length (choice_table s v t) - length s.entries) ∷ []

pub bind_tests_lem : (s : State) (v t : ℕ) → let r = early_refusal s.book s.bound v t in
    bind s v t ≡ cond (eqb r 0)
    (require (leb (length (choice_table s v t)) s.capacity) 11 (accepted (choice_numbers s v t) (choice_state s v t))) (refused r)
unfolding bind saturate early_refusal
bind_tests_lem s v t = tests_first _ (is_free (get_or s.book v var) (get_or s.bound v none)) (occurs v (val s.book s.bound t)) _
