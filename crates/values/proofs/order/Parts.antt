-- The parts of a term: what they are in rows of words, that they are terms, and that a term ends one step behind them.
-- Assumes nothing.
use Rattle.std.proofs.Common.{◌≡◌, refl, ◌∙◌, List, [], ◌∷◌, Bool, true, false, ℕ, zero, suc, ◌-◌, ◌≤◌, ◌<◌, le_of_suc-le-suc, not-suc-le-zero, arith, length, get_or, T}
use Rattle.std.proofs.Math.Option.{Option, none, some}
use Rattle.std.proofs.Math.Decide.{ℕ_discrete}
use Rattle.model.specs.Limits.{max_arity}
use Rattle.model.specs.Lists.{all}
use Rattle.model.specs.Term.{Node, var, app, arguments, Book, Bindings, ends_step, ends}
use Rattle.theory.proofs.Lists.Laws.{and_left, and_both, true_T}
use Rattle.theory.proofs.Soundness.Facts.{Formed}
use Rattle.theory.proofs.Values.Ends.{argument-lt}
use Rattle.layout.specs.limits.Rows.{at, node_of, book_of, binding_of, bound_of, GoodTerms}
use Rattle.layout.proofs.limits.Rows.{length-book_of, get_or-book_of, get_or-bound_of, binding_none, binding_some, good_formed}
use Rattle.values.specs.order.Order.{parts_of, parts}
use Rattle.values.specs.order.Marking.{parts_in}

-- the element of a list that has one
only : (a i : ℕ) → i < length (a ∷ []) → a ≡ get_or (a ∷ []) i 0
only a zero l = refl
only a (suc i) l = absurd (not-suc-le-zero (le_of_suc-le-suc l))

-- ---- parts in rows

module _ {rows bindings : List ℕ} {n : ℕ} (good : GoodTerms rows bindings n) (t : ℕ) (l : t < n) where
  -- the parts of term t, from its row and its word
  in_rows : parts_in rows bindings n t ≡ parts_of (node_of rows t) (binding_of bindings t)
  unfolding parts
  in_rows = rw (get_or-book_of rows n t l, get_or-bound_of bindings n t l)

  -- an application's are its arguments, a bound variable's is what it is bound to, a free one has none
  pub parts-app : {s : ℕ} {args : List ℕ} → node_of rows t ≡ app s args → parts_in rows bindings n t ≡ args
  unfolding parts_of
  parts-app p = in_rows ∙ rw p

  pub parts_free : node_of rows t ≡ var → binding_of bindings t ≡ none → parts_in rows bindings n t ≡ []
  unfolding parts_of
  parts_free p q = in_rows ∙ rw (p, q)

  pub parts-bound : {u : ℕ} → node_of rows t ≡ var → binding_of bindings t ≡ some u → parts_in rows bindings n t ≡ u ∷ []
  unfolding parts_of
  parts-bound p q = in_rows ∙ rw (p, q)

  -- a variable that has a part is bound to it
  module _ (p : node_of rows t ≡ var) (i : ℕ) (k : i < length (parts_in rows bindings n t)) where
    pub bound-word : 1 ≤ at bindings t
    bound-word = go (ℕ_discrete (at bindings t) 0)
      where
        go : Dec (at bindings t ≡ 0) → 1 ≤ at bindings t
        go (yes f) = absurd (not-suc-le-zero (rw (parts_free p (binding_none bindings t f)) at k))
        go (no f) = omega arith

    pub part_bound : at bindings t - 1 ≡ get_or (parts_in rows bindings n t) i 0
    part_bound =
        let q : parts_in rows bindings n t ≡ (at bindings t - 1) ∷ [] =
        parts-bound p (binding_some bindings t (λ f. omega (arith, bound-word))) in
        rw q (only (at bindings t - 1) i (rw q at k))

-- ---- parts of a book

-- parts are below m, where the arguments and the bound term are
parts-lt : (m : ℕ) (x : Node) (o : Option ℕ) → ((i : ℕ) → i < length (arguments x) → get_or (arguments x) i 0 < m)
    → ((u : ℕ) → o ≡ some u → u < m) → (j : ℕ) → j < length (parts_of x o) → get_or (parts_of x o) j 0 < m
unfolding parts_of arguments
parts-lt m var none below bound j l = absurd (not-suc-le-zero l)
parts-lt m var (some u) below bound zero l = bound u refl
parts-lt m var (some u) below bound (suc j) l = absurd (omega arith)
parts-lt m (app s args) o below bound j l = below j l

-- a book of n terms that obeys the rules of terms
pub record Good (b : Book) (β : Bindings) (n : ℕ) : Type 0 where
  pub size : length b ≡ n
  pub formed : Formed b β

pub good_book : {rows bindings : List ℕ} {n : ℕ} → GoodTerms rows bindings n → Good (book_of rows n) (bound_of bindings n) n
good_book {rows} {bindings} {n} good = record { size = length-book_of rows n; formed = good_formed good }

-- whether a term ends, by its parts
step-parts : (p : ℕ → Bool) (x : Node) (o : Option ℕ) → T (ends_step p x o) → T (all p (parts_of x o))
unfolding ends_step parts_of all
step-parts p var none e = tt
step-parts p var (some u) e = and_both (p u) true e tt
step-parts p (app s args) o e = e

parts-step : (p : ℕ → Bool) (x : Node) (o : Option ℕ) → T (all p (parts_of x o)) → T (ends_step p x o)
unfolding ends_step parts_of all
parts-step p var none e = tt
parts-step p var (some u) e = and_left (p u) true e
parts-step p (app s args) o e = e

-- there are few of them
parts-few : (x : Node) (o : Option ℕ) → length (arguments x) ≤ max_arity → length (parts_of x o) ≤ max_arity
unfolding parts_of arguments
parts-few var none h = omega arith
parts-few var (some u) h = omega arith
parts-few (app s args) o h = h

module _ (b : Book) (β : Bindings) where
  pub ends-parts : (k t : ℕ) → T (ends b β (suc k) t) → T (all (ends b β k) (parts b β t))
  unfolding ends parts
  ends-parts k t e = step-parts (ends b β k) (get_or b t var) (get_or β t none) e

  pub parts-end : (k t : ℕ) → T (all (ends b β k) (parts b β t)) → T (ends b β (suc k) t)
  unfolding ends parts
  parts-end k t e = parts-step (ends b β k) (get_or b t var) (get_or β t none) e

  -- a term that ends within k steps ends within a least number of them
  pub record Least (k t : ℕ) : Type 0 where
    pub steps : ℕ
    pub within : steps < k
    pub enough : T (ends b β (suc steps) t)
    pub few : T (ends b β steps t) → ⊥

  pub least : (k t : ℕ) → T (ends b β k t) → Least k t
  unfolding ends
  least zero t e = absurd e
  least (suc k) t e = go (ends b β k t) refl (least k t)
    where
      go : (c : Bool) → ends b β k t ≡ c → (T (ends b β k t) → Least k t) → Least (suc k) t
      go true q ih =
          let r : Least k t = ih (true_T _ q) in
          record { steps = r.steps; within = omega arith; enough = r.enough; few = r.few }
      go false q ih = record { steps = k; within = omega arith; enough = e; few = λ f. rw q at f }

  module _ (formed : Formed b β) where
    pub part_lt : (t : ℕ) → t < length b → (i : ℕ) → i < length (parts b β t) → get_or (parts b β t) i 0 < length b
    unfolding parts
    part_lt t l =
        parts-lt (length b) (get_or b t var) (get_or β t none) (argument-lt b β formed t l) (λ u q. (formed.bound-var t u q).1)

    pub few-parts : (t : ℕ) → t < length b → length (parts b β t) ≤ max_arity
    unfolding parts
    few-parts t l = parts-few (get_or b t var) (get_or β t none) (formed.small_arity t l)
