-- The tests of soundness on a book and its bindings say exactly that they are formed and acyclic. Assumes nothing.
use mathlib.Core.Path.{◌≡◌, refl}
use mathlib.Core.Bool.{Bool, ◌&&◌}
use mathlib.Core.Option.{Option, none, some}
use Prim.Native.Nat.{ℕ, ◌<◌, zero-le}
use native.Mathlib.Nat.{zero-add}
use native.Mathlib.Decide.{dec_lt}
use native.Mathlib.Omega.{arith}
use lib.ListN.{length, get_or, get_or-eq_default}
use lib.Dec.{T, ltb, leb, leb→le, le→leb, ltb→lt, lt→ltb}
use Rattle.model.specs.Limits.{max_arity, max_symbol}
use Rattle.model.specs.Lists.{all, from}
use Rattle.model.specs.Term.{Node, var, app, symbol, arguments, Book, Bindings, ends, acyclic}
use Rattle.model.specs.Area.{node_ok, binding_ok, terms_ok}
use Rattle.theory.proofs.Lists.Laws.{and_both, all-at, all_intro, length_from, get_or-from}
use Rattle.theory.proofs.Lists.Conjunctions.{and₂, and₃}
use Rattle.theory.proofs.Soundness.Facts.{NodeRight, Formed, Acyclic}

-- a test holds for all numbers below n exactly when it holds for each
pub all-below : (p : ℕ → Bool) (n : ℕ) → T (all p (from 0 n)) → (i : ℕ) → i < n → T (p i)
all-below p n h i l = rw (get_or-from 0 n i 0 l, zero-add) at (all-at p (from 0 n) 0 h i (rw length_from l))

pub below_all : (p : ℕ → Bool) (n : ℕ) → ((i : ℕ) → i < n → T (p i)) → T (all p (from 0 n))
below_all p n h =
    all_intro p (from 0 n) 0 (λ i l. let k : i < n = rw length_from at l in rw (get_or-from 0 n i 0 k, zero-add) (h i k))

-- a node passes exactly when it obeys the rules of terms
node_facts : (t : ℕ) (n : Node) → T (node_ok t n) → NodeRight t n
unfolding node_ok symbol arguments
node_facts t var h = record { small-symbol = zero-le; small_arity = zero-le; lower = λ i l. omega arith }
node_facts t (app s args) h =
    let f : _ = (and₃ (leb s max_symbol) (leb (length args) max_arity) (all (λ a. ltb a t) args)).0 h in
    record {
      small-symbol = leb→le s max_symbol f.0;
      small_arity = leb→le (length args) max_arity f.1;
      lower = λ i l. ltb→lt (get_or args i 0) t (all-at (λ a. ltb a t) args 0 f.2 i l);
    }

facts_node : (t : ℕ) (n : Node) → NodeRight t n → T (node_ok t n)
unfolding node_ok symbol arguments
facts_node t var f = tt
facts_node t (app s args) f =
    (and₃ (leb s max_symbol) (leb (length args) max_arity) (all (λ a. ltb a t) args)).1 (
      le→leb s max_symbol f.small-symbol,
      le→leb (length args) max_arity f.small_arity,
      all_intro (λ a. ltb a t) args 0 (λ i l. lt→ltb (get_or args i 0) t (f.lower i l)),
    )

-- a binding is right exactly when only a variable is bound, and to a term
binding_facts : (b : Book) (n : Node) (o : Option ℕ) → T (binding_ok b n o) → (u : ℕ) → o ≡ some u → (n ≡ var) × (u < length b)
unfolding binding_ok
binding_facts b n none h u e = let z : ◌≡◌ {A = ℕ} 0 1 = cc in absurd (omega arith)
binding_facts b var (some t) h u e = let z : t ≡ u = cc in (refl, omega (arith, ltb→lt t (length b) h))
binding_facts b (app s args) (some t) h u e = absurd h

facts_binding : (b : Book) (n : Node) (o : Option ℕ) → ((u : ℕ) → o ≡ some u → (n ≡ var) × (u < length b)) → T (binding_ok b n o)
unfolding binding_ok
facts_binding b n none h = tt
facts_binding b var (some t) h = lt→ltb t (length b) (h t refl).1
facts_binding b (app s args) (some t) h = let z : ◌≡◌ {A = ℕ} 0 1 = cc (h t refl).0 in absurd (omega arith)

module _ (b : Book) (β : Bindings) where
  -- past the end nothing is bound
  bound-lt : length β ≡ length b → (t u : ℕ) → get_or β t none ≡ some u → t < length b
  bound-lt e t u h = go (dec_lt t (length b))
    where
      go : Dec (t < length b) → t < length b
      go (yes l) = l
      go (no l) =
          let n : get_or β t none ≡ none = get_or-eq_default β none (omega arith) in
          let z : ◌≡◌ {A = ℕ} 0 1 = cc in
          absurd (omega arith)

  -- whether term t passes
  term_ok : ℕ → Bool
  term_ok t = node_ok t (get_or b t var) && binding_ok b (get_or b t var) (get_or β t none)

  -- the terms pass exactly when they are formed, and no value contains itself exactly when that test says so
  pub formed_facts : length β ≡ length b → T (terms_ok b β) → Formed b β
  unfolding terms_ok term_ok
  formed_facts e h =
      record {
        same_length = e;
        lower = λ t l. (node t l).lower;
        small_arity = λ t l. (node t l).small_arity;
        small-symbol = λ t l. (node t l).small-symbol;
        bound-var = λ t u q. binding_facts b (get_or b t var) (get_or β t none) (term t (bound-lt e t u q)).1 u q;
      }
    where
      term : (t : ℕ) → t < length b → T (node_ok t (get_or b t var)) × T (binding_ok b (get_or b t var) (get_or β t none))
      term t l = (and₂ (node_ok t (get_or b t var)) (binding_ok b (get_or b t var) (get_or β t none))).0 (all-below term_ok (length b) h t l)

      node : (t : ℕ) → t < length b → NodeRight t (get_or b t var)
      node t l = node_facts t (get_or b t var) (term t l).0

  pub facts_formed : Formed b β → T (terms_ok b β)
  unfolding terms_ok term_ok
  facts_formed f = below_all term_ok (length b) term
    where
      node : (t : ℕ) → t < length b → NodeRight t (get_or b t var)
      node t l =
          record {
            small-symbol = f.small-symbol t l;
            small_arity = f.small_arity t l;
            lower = f.lower t l;
          }

      term : (t : ℕ) → t < length b → T (term_ok t)
      term t l =
          and_both (node_ok t (get_or b t var)) (binding_ok b (get_or b t var) (get_or β t none)) (facts_node t (get_or b t var) (node t l))
          (facts_binding b (get_or b t var) (get_or β t none) (f.bound-var t))

  pub acyclic_facts : T (acyclic b β) → Acyclic b β
  unfolding acyclic
  acyclic_facts h = all-below (ends b β (length b)) (length b) h

  pub facts_acyclic : Acyclic b β → T (acyclic b β)
  unfolding acyclic
  facts_acyclic f = below_all (ends b β (length b)) (length b) f
