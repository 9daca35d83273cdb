-- Whether a variable occurs in a value: one step from the flags of the terms below. Assumes nothing.
use Rattle.std.proofs.Common.{◌≡◌, refl, ap, ap₂, sym, ◌∙◌, List, [], ◌∷◌, Bool, true, false, not, ◌||◌, ℕ, suc, ◌<◌, zero-le, suc-le-suc, arith, length, get_or, eqb, eq-eqb, ne_eqb}
use Rattle.std.proofs.Math.Option.{Option, none, some}
use Rattle.std.specs.Int.{from_bool}
use Rattle.std.specs.List.{list_any}
use Rattle.std.proofs.lemmas.List.Recursion.{same_from_clauses}
use Rattle.model.specs.Term.{Node, var, app, Book, Bindings, Tree, trees, val, occurs, occurs_any}
use Rattle.theory.proofs.Soundness.Facts.{Formed, Acyclic}
use Rattle.theory.proofs.Soundness.Terms.{acyclic_facts}
use Rattle.theory.proofs.Values.Equations.{val-free, val-bound, val-app}
use Rattle.layout.specs.limits.Rows.{at, node_of, book_of, binding_of, bound_of}
use Rattle.layout.proofs.limits.Rows.{length-book_of, get_or-book_of, get_or-bound_of, good_formed}
use Rattle.values.specs.order.Order.{parts_of}
use Rattle.values.specs.roots.Flags.{flag, flagged, any, occurs_step}
use Rattle.values.proofs.roots.Settled.{settled-parts, Filled, next-term}

-- a flag's word says whether it stands
pub flag-stands : (c : Bool) (w : ℕ) → w ≡ flag c → not (eqb w 0) ≡ c
unfolding flag
flag-stands true w e = rw (ne_eqb w 0 (omega arith))
flag-stands false w e = rw (eq-eqb w 0 e)

-- the library's number of a flag is that word
pub flag-word : (c : Bool) → from_bool c ≡ flag c
unfolding flag
flag-word true = refl
flag-word false = refl

-- `any` is the library's
pub any-std : (p : ℕ → Bool) (xs : List ℕ) → list_any p xs ≡ any p xs
unfolding any
any-std p = same_from_clauses (list_any p) (any p) (λ x r. p x || r) refl (λ _ _. refl) (λ _ _. refl)

-- tests that agree on the elements of a list agree on whether some element passes
any_agree : (p q : ℕ → Bool) (xs : List ℕ) → ((j : ℕ) → j < length xs → p (get_or xs j 0) ≡ q (get_or xs j 0)) → any p xs ≡ any q xs
unfolding any
any_agree p q [] h = refl
any_agree p q (x ∷ xs) h = ap₂ ◌||◌ (h 0 (suc-le-suc zero-le)) (any_agree p q xs (λ j l. h (suc j) (suc-le-suc l)))

-- what occurs in the arguments' values occurs in one of them
occurs-any : (v : ℕ) (f : ℕ → Tree) (args : List ℕ) → occurs_any v (trees f args) ≡ any (λ u. occurs v (f u)) args
unfolding any occurs_any trees
occurs-any v f [] = refl
occurs-any v f (a ∷ args) = ap (λ (c : Bool). occurs v (f a) || c) (occurs-any v f args)

-- one step agrees where the terms one step down do
occurs_step-parts : (p q : ℕ → Bool) (v t : ℕ) (x : Node) (o : Option ℕ)
    → ((j : ℕ) → j < length (parts_of x o) → p (get_or (parts_of x o) j 0) ≡ q (get_or (parts_of x o) j 0))
    → occurs_step p v t x o ≡ occurs_step q v t x o
unfolding parts_of occurs_step
occurs_step-parts p q v t var none h = refl
occurs_step-parts p q v t var (some u) h = h 0 (suc-le-suc zero-le)
occurs_step-parts p q v t (app s args) o h = any_agree p q args h

-- whether v occurs in a value is found in one step
occurs_of : (b : Book) (β : Bindings) → Formed b β → Acyclic b β → (v t : ℕ) → t < length b → (x : Node) (o : Option ℕ)
    → get_or b t var ≡ x → get_or β t none ≡ o → occurs v (val b β t) ≡ occurs_step (λ u. occurs v (val b β u)) v t x o
unfolding occurs_step occurs
occurs_of b β formed acyclic v t l var none p q = rw (val-free b β formed acyclic t l p q)
occurs_of b β formed acyclic v t l var (some u) p q = ap (occurs v) (val-bound b β formed acyclic t u l q)
occurs_of b β formed acyclic v t l (app s args) o p q =
    ap (occurs v) (val-app b β formed acyclic t s args l p) ∙ occurs-any v (val b β) args

-- the word is the flag of the term
abbrev pub IsFlag : List ℕ → List ℕ → ℕ → ℕ → ℕ → ℕ → Type 0
IsFlag rows bindings n v t w = w ≡ flag (occurs v (val (book_of rows n) (bound_of bindings n) t))

module _ (v : ℕ) {rows bindings list : List ℕ} {n : ℕ} {words₀ words : List ℕ} {k : ℕ}
    (h : Filled rows bindings list n (IsFlag rows bindings n v) words₀ words k) where
  -- one step from settled flags
  pub occurs-next : k < n → (c : Bool) → c ≡ occurs_step (flagged words) v (at list k) (node_of rows (at list k)) (binding_of bindings (at list k))
      → c ≡ occurs v (val (book_of rows n) (bound_of bindings n) (at list k))
  unfolding flagged
  occurs-next l c e =
      let b : Book = book_of rows n in
      let β : Bindings = bound_of bindings n in
      let t : ℕ = at list k in
      e
      ∙ occurs_step-parts (flagged words) (λ u. occurs v (val b β u)) v t (node_of rows t) (binding_of bindings t)
      (λ j r. flag-stands _ _ (settled-parts h.listed (IsFlag rows bindings n v) words k h.settled l j r))
      ∙ sym
      (occurs_of b β (good_formed h.listed.good) (acyclic_facts b β h.listed.no_cycle) v t (rw length-book_of (next-term h l))
      (node_of rows t) (binding_of bindings t) (get_or-book_of rows n t (next-term h l)) (get_or-bound_of bindings n t (next-term h l)))
