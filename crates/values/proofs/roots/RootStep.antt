-- What a term stands for, one step from what it may be bound to. Assumes nothing.
use Rattle.std.proofs.Common.{◌≡◌, refl, sym, ◌∙◌, List, ℕ, suc, ◌<◌, zero-le, suc-le-suc, arith, length, get_or}
use Rattle.std.proofs.Math.Option.{Option, none, some}
use Rattle.model.specs.Term.{Node, var, app, Book, Bindings, deref_step, deref}
use Rattle.theory.proofs.Soundness.Facts.{Acyclic}
use Rattle.theory.proofs.Soundness.Terms.{acyclic_facts}
use Rattle.theory.proofs.Values.Equations.{deref-more}
use Rattle.layout.specs.limits.Rows.{at, node_of, book_of, binding_of, bound_of}
use Rattle.layout.proofs.limits.Rows.{length-book_of, get_or-book_of, get_or-bound_of}
use Rattle.values.specs.order.Order.{parts_of}
use Rattle.values.specs.roots.Reading.{Listed}
use Rattle.values.proofs.roots.Settled.{settled-parts, Filled, next-term}

-- one step agrees where the terms one step down do
deref_step-parts : (f g : ℕ → ℕ) (t : ℕ) (x : Node) (o : Option ℕ)
    → ((j : ℕ) → j < length (parts_of x o) → f (get_or (parts_of x o) j 0) ≡ g (get_or (parts_of x o) j 0)) → deref_step f t x o ≡ deref_step g t x o
unfolding parts_of deref_step
deref_step-parts f g t var none h = refl
deref_step-parts f g t var (some u) h = h 0 (suc-le-suc zero-le)
deref_step-parts f g t (app s args) o h = refl

-- what a term stands for is found in one step
deref_step_lem : (b : Book) (β : Bindings) → Acyclic b β → (t : ℕ) → t < length b
    → deref b β (length b) t ≡ deref_step (deref b β (length b)) t (get_or b t var) (get_or β t none)
unfolding deref
deref_step_lem b β acyclic t l = sym (deref-more b β (length b) (suc (length b)) t (omega arith) (acyclic t l))

-- the word is what the term stands for
abbrev pub IsRoot : List ℕ → List ℕ → ℕ → ℕ → ℕ → Type 0
IsRoot rows bindings n t w = w ≡ deref (book_of rows n) (bound_of bindings n) n t

module _ {rows bindings list : List ℕ} {n : ℕ} (listed : Listed rows bindings list n) where
  deref_of : (t : ℕ) → t < n
      → deref (book_of rows n) (bound_of bindings n) n t
      ≡ deref_step (deref (book_of rows n) (bound_of bindings n) n) t (node_of rows t) (binding_of bindings t)
  deref_of t l =
      rw (length-book_of rows n, get_or-book_of rows n t l, get_or-bound_of bindings n t l) at
      (deref_step_lem (book_of rows n) (bound_of bindings n) (acyclic_facts (book_of rows n) (bound_of bindings n) listed.no_cycle) t (rw length-book_of l))

-- one step from settled words
pub root-next : {rows bindings list : List ℕ} {n : ℕ} {words₀ words : List ℕ} {k : ℕ} → Filled rows bindings list n (IsRoot rows bindings n) words₀ words k
    → k < n → (w : ℕ) → w ≡ deref_step (at words) (at list k) (node_of rows (at list k)) (binding_of bindings (at list k)) → IsRoot rows bindings n (at list k) w
root-next {rows} {bindings} {list} {n} {words₀} {words} {k} h l w e =
    e
    ∙ deref_step-parts (at words) (deref (book_of rows n) (bound_of bindings n) n) (at list k) (node_of rows (at list k)) (binding_of bindings (at list k))
    (settled-parts h.listed (IsRoot rows bindings n) words k h.settled l)
    ∙ sym (deref_of h.listed (at list k) (next-term h l))
