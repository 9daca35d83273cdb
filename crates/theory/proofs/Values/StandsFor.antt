-- What a term stands for, as the rules write it: the fuel of `deref` is enough. Assumes nothing.
use mathlib.Core.Path.{◌≡◌, sym, ◌∙◌}
use mathlib.Core.Option.{none}
use Prim.Native.Nat.{ℕ, suc, ◌<◌}
use native.Mathlib.Omega.{arith}
use lib.ListN.{length, get_or}
use Rattle.model.specs.Term.{var, Book, Bindings, deref_step, deref}
use Rattle.theory.specs.Reading.{StandsFor, StandsForAsWritten}
use Rattle.theory.proofs.Soundness.Facts.{Formed, Acyclic}
use Rattle.theory.proofs.Soundness.Proper.{proper_facts}
use Rattle.theory.proofs.Values.Equations.{deref-more}

-- one more step of following bindings changes nothing
deref_step_lem : (b : Book) (β : Bindings) → Acyclic b β → (t : ℕ) → t < length b
    → deref b β (length b) t ≡ deref_step (deref b β (length b)) t (get_or b t var) (get_or β t none)
unfolding deref
deref_step_lem b β acyclic t l = sym (deref-more b β (length b) (suc (length b)) t (omega arith) (acyclic t l))

-- so each term stands for what the rules say
stands_as_written : (b : Book) (β : Bindings) → Formed b β → Acyclic b β → StandsFor b β
unfolding deref_step
stands_as_written b β formed acyclic =
    record {
      of_free = λ t l p q. deref_step_lem b β acyclic t l ∙ rw (p, q);
      of_bound = λ t u l q. deref_step_lem b β acyclic t l ∙ rw ((formed.bound-var t u q).0, q);
      of_app = λ t s args l p. deref_step_lem b β acyclic t l ∙ rw p;
    }

pub stands_for_as_written : StandsForAsWritten
stands_for_as_written b β h = let p = proper_facts b β h in stands_as_written b β p.0 p.1
