-- What `proper` says: the book and its bindings are formed and acyclic. Assumes nothing.
use mathlib.Core.Bool.{◌&&◌}
use lib.ListN.{length}
use lib.Dec.{T, eqb, eqb→eq}
use borrow.Author.Tests.{eq-eqb}
use Rattle.model.specs.Term.{Book, Bindings}
use Rattle.model.specs.Area.{terms_ok}
use Rattle.theory.specs.Values.{proper}
use Rattle.theory.proofs.Lists.Laws.{and_left, and_right, and_both, true_T}
use Rattle.theory.proofs.Soundness.Facts.{Formed, Acyclic}
use Rattle.theory.proofs.Soundness.Terms.{formed_facts, facts_formed, acyclic_facts, facts_acyclic}

pub proper_facts : (b : Book) (β : Bindings) → T (proper b β) → Formed b β × Acyclic b β
unfolding proper
proper_facts b β h =
    let terms : T (eqb (length β) (length b) && terms_ok b β) = and_left (eqb (length β) (length b) && terms_ok b β) _ h in (
      formed_facts b β (eqb→eq _ _ (and_left (eqb (length β) (length b)) _ terms)) (and_right (eqb (length β) (length b)) _ terms),
      acyclic_facts b β (and_right (eqb (length β) (length b) && terms_ok b β) _ h),
    )

pub facts_proper : (b : Book) (β : Bindings) → Formed b β → Acyclic b β → T (proper b β)
unfolding proper
facts_proper b β f a =
    and_both (eqb (length β) (length b) && terms_ok b β) _
    (and_both (eqb (length β) (length b)) _ (true_T _ (eq-eqb _ _ f.same_length)) (facts_formed b β f)) (facts_acyclic b β a)
