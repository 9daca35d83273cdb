-- The soundness test of `model` says exactly the facts of Facts.antt. Assumes nothing.
use mathlib.Core.Path.{◌≡◌}
use mathlib.Core.Logic.{◌↔◌}
use Prim.Native.Nat.{◌≤◌}
use lib.ListN.{length}
use lib.Dec.{T, eqb, ltb, leb, leb→le, le→leb, ltb→lt, lt→ltb, eqb→eq}
use Rattle.model.specs.Limits.{Limits}
use Rattle.model.specs.Lists.{all}
use Rattle.model.specs.Term as Term
use Rattle.model.specs.Step.{State}
use Rattle.model.specs.Area.{ranges_ok, terms_ok, entry_ok, distinct, sound_state}
use Rattle.theory.proofs.Lists.Laws.{all-at, all_intro}
use Rattle.theory.proofs.Lists.Conjunctions.{and₆}
use Rattle.theory.proofs.Soundness.Facts.{SoundFacts}
use Rattle.theory.proofs.Soundness.Terms.{formed_facts, facts_formed, acyclic_facts, facts_acyclic}
use Rattle.theory.proofs.Soundness.Table.{eq-T, table_facts, facts_table}

-- capacity and counts lie in their ranges exactly when the six tests say so
abbrev Ranges : Limits → State → Type 0
Ranges lim s =
    (1 ≤ s.capacity) × (s.capacity ≤ lim.max_capacity) × (length s.book ≤ lim.max_terms) ×
    (length s.bound ≡ length s.book) × (length s.entries ≤ s.capacity) × (length s.lines ≤ lim.max_lines)

pub ranges : (lim : Limits) (s : State) → T (ranges_ok lim s) ↔ Ranges lim s
unfolding ranges_ok
ranges lim s =
    let six : _ =
    and₆ (leb 1 s.capacity) (leb s.capacity lim.max_capacity) (leb (length s.book) lim.max_terms)
    (eqb (length s.bound) (length s.book)) (leb (length s.entries) s.capacity) (leb (length s.lines) lim.max_lines) in (
      λ h. let g : _ = six.0 h in
          (leb→le _ _ g.0, leb→le _ _ g.1, leb→le _ _ g.2, eqb→eq _ _ g.3, leb→le _ _ g.4, leb→le _ _ g.5),
      λ f. six.1 (le→leb _ _ f.0, le→leb _ _ f.1, le→leb _ _ f.2, eq-T _ _ f.3, le→leb _ _ f.4, le→leb _ _ f.5),
    )

-- a state is sound exactly when the parts pass
pub tests : (lim : Limits) (s : State) → T (sound_state lim s) ↔
    (T (ranges_ok lim s) × T (terms_ok s.book s.bound) × T (Term.acyclic s.book s.bound) ×
    T (all (entry_ok s.book s.bound s.entries) s.entries) × T (distinct s.entries) ×
    T (all (λ i. ltb i (length s.entries)) s.lines))
unfolding sound_state
tests lim s =
    and₆ (ranges_ok lim s) (terms_ok s.book s.bound) (Term.acyclic s.book s.bound)
    (all (entry_ok s.book s.bound s.entries) s.entries) (distinct s.entries)
    (all (λ i. ltb i (length s.entries)) s.lines)

pub sound_facts : (lim : Limits) (s : State) → T (sound_state lim s) → SoundFacts lim s
sound_facts lim s h =
    let g : _ = (tests lim s).0 h in
    let r : Ranges lim s = (ranges lim s).0 g.0 in
    record {
      some_capacity = r.0;
      capacity-fits = r.1;
      few-terms = r.2;
      few-entries = r.4;
      few-lines = r.5;
      formed = formed_facts s.book s.bound r.3 g.1;
      acyclic = acyclic_facts s.book s.bound g.2;
      table = table_facts s.book s.bound s.entries g.3 g.4;
      line-entries = λ k l. ltb→lt _ _ (all-at (λ i. ltb i (length s.entries)) s.lines 0 g.5 k l);
    }

pub facts_sound : (lim : Limits) (s : State) → SoundFacts lim s → T (sound_state lim s)
facts_sound lim s f =
    let t : _ = facts_table s.book s.bound s.entries f.table in
    (tests lim s).1 (
      (ranges lim s).1 (f.some_capacity, f.capacity-fits, f.few-terms, f.formed.same_length, f.few-entries, f.few-lines),
      facts_formed s.book s.bound f.formed,
      facts_acyclic s.book s.bound f.acyclic,
      t.0,
      t.1,
      all_intro (λ i. ltb i (length s.entries)) s.lines 0 (λ k l. lt→ltb _ _ (f.line-entries k l)),
    )
