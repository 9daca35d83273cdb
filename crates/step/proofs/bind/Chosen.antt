-- A choice on a loaded state: what the tests before the walk leave to the rest, and the answer. Assumes nothing.
use Rattle.std.proofs.Common.{◌≡◌, refl, sym, ◌∙◌, List, Bool, true, false, ℕ, ◌+◌, ◌≤◌, ◌<◌, arith, ne_eqb, leb-true, length, set, length-set, leb, Result, Err}
use mathlib.Core.Option.{some}
use Rattle.model.specs.Limits.{Limits}
use Rattle.model.specs.Table.{settle}
use Rattle.model.specs.Step.{State, require, accepted, bind}
use Rattle.theory.proofs.Soundness.Facts.{SoundFacts, Formed, Acyclic}
use Rattle.theory.proofs.Soundness.Terms.{facts_formed, facts_acyclic}
use Rattle.theory.proofs.Steps.Answers.{choice_table, choice_state}
use Rattle.theory.proofs.Table.Place.{length-settle}
use Rattle.theory.proofs.Values.Binding.{bound_formed, bound-acyclic}
use Rattle.layout.specs.limits.Rows.{Loaded, book_of, bound_of, table_of, loaded_state, GoodTerms}
use Rattle.layout.proofs.limits.Rows.{length-book_of, length-table_of}
use Rattle.layout.specs.declared.header.Header.{Header}
use Rattle.layout.specs.header.Held.{held}
use Rattle.values.proofs.names.Lowest.{scratch_kept}
use Rattle.soundness.proofs.sound.Tests.{row_facts}
use Rattle.pairs.proofs.Rooms.{room_kept}
use Rattle.values.proofs.evaluate.Rooms.{fewer_terms}
use Rattle.pairs.proofs.Rooms.{room_fewer}
use Rattle.area.proofs.load.Uses.{ready_facts, ready-holds}
use Rattle.refusal.specs.declared.Refusal.{Refusal}
use Rattle.refusal.specs.declared.Refusal.TheVariants.{Full}
use Rattle.refusal.specs.Numbers.{number_of}
use Rattle.refusal.proofs.Numbers.{none_is_zero}
use Rattle.table.specs.place.Stands.{HoldsTable}
use Rattle.step.specs.declared.answer.Step.TheVariants.{Bind}
use Rattle.step.specs.answer.Stepped.{step_numbers, accepted_as, answer_of, header_after, Leaves, Gives}
use Rattle.step.specs.declared.answer.Stepped.{Stepped}
use Rattle.step.proofs.answer.Tables.{held-table}
use Rattle.step.proofs.answer.Leaving.{table-words, leaves, gives_refused, gives_accepted}
use Rattle.step.specs.settle.Settled.{walked_answer, IsSettled}
use Rattle.step.specs.rebuild.Rebuilding.{ToRebuild}
use Rattle.step.specs.bind.Choosing.{Asked, early_refusal}
use Rattle.step.proofs.bind.Tests.{choice_numbers, Passed, passed, bind_tests_lem}
use Rattle.step.proofs.bind.Words.{bound-set, words-set}

module _ {h : Header} {rows bindings list roots names entries lefts rights cells : List ℕ} {lim : Limits} {lines : List ℕ}
    (a : Asked h rows bindings list roots names entries lefts rights cells lim lines) (v t : ℕ) where
  abbrev state : State
  state = loaded_state (held h rows bindings lines entries)

  -- a choice that the tests before the walk refuse
  pub refuses : (e : Refusal) → number_of e ≡ early_refusal (book_of rows h.terms) (bound_of bindings h.terms) v t → (w : Loaded)
      → Gives lim (Bind v t) (bind state v t) (Err e) w
  unfolding loaded_state
  refuses e tested w =
      let none = none_is_zero e in
      gives_refused lim w (Bind v t) e (rw (bind_tests_lem state v t, ← tested, ne_eqb (number_of e) 0 none))

  -- The choice passes them.
  module _ (tested : 0 ≡ early_refusal (book_of rows h.terms) (bound_of bindings h.terms) v t) where
    facts : SoundFacts lim state
    facts = ready_facts a.ready

    tests : Passed (book_of rows h.terms) (bound_of bindings h.terms) v t
    tests = passed _ _ v t (sym tested)

    v_term : v < h.terms
    v_term = rw length-book_of at tests.v_term

    -- the word of v is there, and t plus 1 is a word
    pub t_fits : t + 1 < 4294967296
    t_fits =
        let t_term : t < h.terms = rw length-book_of at tests.t_term in
        omega (arith, a.ready.used.bindings_fit, a.ready.sizes.bindings_size, a.lent.for_terms.scratch.room.lefts_fit, a.lent.for_terms.scratch.room.words)

    pub v_fits : v < length bindings
    v_fits = omega (arith, v_term, a.ready.used.bindings_fit)

    -- the bindings after it
    new-bound : bound_of (set bindings v (t + 1)) h.terms ≡ set (bound_of bindings h.terms) v (some t)
    new-bound = bound-set bindings h.terms v t v_term a.ready.used.bindings_fit

    new_formed : Formed (book_of rows h.terms) (set (bound_of bindings h.terms) v (some t))
    unfolding loaded_state
    new_formed = bound_formed _ _ facts.formed facts.acyclic v t tests.v_term tests.t_term tests.v_var tests.v_free tests.absent

    new-acyclic : Acyclic (book_of rows h.terms) (set (bound_of bindings h.terms) v (some t))
    unfolding loaded_state
    new-acyclic = bound-acyclic _ _ facts.formed facts.acyclic v t tests.v_term tests.t_term tests.v_var tests.v_free tests.absent

    good : GoodTerms rows (set bindings v (t + 1)) h.terms
    good =
        let old = a.ready.valued.listed.good in
        record {
          rows_fit = old.rows_fit;
          words_fit = rw length-set old.words_fit;
          few-arguments = old.few-arguments;
          rules = rw new-bound (facts_formed _ _ new_formed);
        }

    -- what the rest asks
    pub to_rebuild : {cells' : List ℕ} → length cells' ≡ length cells
        → ToRebuild h rows (set bindings v (t + 1)) list roots names entries lefts rights cells'
    unfolding loaded_state
    to_rebuild k =
        let room = a.lent.for_terms in
        let few : h.terms ≤ lim.max_terms = omega (arith, a.ready.used.bindings_fit, a.ready.sizes.bindings_size) in
        let terms = length-book_of rows h.terms in
        let sides = facts.table in
        record {
          good = good;
          no_cycle = rw new-bound (facts_acyclic _ _ new-acyclic);
          table = held-table facts (ready-holds a.ready);
          left-term = rw (length-table_of entries h.entries, terms) at sides.left-term;
          right-term = rw (length-table_of entries h.entries, terms) at sides.right-term;
          long = a.ready.sizes.entries_size;
          for_terms = fewer_terms few
              (record { list-fits = room.list-fits; names_fit = room.names_fit; scratch = scratch_kept room.scratch refl refl k refl });
          for_entries = room_fewer facts.capacity-fits (room_kept a.lent.for_entries refl refl k);
        }

    module _ {entries' : List ℕ} (k : length entries' ≡ length entries) where
      -- the words after an accepted choice
      left-words : (m : ℕ) → m ≡ length (choice_table state v t)
          → HoldsTable entries' (settle (book_of rows h.terms) (set (bound_of bindings h.terms) v (some t)) (choice_table state v t))
          → Leaves lim (choice_state state v t)
          (held (record { capacity = h.capacity; terms = h.terms; entries = m; lines = h.lines }) rows (set bindings v (t + 1)) lines entries')
      unfolding loaded_state
      left-words m c table =
          let old = ready-holds a.ready in
          let z = a.ready.sizes in
          let size = length-set bindings v (t + 1) ∙ z.bindings_size in
          let long = k ∙ z.entries_size in
          leaves
          (record { terms-long = z.rows_size; bindings-long = size; lines_long = z.lines_size; entries-long = long })
          (record {
            the_capacity = refl;
            terms-count = old.terms-count;
            entries-count = c ∙ sym (length-settle _ _ (choice_table state v t));
            lines-count = old.lines-count;
            term_words = old.term_words;
            binding_words =
                rw (← z.bindings_size)
                (words-set bindings h.terms v t v_term a.ready.used.bindings_fit ((row_facts _).0 a.ready.rows).no_more-bindings);
            line-words = old.line-words;
            entry-words = table-words h.capacity table long;
          })

      -- the answer of the rest is the answer of the choice
      gives : {s : Result Stepped Refusal} → IsSettled h entries' s (book_of rows h.terms) (set (bound_of bindings h.terms) v (some t)) (table_of entries h.entries)
          → (x : Bool) → leb (length (choice_table state v t)) h.capacity ≡ x
          → Gives lim (Bind v t) (require x 11 (accepted (choice_numbers state v t) (choice_state state v t))) (answer_of s)
          (held (header_after h s) rows (set bindings v (t + 1)) lines entries')
      unfolding loaded_state require walked_answer accepted_as step_numbers
      gives q true x = rw (q.answer, x) (gives_accepted (Bind v t) refl refl (left-words _ refl (q.table (leb-true _ _ x))))
      gives q false x = rw (q.answer, x) (gives_refused lim _ (Bind v t) Full refl)

      pub chosen : {s : Result Stepped Refusal} → IsSettled h entries' s (book_of rows h.terms) (bound_of (set bindings v (t + 1)) h.terms) (table_of entries h.entries)
          → Gives lim (Bind v t) (bind state v t) (answer_of s) (held (header_after h s) rows (set bindings v (t + 1)) lines entries')
      unfolding loaded_state
      chosen q = rw (bind_tests_lem state v t, ← tested) (gives (rw new-bound at q) _ refl)
