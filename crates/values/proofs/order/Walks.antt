-- The steps of a walk: a term that is finished already or in progress, a term that starts and is finished, and parts one
-- after the other. Assumes nothing.
use Rattle.std.proofs.Common.{◌≡◌, refl, ap, sym, ◌∙◌, List, [], ◌∷◌, true, ⊎_elim, ℕ, zero, suc, ◌+◌, ◌≤◌, ◌<◌, le_of_suc-le-suc, not-suc-le-zero, eq-or-lt_of_le, add-one, arith, length, get_or, set, length-set, get_or-set_same, get_or-set_other, T}
use Rattle.model.specs.Lists.{all}
use Rattle.model.specs.Term.{Book, Bindings, ends}
use Rattle.theory.proofs.Lists.Laws.{and_left, and_right, and_both}
use Rattle.theory.proofs.Soundness.Facts.{Formed}
use Rattle.theory.proofs.Values.Equations.{ends_more}
use Rattle.values.specs.order.Order.{parts, Before}
use Rattle.values.specs.order.Marking.{marked, Marking, Advanced, stays, finishes, Finished, Stuck}
use Rattle.values.proofs.order.Tally.{Stored, here, there, stored, marked-le, marked_most, marked_more, marked_fewer, marked_kept}
use Rattle.values.proofs.order.Parts.{ends-parts, Least, least, part_lt}

-- what stands before place k does so in a list that changed at k or behind it
before_set : {list : List ℕ} {k u : ℕ} (i a : ℕ) → k ≤ i → Before list k u → Before (set list i a) k u
before_set {list} i a h p =
    record {
      place = p.place;
      early = p.early;
      is = get_or-set_other list i p.place a 0 (λ e. omega (arith, p.early)) ∙ p.is;
    }

before_more : {list : List ℕ} {k j u : ℕ} → k ≤ j → Before list k u → Before list j u
before_more h p = record { place = p.place; early = omega (arith, p.early); is = p.is }

-- marks that advanced: one that is 0 or 1 was so before, one that was 1 or 2 is so still, and one after the other
module _ {a a' : ℕ} where
  was_new : a' ≡ 0 → Advanced a a' → a ≡ 0
  was_new p (stays e) = sym e ∙ p
  was_new p (finishes e f) = e

  pub was_met : a' ≡ 1 → Advanced a a' → a ≡ 1
  was_met p (stays e) = sym e ∙ p
  was_met p (finishes e f) = absurd (omega arith)

  still_met : a ≡ 1 → Advanced a a' → a' ≡ 1
  still_met p (stays e) = e ∙ p
  still_met p (finishes e f) = absurd (omega arith)

  pub still-finished : a ≡ 2 → Advanced a a' → a' ≡ 2
  still-finished p (stays e) = e ∙ p
  still-finished p (finishes e f) = f

  advanced_more : {a'' : ℕ} → Advanced a a' → Advanced a' a'' → Advanced a a''
  advanced_more (stays e) (stays f) = stays (f ∙ e)
  advanced_more (stays e) (finishes f g) = finishes (sym e ∙ f) g
  advanced_more (finishes e f) (stays g) = finishes e (g ∙ f)
  advanced_more (finishes e f) (finishes g h) = finishes e h

module _ (b : Book) (β : Bindings) where
  -- ---- terms that are finished already, and a term in progress

  walked_still : {marks list : List ℕ} {done : ℕ} (us : List ℕ) → Marking b β marks list done
      → ((j : ℕ) → j < length us → get_or marks (get_or us j 0) 0 ≡ 2) → Finished b β marks us marks list done
  walked_still us m h = record { marking = m; finished = h; others = λ t l. stays refl }

  pub walked_none : {marks list : List ℕ} {done : ℕ} (us : List ℕ) → Marking b β marks list done → us ≡ []
      → Finished b β marks us marks list done
  walked_none us m e = walked_still us m (λ j l. absurd (not-suc-le-zero (rw e at l)))

  pub walked_finished : {marks list : List ℕ} {done : ℕ} (t : ℕ) → Marking b β marks list done → get_or marks t 0 ≡ 2
      → Finished b β marks (t ∷ []) marks list done
  walked_finished {marks} t m e = walked_still (t ∷ []) m at_once
    where
      at_once : (j : ℕ) → j < 1 → get_or marks (get_or (t ∷ []) j 0) 0 ≡ 2
      at_once zero l = e
      at_once (suc j) l = absurd (not-suc-le-zero (le_of_suc-le-suc l))

  pub stuck_met : (marks : List ℕ) (t : ℕ) → t < length b → get_or marks t 0 ≡ 1 → Stuck b β marks (t ∷ [])
  unfolding all
  stuck_met marks t l e k f h = h t l e (and_left (ends b β k t) true f)

  -- ---- a term and its parts

  module _ (marks : List ℕ) (t : ℕ) (l : t < length b) (fits : length b ≤ length marks) (new : get_or marks t 0 ≡ 0) where
    -- the marks with t in progress: as many terms are finished, and fewer are to be met
    pub started : {list : List ℕ} {done : ℕ} → Marking b β marks list done → Marking b β (set marks t 1) list done
    started m =
        record {
          marks_fit = rw length-set fits;
          list_fit = m.list_fit;
          mark = λ u k. small u k (stored marks t 1 u (omega arith));
          as_many = m.as_many ∙ sym (marked_kept (length b) 2 marks t 1 l fits (λ e. omega arith) (λ e. omega arith));
          terms = m.terms;
          listed = λ u k e. m.listed u k (finished u e (stored marks t 1 u (omega arith)));
          parts_first = m.parts_first;
        }
      where
        small : (u : ℕ) → u < length b → Stored marks t 1 u → get_or (set marks t 1) u 0 ≤ 2
        small u k (here e p) = omega arith
        small u k (there e p) = omega (arith, m.mark u k)

        finished : (u : ℕ) → get_or (set marks t 1) u 0 ≡ 2 → Stored marks t 1 u → get_or marks u 0 ≡ 2
        finished u e (here s p) = absurd (omega arith)
        finished u e (there s p) = sym p ∙ e

    pub fewer_new : marked marks (length b) 0 ≡ suc (marked (set marks t 1) (length b) 0)
    fewer_new = marked_fewer (length b) 0 marks t 1 l fits (λ e. omega arith) new

    -- where its parts are stuck, so is t: its least number of steps would do for them, and not for t
    pub stuck_term : Stuck b β (set marks t 1) (parts b β t) → Stuck b β marks (t ∷ [])
    unfolding all
    stuck_term h k e g = h r.steps (ends-parts b β r.steps t r.enough) (λ u j p q. go u j p q (stored marks t 1 u (omega arith)))
      where
        r : Least b β k t
        r = least b β k t (and_left (ends b β k t) true e)

        go : (u : ℕ) → u < length b → get_or (set marks t 1) u 0 ≡ 1 → T (ends b β r.steps u) → Stored marks t 1 u → ⊥
        go u j p q (here s o) = r.few (rw s at q)
        go u j p q (there s o) = g u j (sym o ∙ p) (ends_more b β r.steps k u (omega (arith, r.within)) q)

    -- where they are finished, t is the next in the list
    module _ (formed : Formed b β) {marks' list : List ℕ} {done : ℕ} (w : Finished b β (set marks t 1) (parts b β t) marks' list done) where
      in_progress : get_or marks' t 0 ≡ 1
      in_progress = still_met (get_or-set_same marks t 1 0 (omega arith)) (w.others t l)

      one_more : marked (set marks' t 2) (length b) 2 ≡ suc done
      one_more =
          marked_more (length b) 2 marks' t l w.marking.marks_fit (λ e. omega (arith, in_progress))
          ∙ ap suc (sym w.marking.as_many)

      pub place-lt : done < length b
      place-lt = omega (arith, one_more, marked_most (length b) 2 (set marks' t 2))

      last : (k : ℕ) → k ≡ done → get_or (set list done t) k 0 ≡ t
      last k e =
          ap (λ (i : ℕ). get_or (set list done t) i 0) e ∙ get_or-set_same list done t 0 (omega (arith, place-lt, w.marking.list_fit))

      old : (k : ℕ) → k < done → get_or (set list done t) k 0 ≡ get_or list k 0
      old k h = get_or-set_other list done k t 0 (λ e. omega arith)

      next : Marking b β (set marks' t 2) (set list done t) (done + 1)
      next =
          record {
            marks_fit = rw length-set w.marking.marks_fit;
            list_fit = rw length-set w.marking.list_fit;
            mark = λ u k. small u k (stored marks' t 2 u room);
            as_many = add-one done ∙ sym one_more;
            terms = λ k h. ⊎_elim (λ e. rw (last k e) l) (λ j. rw (old k j) (w.marking.terms k j)) (eq-or-lt_of_le (under k h));
            listed = λ u k e. listed u k e (stored marks' t 2 u room);
            parts_first = λ k j h i. ⊎_elim (λ e. here-first k j e i) (λ o. old-first k j o i) (eq-or-lt_of_le (under k h));
          }
        where
          room : t < length marks'
          room = omega (arith, w.marking.marks_fit)

          under : (k : ℕ) → k < done + 1 → k ≤ done
          under k h = omega arith

          small : (u : ℕ) → u < length b → Stored marks' t 2 u → get_or (set marks' t 2) u 0 ≤ 2
          small u k (here e p) = omega arith
          small u k (there e p) = omega (arith, w.marking.mark u k)

          listed : (u : ℕ) → u < length b → get_or (set marks' t 2) u 0 ≡ 2 → Stored marks' t 2 u → Before (set list done t) (done + 1) u
          listed u k e (here s p) = record { place = done; early = omega arith; is = last done refl ∙ sym s }
          listed u k e (there s p) = before_more (omega arith) (before_set done t (omega arith) (w.marking.listed u k (sym p ∙ e)))

          here-first : (k j : ℕ) → k ≡ done → j < length (parts b β (get_or (set list done t) k 0))
              → Before (set list done t) k (get_or (parts b β (get_or (set list done t) k 0)) j 0)
          here-first k j e i =
              rw (last k e)
              (before_set done t (omega arith)
              (before_more (omega arith)
              (w.marking.listed (get_or (parts b β t) j 0) (part_lt b β formed t l j (rw (last k e) at i)) (w.finished j (rw (last k e) at i)))))

          old-first : (k j : ℕ) → k < done → j < length (parts b β (get_or (set list done t) k 0))
              → Before (set list done t) k (get_or (parts b β (get_or (set list done t) k 0)) j 0)
          old-first k j o i = rw (old k o) (before_set done t (omega arith) (w.marking.parts_first k j o (rw (old k o) at i)))

      pub walked_term : Finished b β marks (t ∷ []) (set marks' t 2) (set list done t) (done + 1)
      walked_term =
          record {
            marking = next;
            finished = (walked_finished t next (get_or-set_same marks' t 2 0 room)).finished;
            others = λ u k. others u k (stored marks t 1 u (omega arith)) (stored marks' t 2 u room);
          }
        where
          room : t < length marks'
          room = omega (arith, w.marking.marks_fit)

          others : (u : ℕ) → u < length b → Stored marks t 1 u → Stored marks' t 2 u → Advanced (get_or marks u 0) (get_or (set marks' t 2) u 0)
          others u k p (here e q) = finishes (rw e new) q
          others u k (here e p) (there s q) = absurd (s e)
          others u k (there e p) (there s q) = rw (q, ← p) (w.others u k)

  -- ---- terms one after the other

  module _ (marks : List ℕ) (u : ℕ) (us : List ℕ) where
    pub stuck_first : Stuck b β marks (u ∷ []) → Stuck b β marks (u ∷ us)
    unfolding all
    stuck_first h k e g = h k (and_both (ends b β k u) true (and_left (ends b β k u) (all (ends b β k) us) e) tt) g

    module _ {marks' list' : List ℕ} {done' : ℕ} (w : Finished b β marks (u ∷ []) marks' list' done') where
      pub stuck_rest : Stuck b β marks' us → Stuck b β marks (u ∷ us)
      unfolding all
      stuck_rest h k e g = h k (and_right (ends b β k u) (all (ends b β k) us) e) (λ t l p. g t l (was_met p (w.others t l)))

      -- no more are to be met
      pub no_more-new : marked marks' (length b) 0 ≤ marked marks (length b) 0
      no_more-new = marked-le (length b) 0 marks' marks (λ t l p. was_new p (w.others t l))

      pub walked_more : {marks'' list'' : List ℕ} {done'' : ℕ} → u < length b → Finished b β marks' us marks'' list'' done''
          → Finished b β marks (u ∷ us) marks'' list'' done''
      walked_more {marks''} l v =
          record { marking = v.marking; finished = finished; others = λ t k. advanced_more (w.others t k) (v.others t k) }
        where
          finished : (j : ℕ) → j < length (u ∷ us) → get_or marks'' (get_or (u ∷ us) j 0) 0 ≡ 2
          finished zero k = still-finished (w.finished 0 (omega arith)) (v.others u l)
          finished (suc j) k = v.finished j (le_of_suc-le-suc k)
