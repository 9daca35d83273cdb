-- The walks of the terms in rising number: what holds between them, that a refusal means a value that contains itself, and
-- that with all terms walked there is none and the list is in order. Assumes nothing.
use Rattle.std.proofs.Common.{◌≡◌, sym, ◌∙◌, List, [], ◌∷◌, ◌++◌, true, false, ⊎_elim, ℕ, zero, suc, ◌+◌, ◌≤◌, ◌<◌, not-suc-le-zero, eq-or-lt_of_le, arith, length, get_or, take, drop, replicate, length-append, length-drop, length-take-le, get_or-take, T}
use Rattle.std.proofs.Math.ListN.{length-replicate, get_or-replicate, get_or-append}
use Rattle.model.specs.Lists.{all}
use Rattle.model.specs.Term.{Book, Bindings, ends, acyclic}
use Rattle.theory.proofs.Lists.Laws.{T_true, not-T_false, and_both, all_intro}
use Rattle.theory.proofs.Soundness.Facts.{Acyclic}
use Rattle.theory.proofs.Soundness.Terms.{acyclic_facts, facts_acyclic}
use Rattle.theory.proofs.Values.Equations.{ends_more}
use Rattle.values.specs.order.Order.{parts, Before, Ordered}
use Rattle.values.specs.order.Marking.{Marking, Finished, Stuck}
use Rattle.values.proofs.order.Tally.{marked_all, marked-none}
use Rattle.values.proofs.order.Parts.{Good, parts-end}
use Rattle.values.proofs.order.Walks.{was_met, still-finished}

-- no term is in progress, and those below t are finished
pub record Upto (b : Book) (β : Bindings) (marks list : List ℕ) (done t : ℕ) : Type 0 where
  pub marking : Marking b β marks list done
  pub most : t ≤ length b
  pub quiet : (u : ℕ) → u < length b → get_or marks u 0 ≡ 1 → ⊥
  pub finished : (u : ℕ) → u < t → get_or marks u 0 ≡ 2

-- what stands before a place of a list stands there in the list cut behind it
before_take : {list : List ℕ} {k u : ℕ} (n : ℕ) → k ≤ n → Before list k u → Before (take n list) k u
before_take {list} n h p =
    record { place = p.place; early = p.early; is = get_or-take n list p.place 0 (omega (arith, p.early)) ∙ p.is }

-- each of the first n marks is 0 once they are cleared
cleared : (n : ℕ) (xs : List ℕ) (u : ℕ) → u < n → get_or (replicate n 0 ++ xs) u 0 ≡ 0
cleared n xs u l = get_or-append (replicate n 0) xs 0 u (rw length-replicate l) ∙ get_or-replicate n u 0 0 l

module _ {b : Book} {β : Bindings} {n : ℕ} (good : Good b β n) where
  -- then no term is walked
  pub upto_none : (marks list : List ℕ) → n ≤ length marks → n ≤ length list → Upto b β (replicate n 0 ++ drop n marks) list 0 0
  upto_none marks list fits room =
      record {
        marking =
            record {
              marks_fit = rw (length-append, length-replicate, length-drop) (omega (arith, good.size));
              list_fit = omega (arith, good.size);
              mark = λ u l. omega (arith, clear u l);
              as_many = sym (marked-none (length b) 2 (replicate n 0 ++ drop n marks) (λ u l e. omega (arith, clear u l)));
              terms = λ k l. absurd (not-suc-le-zero l);
              listed = λ u l e. absurd (omega (arith, clear u l));
              parts_first = λ k j l i. absurd (not-suc-le-zero l);
            };
        most = omega arith;
        quiet = λ u l e. omega (arith, clear u l);
        finished = λ u l. absurd (not-suc-le-zero l);
      }
    where
      clear : (u : ℕ) → u < length b → get_or (replicate n 0 ++ drop n marks) u 0 ≡ 0
      clear u l = cleared n (drop n marks) u (omega (arith, good.size))

  module _ {marks list : List ℕ} {done t : ℕ} (s : Upto b β marks list done t) where
    -- one term more
    pub upto_more : {marks' list' : List ℕ} {done' : ℕ} → t < n → Finished b β marks (t ∷ []) marks' list' done'
        → Upto b β marks' list' done' (t + 1)
    upto_more {marks'} l w =
        record {
          marking = w.marking;
          most = omega (arith, good.size);
          quiet = λ u k e. s.quiet u k (was_met e (w.others u k));
          finished = λ u k. ⊎_elim (λ e. rw e (w.finished 0 (omega arith)))
              (λ o. still-finished (s.finished u o) (w.others u (omega (arith, s.most)))) (eq-or-lt_of_le (under u k));
        }
      where
        under : (u : ℕ) → u < t + 1 → u ≤ t
        under u k = omega arith

    -- a refusal
    pub upto_refused : t < n → Stuck b β marks (t ∷ []) → false ≡ acyclic b β
    unfolding all
    upto_refused l h = sym (not-T_false (acyclic b β) stuck)
      where
        stuck : T (acyclic b β) → ⊥
        stuck e =
            h (length b) (and_both (ends b β (length b) t) true (acyclic_facts b β e t (omega (arith, good.size))) tt)
            (λ u k p q. s.quiet u k p)

    module _ (whole : n ≤ t) where
      all_finished : (u : ℕ) → u < length b → get_or marks u 0 ≡ 2
      all_finished u l = s.finished u (omega (arith, good.size))

      all_done : done ≡ length b
      all_done = s.marking.as_many ∙ marked_all (length b) 2 marks all_finished

      -- the term at place k ends within k + 1 steps, for k below m
      place-ends : (m k : ℕ) → k < m → k < done → T (ends b β (suc k) (get_or list k 0))
      place-ends zero k h l = absurd (not-suc-le-zero h)
      place-ends (suc m) k h l =
          parts-end b β k (get_or list k 0)
          (all_intro (ends b β k) (parts b β (get_or list k 0)) 0
          (λ j i. let p : Before list k (get_or (parts b β (get_or list k 0)) j 0) = s.marking.parts_first k j l i in
          rw (← p.is)
          (ends_more b β (suc p.place) k (get_or list p.place 0) p.early
          (place-ends m p.place (omega (arith, p.early)) (omega (arith, p.early))))))

      all_end : Acyclic b β
      all_end t l =
          let p : Before list done t = s.marking.listed t l (all_finished t l) in
          rw (← p.is)
          (ends_more b β (suc p.place) (length b) (get_or list p.place 0) (omega (arith, p.early, all_done))
          (place-ends done p.place p.early p.early))

      pub upto_acyclic : true ≡ acyclic b β
      upto_acyclic = sym (T_true (acyclic b β) (facts_acyclic b β all_end))

      pub upto_ordered : Ordered b β (take n list)
      upto_ordered =
          record {
            as_many = as_many ∙ sym good.size;
            terms = λ k l. rw (same k l) (s.marking.terms k (early k l));
            complete = λ u l. rw as_many (before_take n (omega arith) (rw (all_done, good.size) at (s.marking.listed u l (all_finished u l))));
            parts_first = λ k j l i. rw (same k l)
                (before_take n (omega (arith, as_many)) (s.marking.parts_first k j (early k l) (rw (same k l) at i)));
          }
        where
          as_many : length (take n list) ≡ n
          as_many = length-take-le n list (omega (arith, s.marking.list_fit, good.size))

          early : (k : ℕ) → k < length (take n list) → k < done
          early k l = omega (arith, as_many, all_done, good.size)

          same : (k : ℕ) → k < length (take n list) → get_or (take n list) k 0 ≡ get_or list k 0
          same k l = get_or-take n list k 0 (omega (arith, as_many))
