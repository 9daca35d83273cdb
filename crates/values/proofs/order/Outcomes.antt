-- What the two walks answer, and what their code does on the way, from rows of words: at a term that is finished, in progress
-- or new, and at the i-th of the terms that a value is made of. Assumes nothing.
use Rattle.std.proofs.Common.{◌≡◌, List, [], ◌∷◌, ℕ, ◌+◌, ◌*◌, ◌≤◌, ◌<◌, add-one, arith, length, get_or, drop, set, drop_of_length-le, drop-cons}
use Rattle.layout.specs.limits.Rows.{book_of, bound_of}
use Rattle.values.specs.order.Marking.{marked, parts_in, Finished, Stuck, Walkable}
use Rattle.values.proofs.order.Parts.{Good, good_book, part_lt}
use Rattle.values.proofs.order.Walks.{walked_none, walked_finished, stuck_met, started, fewer_new, stuck_term, place-lt, walked_term, stuck_first, stuck_rest, no_more-new, walked_more}

-- a list from i on, by its element u at i
drop_part : (ps : List ℕ) (i u : ℕ) → i < length ps → u ≡ get_or ps i 0 → drop i ps ≡ u ∷ drop (i + 1) ps
drop_part ps i u l e = rw (add-one, e) (drop-cons ps i 0 l)

module _ {rows bindings : List ℕ} {n t : ℕ} {marks list : List ℕ} {done : ℕ} (r : Walkable rows bindings n t marks list done) where
  good : Good (book_of rows n) (bound_of bindings n) n
  good = good_book r.good

  pub is-term : t < length (book_of rows n)
  is-term = omega (arith, r.term, good.size)

  -- ---- a term

  pub term-room : t < length marks
  term-room = omega (arith, is-term, r.marking.marks_fit)

  pub outcome-finished : get_or marks t 0 ≡ 2 → Finished (book_of rows n) (bound_of bindings n) marks (t ∷ []) marks list done
  outcome-finished e = walked_finished (book_of rows n) (bound_of bindings n) t r.marking e

  pub outcome_met : get_or marks t 0 ≡ 1 → Stuck (book_of rows n) (bound_of bindings n) marks (t ∷ [])
  outcome_met e = stuck_met (book_of rows n) (bound_of bindings n) marks t is-term e

-- ---- a term that is new

pub record New (rows bindings : List ℕ) (n t : ℕ) (marks list : List ℕ) (done : ℕ) : Type 0 where
  pub ready : Walkable rows bindings n t marks list done
  pub not-finished : get_or marks t 0 ≡ 2 → ⊥
  pub not_met : get_or marks t 0 ≡ 1 → ⊥

module _ {rows bindings : List ℕ} {n t : ℕ} {marks list : List ℕ} {done : ℕ} (s : New rows bindings n t marks list done) where
  new : get_or marks t 0 ≡ 0
  new = omega (arith, s.ready.marking.mark t (is-term s.ready), s.not-finished, s.not_met)

  -- it starts: then its parts are walked, with fewer terms left
  pub start-ready : Walkable rows bindings n t (set marks t 1) list done
  start-ready =
      record {
        good = s.ready.good;
        term = s.ready.term;
        marking = started (book_of rows n) (bound_of bindings n) marks t (is-term s.ready) s.ready.marking.marks_fit new s.ready.marking;
      }

  pub fewer_left : 2 * marked (set marks t 1) n 0 + 1 < 2 * marked marks n 0
  fewer_left =
      rw (← (good s.ready).size)
      (omega (arith, fewer_new (book_of rows n) (bound_of bindings n) marks t (is-term s.ready) s.ready.marking.marks_fit new))

  pub outcome_stuck : Stuck (book_of rows n) (bound_of bindings n) (set marks t 1) (parts_in rows bindings n t)
      → Stuck (book_of rows n) (bound_of bindings n) marks (t ∷ [])
  outcome_stuck h = stuck_term (book_of rows n) (bound_of bindings n) marks t (is-term s.ready) s.ready.marking.marks_fit new h

  module _ {marks' list' : List ℕ} {done' : ℕ}
      (walked : Finished (book_of rows n) (bound_of bindings n) (set marks t 1) (parts_in rows bindings n t) marks' list' done') where
    -- it is finished: there is room for its mark and in the list
    pub next_place : (done' < n) × (done' < length list') × (t < length marks')
    next_place =
        let size : length (book_of rows n) ≡ n = (good s.ready).size in
        let place : done' < length (book_of rows n) =
        place-lt (book_of rows n) (bound_of bindings n) marks t (is-term s.ready) s.ready.marking.marks_fit new (good s.ready).formed walked in
        (omega arith, omega (arith, walked.marking.list_fit), omega (arith, walked.marking.marks_fit, is-term s.ready))

    pub outcome-term : Finished (book_of rows n) (bound_of bindings n) marks (t ∷ []) (set marks' t 2) (set list' done' t) (done' + 1)
    outcome-term =
        walked_term (book_of rows n) (bound_of bindings n) marks t (is-term s.ready) s.ready.marking.marks_fit new (good s.ready).formed walked

-- ---- parts one after the other

-- those before the i-th are walked: what the walk of the others answers is the answer for all
pub record Between (rows bindings : List ℕ) (n t : ℕ) (before marks list : List ℕ) (done i : ℕ) : Type 0 where
  pub ready : Walkable rows bindings n t marks list done
  pub no_more-left : marked marks n 0 ≤ marked before n 0
  pub whole : (marks' list' : List ℕ) (done' : ℕ)
      → Finished (book_of rows n) (bound_of bindings n) marks (drop i (parts_in rows bindings n t)) marks' list' done'
      → Finished (book_of rows n) (bound_of bindings n) before (parts_in rows bindings n t) marks' list' done'
  pub stuck : Stuck (book_of rows n) (bound_of bindings n) marks (drop i (parts_in rows bindings n t))
      → Stuck (book_of rows n) (bound_of bindings n) before (parts_in rows bindings n t)

-- the i-th is u
pub record Part (rows bindings : List ℕ) (n t : ℕ) (before marks list : List ℕ) (done i u : ℕ) : Type 0 where
  pub between : Between rows bindings n t before marks list done i
  pub inside : i < length (parts_in rows bindings n t)
  pub is : u ≡ get_or (parts_in rows bindings n t) i 0

module _ {rows bindings : List ℕ} {n t : ℕ} where
  module _ {before marks list : List ℕ} {done i : ℕ} where
    pub outcome-parts : Between rows bindings n t before marks list done i → length (parts_in rows bindings n t) ≤ i
        → Finished (book_of rows n) (bound_of bindings n) before (parts_in rows bindings n t) marks list done
    outcome-parts s h =
        let none : drop i (parts_in rows bindings n t) ≡ [] = drop_of_length-le (parts_in rows bindings n t) h in
        s.whole marks list done
        (walked_none (book_of rows n) (bound_of bindings n) (drop i (parts_in rows bindings n t)) s.ready.marking none)

    module _ {u : ℕ} (p : Part rows bindings n t before marks list done i u) where
      ready : Walkable rows bindings n t marks list done
      ready = p.between.ready

      part_term : u < length (book_of rows n)
      part_term = rw p.is (part_lt (book_of rows n) (bound_of bindings n) (good ready).formed t (is-term ready) i p.inside)

      pub part_ready : Walkable rows bindings n u marks list done
      part_ready = record { good = ready.good; term = omega (arith, part_term, (good ready).size); marking = ready.marking }

      from_part : drop i (parts_in rows bindings n t) ≡ u ∷ drop (i + 1) (parts_in rows bindings n t)
      from_part = drop_part (parts_in rows bindings n t) i u p.inside p.is

      pub outcome_part : Stuck (book_of rows n) (bound_of bindings n) marks (u ∷ [])
          → Stuck (book_of rows n) (bound_of bindings n) before (parts_in rows bindings n t)
      outcome_part h =
          p.between.stuck
          (rw from_part (stuck_first (book_of rows n) (bound_of bindings n) marks u (drop (i + 1) (parts_in rows bindings n t)) h))

      pub between_more : {marks' list' : List ℕ} {done' : ℕ} → Finished (book_of rows n) (bound_of bindings n) marks (u ∷ []) marks' list' done'
          → Between rows bindings n t before marks' list' done' (i + 1)
      between_more {marks'} walked =
          record {
            ready = record { good = ready.good; term = ready.term; marking = walked.marking };
            no_more-left = omega (arith, p.between.no_more-left, no_more);
            whole = λ marks'' list'' done'' others. p.between.whole marks'' list'' done''
                (rw from_part
                (walked_more (book_of rows n) (bound_of bindings n) marks u (drop (i + 1) (parts_in rows bindings n t)) walked part_term others));
            stuck = λ others. p.between.stuck
                (rw from_part (stuck_rest (book_of rows n) (bound_of bindings n) marks u (drop (i + 1) (parts_in rows bindings n t)) walked others));
          }
        where
          no_more : marked marks' n 0 ≤ marked marks n 0
          no_more =
              rw (← (good ready).size)
              (no_more-new (book_of rows n) (bound_of bindings n) marks u (drop (i + 1) (parts_in rows bindings n t)) walked)
