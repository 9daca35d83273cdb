-- A table walked through and settled: the answer. Assumes nothing.
use Rattle.std.proofs.Common.{List, [], ◌∷◌, not, ◌&&◌, ℕ, suc, ◌-◌, ◌≤◌, zero-le, arith, le-leb, length, Ok, Err}
use borrow.Author.Tests.{lt-leb}
use Rattle.model.specs.Term.{Book, Bindings}
use Rattle.model.specs.Table.{Table, is_hole, walk, settle}
use Rattle.model.specs.Step.{turned}
use Rattle.theory.proofs.Table.Place.{walk_extends}
use Rattle.layout.specs.declared.header.Header.{Header}
use Rattle.refusal.specs.declared.Refusal.{Refusal}
use Rattle.table.specs.place.Stands.{HoldsTable, IsFull, GivenTable, Whatever}
use Rattle.table.proofs.place.Placing.{few-entries}
use Rattle.table.specs.same_as.Settling.{ToSettle}
use Rattle.table.specs.saturate.Walking.{ToWalk, Walks}
use Rattle.table.specs.declared.saturate.Walked.{Walked}
use Rattle.table.proofs.saturate.Turned.{at_most_one}
use Rattle.step.specs.declared.answer.Accepted.TheVariants.{Bound}
use Rattle.step.specs.settle.Settled.{walked_answer, IsSettled}

-- no more entries turn than there were
turned-few : (old new : Table) → turned old new ≤ length old
unfolding turned
turned-few [] new = zero-le
turned-few (e ∷ old) [] = zero-le
turned-few (e ∷ old) (e' ∷ new) = omega (arith, turned-few old new, at_most_one (is_hole e.kind && not (is_hole e'.kind)))

-- How the numbers of a walk that is not full lie to each other.
pub record Ranges (h : Header) (w : Walked) : Type 0 where
  pub turned-old : w.turned ≤ h.entries
  pub longer : h.entries ≤ w.count
  pub within : w.count ≤ h.capacity

module _ {rows roots names entries lefts rights cells : List ℕ} (h : Header) where
  -- the walk needs entries beyond the capacity
  pub walked_full : {e : Refusal}
      → Whatever (ToWalk rows roots names entries lefts rights cells h.capacity h.entries) (λ b β es. IsFull h.capacity e (walk b β (suc h.capacity) 0 es))
      → {entries'' : List ℕ} → Whatever (ToWalk rows roots names entries lefts rights cells h.capacity h.entries) (IsSettled h entries'' (Err e))
  unfolding walked_answer
  walked_full over b β es q =
      let is = over b β es q in
      record { answer = rw (is.full, lt-leb _ _ is.beyond); table = λ l. absurd (omega (arith, is.beyond)) }

  -- it has ended
  module _ {entries' lefts' rights' cells' : List ℕ} {w : Walked}
      (walked : Whatever (ToWalk rows roots names entries lefts rights cells h.capacity h.entries)
      (Walks entries' lefts' rights' cells' h.capacity w)) where
    -- what setting same-as asks
    to_settle : (b : Book) (β : Bindings) (es : Table) → ToWalk rows roots names entries lefts rights cells h.capacity h.entries b β es
        → ToSettle entries' lefts' rights' cells' w.count b β (walk b β (suc h.capacity) 0 es)
    to_settle b β es q =
        let stands = (walked b β es q).reaches.stands in
        record { count = stands.count; held = stands.held; is-indexed = record { indexed = stands.indexed; names = stands.names } }

    pub ranges : GivenTable (ToWalk rows roots names entries lefts rights cells h.capacity h.entries) → Ranges h w
    ranges g =
        let q = g.known in
        let done = walked _ _ _ q in
        let stands = done.reaches.stands in
        record {
          turned-old = omega (arith, done.old-turned, turned-few g.table (walk g.book g.bound (suc h.capacity) 0 g.table), q.stands.count);
          longer = omega (arith, q.stands.count, stands.count, (walk_extends g.book g.bound (suc h.capacity) 0 g.table).longer);
          within = few-entries stands;
        }

    -- and the answer once it is set
    pub walked_settled : {entries'' : List ℕ}
        → Whatever (ToSettle entries' lefts' rights' cells' w.count) (λ b β es. HoldsTable entries'' (settle b β es))
        → Whatever (ToWalk rows roots names entries lefts rights cells h.capacity h.entries)
        (IsSettled h entries''
        (Ok (record { accepted = Bound w.turned (w.count - h.entries); entries = w.count; lines = h.lines })))
    unfolding walked_answer
    walked_settled set b β es q =
        let done = walked b β es q in
        record {
          answer = rw (le-leb _ _ done.reaches.within, done.old-turned, done.reaches.stands.count, q.stands.count);
          table = λ l. set b β _ (to_settle b β es q);
        }
