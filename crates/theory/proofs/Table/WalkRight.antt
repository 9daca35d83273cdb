-- A right table is fit for a walk, and the walk's table is right again: as it is where same-as was kept, or once it is
-- settled. Assumes nothing.
use mathlib.Core.Path.{◌≡◌, sym}
use Prim.Native.Nat.{ℕ, ◌<◌}
use native.Mathlib.Omega.{arith}
use lib.ListN.{length}
use Rattle.model.specs.Term.{Book, Bindings}
use Rattle.model.specs.Table.{Table, entry, entry_of, settle}
use Rattle.theory.proofs.Soundness.Facts.{TableRight}
use Rattle.theory.proofs.Table.Place.{entry_of-same-length, settle_extends, length-settle, entry-settle}
use Rattle.theory.proofs.Table.WalkInvariant.{RightAt, Holding, Walking, right_pending, right_extends}
use Rattle.theory.proofs.Table.WalkEntries.{SameAs}

-- a right table is fit for a walk
pub table_holding : (b : Book) (β : Bindings) (es : Table) → TableRight b β es → Holding b β es
table_holding b β es t =
    record {
      left-term = t.left-term;
      right-term = t.right-term;
      pending = λ j h. right_pending b β es (entry es j).kind _ _ (t.kind-right j h);
      distinct-pairs = t.distinct-pairs;
    }

-- where same-as was kept the walk's table is right
pub walked_right : (b : Book) (β : Bindings) (es : Table) → Walking b β (length es) es → SameAs b β es → TableRight b β es
walked_right b β es w a =
    record {
      left-term = w.holding.left-term;
      right-term = w.holding.right-term;
      kind-right = λ j h. w.visited j h h;
      same_as = a.same_as;
      distinct-pairs = w.holding.distinct-pairs;
    }

-- settling the walk's table makes it right
module _ (b : Book) (β : Bindings) (es : Table) (w : Walking b β (length es) es) where
  -- kinds stay right
  settled-kind : (j : ℕ) → j < length es → RightAt b β (settle b β es) (entry (settle b β es) j)
  settled-kind j h =
      rw (entry-settle b β es j h)
      (right_extends b β es (settle b β es) (entry es j) (settle_extends b β es) (w.visited j h h))

  -- same-as is the lowest entry with the values
  settled-same_as : (j : ℕ) → j < length es
      → (entry (settle b β es) j).same_as ≡ entry_of b β (settle b β es) (entry (settle b β es) j).left (entry (settle b β es) j).right
  settled-same_as j h =
      rw (entry-settle b β es j h)
      (sym (entry_of-same-length b β es (settle b β es) _ _ (settle_extends b β es) (sym (length-settle b β es))))

  pub settled-right : TableRight b β (settle b β es)
  settled-right =
      let n = length-settle b β es in
      let x = settle_extends b β es in
      record {
        left-term = λ j h. rw (x.left j (omega arith)) (w.holding.left-term j (omega arith));
        right-term = λ j h. rw (x.right j (omega arith)) (w.holding.right-term j (omega arith));
        kind-right = λ j h. settled-kind j (omega arith);
        same_as = λ j h. settled-same_as j (omega arith);
        distinct-pairs = λ i j p h e g.
            w.holding.distinct-pairs i j p (omega arith)
            (rw (x.left i (omega arith), x.left j (omega arith)) at e)
            (rw (x.right i (omega arith), x.right j (omega arith)) at g);
      }
