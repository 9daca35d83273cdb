-- A table under bindings that have changed: with the terms named anew it can be indexed, and then walked through. Assumes nothing.
use Rattle.std.proofs.Common.{sym, List, ℕ, ◌≤◌, arith}
use Rattle.layout.specs.limits.Rows.{book_of, bound_of, table_of}
use Rattle.layout.proofs.limits.Rows.{length-book_of, length-table_of}
use Rattle.layout.specs.declared.header.Header.{Header}
use Rattle.pairs.specs.Index.{Room}
use Rattle.pairs.proofs.Rooms.{room_kept}
use Rattle.values.specs.evaluate.Valued.{Valued}
use Rattle.table.specs.place.Stands.{Whatever}
use Rattle.table.proofs.visit.Sizes.{SameSizes}
use Rattle.table.specs.index.Indexing.{ToIndex, IsIndexed}
use Rattle.table.proofs.index.Standing.{indexed-stands}
use Rattle.table.specs.saturate.Walking.{ToWalk}
use Rattle.pairs.proofs.Rooms.{room_fewer}
use Rattle.step.proofs.answer.Tables.{valued-names, valued-known}
use Rattle.step.specs.rebuild.Rebuilding.{ToRebuild}

module _ {h : Header} {rows bindings list roots names entries lefts rights cells : List ℕ}
    (r : ToRebuild h rows bindings list roots names entries lefts rights cells) where
  -- the table fits its capacity
  few : h.entries ≤ h.capacity
  few = omega (arith, r.table.fits, r.long, length-table_of entries h.entries)

  -- The terms are named, in scratch that is as long as it was.
  module _ {list' roots' names' lefts' rights' cells' : List ℕ} (v : Valued rows bindings list' roots' names' h.terms)
      (kept : SameSizes entries lefts rights cells entries lefts' rights' cells') where
    room : Room lefts' rights' cells' h.capacity
    room = room_kept r.for_entries kept.left_size kept.right_size kept.cells_size

    pub to_index : ToIndex names' entries lefts' rights' cells' h.entries (book_of rows h.terms) (bound_of bindings h.terms) (table_of entries h.entries)
    to_index =
        record {
          known = valued-names v;
          count = sym (length-table_of entries h.entries);
          held = r.table;
          left-term = rw (length-table_of, length-book_of) r.left-term;
          right-term = rw (length-table_of, length-book_of) r.right-term;
          room = room_fewer few room;
        }

    pub to_walk : {lefts'' rights'' cells'' : List ℕ} → SameSizes entries lefts' rights' cells' entries lefts'' rights'' cells''
        → Whatever (ToIndex names' entries lefts' rights' cells' h.entries) (IsIndexed lefts'' rights'' cells'' h.entries)
        → ToWalk rows roots' names' entries lefts'' rights'' cells'' h.capacity h.entries
        (book_of rows h.terms) (bound_of bindings h.terms) (table_of entries h.entries)
    to_walk sizes indexed =
        record { known = valued-known v; stands = indexed-stands to_index (indexed _ _ _ to_index) r.long room sizes }
