-- An indexed table stands in its slices. Assumes nothing.
use Rattle.std.proofs.Common.{◌≡◌, List, ℕ, ◌*◌, length}
use Rattle.model.specs.Term.{Book, Bindings}
use Rattle.model.specs.Table.{Table}
use Rattle.model.specs.Area.{entry_row_words}
use Rattle.pairs.specs.Index.{Room}
use Rattle.pairs.proofs.Rooms.{room_kept}
use Rattle.table.specs.place.Stands.{Stands}
use Rattle.table.proofs.visit.Sizes.{SameSizes}
use Rattle.table.specs.index.Indexing.{ToIndex, IsIndexed}

-- an indexed table stands in its slices
pub indexed-stands : {names entries lefts rights cells lefts' rights' cells' : List ℕ} {capacity m : ℕ} {b : Book} {β : Bindings} {es : Table}
    → ToIndex names entries lefts rights cells m b β es → IsIndexed lefts' rights' cells' m b β es
    → length entries ≡ entry_row_words * capacity → Room lefts rights cells capacity
    → SameSizes entries lefts rights cells entries lefts' rights' cells'
    → Stands entries lefts' rights' cells' capacity m b β es
indexed-stands q done long room sizes =
    record {
      count = q.count;
      held = q.held;
      long = long;
      room = room_kept room sizes.left_size sizes.right_size sizes.cells_size;
      indexed = done.indexed;
      names = done.names;
    }
