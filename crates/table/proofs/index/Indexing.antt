-- Building the index of a table: after i entries their names are indexed. Assumes nothing.
use Rattle.std.proofs.Common.{◌≡◌, ap, ◌∙◌, List, [], ◌∷◌, ◌++◌, ℕ, suc, ◌+◌, ◌*◌, ◌≤◌, ◌<◌, not-suc-le-zero, add-one, arith, length, take, drop, take_all, take-suc, length-take-le}
use Rattle.model.specs.Term.{Book, Bindings, name}
use Rattle.model.specs.Table.{Table, hole_at, entry}
use Rattle.model.specs.Area.{entry_row_words}
use Rattle.layout.specs.limits.Rows.{at}
use Rattle.pairs.specs.Index.{Room, Indexed, Pushed}
use Rattle.pairs.proofs.Rooms.{room_kept, room_fewer}
use Rattle.layout.specs.entry.Row.{row_of}
use Rattle.layout.specs.declared.entry.Entry.{Entry as Row}
use Rattle.soundness.specs.kinds.Sides.{SideNames}
use Rattle.table.specs.place.Stands.{Whatever}
use Rattle.table.proofs.place.Held.{held-row}
use Rattle.table.proofs.place.Names.{names_more}
use Rattle.table.proofs.visit.Sizes.{SameSizes, sizes_trans}
use Rattle.table.proofs.visit.Turning.{row-left, row-right}
use Rattle.table.specs.index.Indexing.{ToIndex, IsIndexed}

-- The first i entries are indexed.
pub record IndexedTo (lefts rights cells : List ℕ) (i : ℕ) (b : Book) (β : Bindings) (es : Table) : Type 0 where
  pub indexed : Indexed lefts rights cells i
  pub names : SideNames b β (take i es) lefts rights

-- What holds at the loop's head.
pub record Indexing (names entries lefts₀ rights₀ cells₀ : List ℕ) (m : ℕ) (lefts rights cells : List ℕ) (i : ℕ) : Type 0 where
  pub sizes : SameSizes entries lefts₀ rights₀ cells₀ entries lefts rights cells
  pub within : i ≤ m
  pub so_far : Whatever (ToIndex names entries lefts₀ rights₀ cells₀ m) (IndexedTo lefts rights cells i)

-- no pairs yet
pub indexing_none : {names entries lefts₀ rights₀ cells₀ : List ℕ} {m : ℕ} {lefts rights cells : List ℕ}
    → Indexed lefts rights cells 0 → SameSizes entries lefts₀ rights₀ cells₀ entries lefts rights cells
    → Indexing names entries lefts₀ rights₀ cells₀ m lefts rights cells 0
indexing_none none sizes =
    record {
      sizes = sizes;
      within = omega arith;
      so_far = λ b β es q.
          record {
            indexed = none;
            names =
                record {
                  left-term = λ j l. absurd (not-suc-le-zero l);
                  right-term = λ j l. absurd (not-suc-le-zero l);
                  left-name = λ j l. absurd (not-suc-le-zero l);
                  right-name = λ j l. absurd (not-suc-le-zero l);
                };
          };
    }

-- the sides of an entry that is read are terms
module _ {names entries lefts rights cells : List ℕ} {m : ℕ} {b : Book} {β : Bindings} {es : Table}
    (q : ToIndex names entries lefts rights cells m b β es) {i : ℕ} (t : i < m) (e : Row)
    (read : row_of e ≡ take entry_row_words (drop (entry_row_words * i) entries)) where
  here : i < length es
  here = omega (arith, q.count)

  left-same : e.left ≡ (entry es i).left
  left-same = row-left e (entry es i) (read ∙ held-row q.held i here) (q.held.wide i here)

  right-same : e.right ≡ (entry es i).right
  right-same = row-right e (entry es i) (read ∙ held-row q.held i here) (q.held.wide i here)

  pub left_lt : e.left < length b
  left_lt = rw left-same (q.left-term i here)

  pub right_lt : e.right < length b
  right_lt = rw right-same (q.right-term i here)

module _ {names entries lefts₀ rights₀ cells₀ : List ℕ} {m : ℕ} {lefts rights cells : List ℕ} {i : ℕ}
    (h : Indexing names entries lefts₀ rights₀ cells₀ m lefts rights cells i) where
  -- there is room for the next pair
  pub next-room : {b : Book} {β : Bindings} {es : Table} → ToIndex names entries lefts₀ rights₀ cells₀ m b β es
      → i < m → Indexed lefts rights cells i × Room lefts rights cells (suc i)
  next-room q t =
      let sizes = h.sizes in ((h.so_far _ _ _ q).indexed, room_kept (room_fewer t q.room) sizes.left_size sizes.right_size sizes.cells_size)

  -- one entry more
  module _ (t : i < m) (e : Row) (read : row_of e ≡ take entry_row_words (drop (entry_row_words * i) entries))
      {lefts' rights' cells' : List ℕ} {k : ℕ} (pushed : Pushed lefts rights lefts' rights' cells' i (at names e.left) (at names e.right) k) where
    indexed-more : Whatever (ToIndex names entries lefts₀ rights₀ cells₀ m) (IndexedTo lefts' rights' cells' (i + 1))
    indexed-more b β es q =
        let l : i < length es = here q t e read in
        let long : length (take i es) ≡ i = length-take-le i es (omega arith) in
        let more : take (i + 1) es ≡ take i es ++ entry es i ∷ [] = rw add-one (take-suc es i (hole_at 0 0 0) l) in
        let left : at names e.left ≡ name b β (entry es i).left =
        q.known.is_name _ (left_lt q t e read) ∙ ap (name b β) (left-same q t e read) in
        let right : at names e.right ≡ name b β (entry es i).right =
        q.known.is_name _ (right_lt q t e read) ∙ ap (name b β) (right-same q t e read) in
        let room = (next-room q t).1 in
        let new = names_more (h.so_far b β es q).names (entry es i) (q.left-term i l) (q.right-term i l) (rw long room.lefts_fit) (rw long room.rights_fit) in
        record {
          indexed = rw add-one pushed.indexed;
          names = rw (more, pushed.left, pushed.right, left, right) (rw long at new);
        }

    pub indexing_more : SameSizes entries lefts rights cells entries lefts' rights' cells'
        → Indexing names entries lefts₀ rights₀ cells₀ m lefts' rights' cells' (i + 1)
    indexing_more sizes = record { sizes = sizes_trans h.sizes sizes; within = omega arith; so_far = indexed-more }

  -- all entries are indexed
  pub indexing_all : m ≤ i → Whatever (ToIndex names entries lefts₀ rights₀ cells₀ m) (IsIndexed lefts rights cells m)
  indexing_all l b β es q =
      let done = h.so_far b β es q in
      let end : i ≡ m = omega (arith, h.within) in
      record { indexed = rw end at done.indexed; names = rw (take_all i es (omega (arith, q.count))) at done.names }
