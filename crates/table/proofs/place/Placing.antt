-- Placing a pair in slices: it has an entry, or needs one beyond the capacity, or is appended. Assumes nothing.
use Rattle.std.proofs.Common.{◌≡◌, refl, ap, sym, ◌∙◌, List, [], ◌∷◌, ◌++◌, ℕ, ◌+◌, ◌*◌, ◌≤◌, ◌<◌, add-one, arith, length, replicate, length-append, length-set}
use Rattle.std.proofs.Math.Seq.{paste}
use Rattle.model.specs.Lists.{padded}
use Rattle.model.specs.Term.{Book, Bindings}
use Rattle.model.specs.Table.{Table, hole_at, entry_of, place}
use Rattle.model.specs.Area.{entry_row_words, entry_words, kind_words}
use Rattle.theory.proofs.Table.Place.{Placed, there, appended, place_cases, place_found}
use Rattle.layout.specs.limits.Rows.{at}
use Rattle.pairs.specs.Pairs.{place_of}
use Rattle.pairs.specs.Index.{Pushed}
use Rattle.pairs.proofs.Rooms.{room_kept}
use Rattle.layout.specs.entry.Row.{row_of}
use Rattle.layout.specs.declared.entry.Entry.{Entry}
use Rattle.soundness.specs.kinds.Sides.{SideNames}
use Rattle.soundness.proofs.kinds.Names.{entry_of-place}
use Rattle.refusal.specs.declared.Refusal.TheVariants.{Full}
use Rattle.table.specs.place.Stands.{HoldsTable, Stands, Reaches, IsFull}
use Rattle.table.specs.place.Placing.{ToPlace, Places}
use Rattle.table.proofs.place.Held.{held_more}
use Rattle.table.proofs.place.Names.{names_more}

-- The hole (l, r) as a struct.
abbrev pub hole_of : ℕ → ℕ → ℕ → Entry
hole_of m l r =
    record { left = l; right = r; kind = 0; symbol = 0; count = 0; arguments = replicate 8 0; same_as = m }

hole-row : (m l r : ℕ) → row_of (hole_of m l r) ≡ entry_words (hole_at m l r)
unfolding row_of entry_words kind_words padded
hole-row m l r = refl

-- the table of a capacity has no more entries than that
pub few-entries : {entries lefts rights cells : List ℕ} {capacity m : ℕ} {b : Book} {β : Bindings} {es : Table}
    → Stands entries lefts rights cells capacity m b β es → m ≤ capacity
few-entries s = omega (arith, s.held.fits, s.long, s.count)

-- so a table that stands in the slices is reached
pub stands-reaches : {entries lefts rights cells : List ℕ} {capacity m : ℕ} {b : Book} {β : Bindings} {es : Table}
    → Stands entries lefts rights cells capacity m b β es → Reaches entries lefts rights cells capacity m b β es
stands-reaches s = record { within = omega (arith, few-entries s, s.count); stands = s }

module _ {names entries lefts rights cells : List ℕ} {capacity m l r : ℕ} {b : Book} {β : Bindings} {es : Table}
    (q : ToPlace names entries lefts rights cells capacity m l r b β es) {f : ℕ}
    (e : f ≡ place_of lefts rights m (at names l) (at names r)) where
  -- the search finds the lowest entry
  found : f ≡ entry_of b β es l r
  found =
      let s = q.stands in
      e ∙ rw (q.known.is_name l q.left-term, q.known.is_name r q.right-term, s.count)
      (sym (entry_of-place b β es lefts rights s.names l r q.left-term q.right-term))

  -- the pair has an entry
  there-at : f < m → Placed b β es l r
      → Places entries lefts rights cells capacity l r (record { entry = f; count = m }) b β es
  there-at h (there o p) =
      record {
        reaches = rw p (stands-reaches q.stands);
        its_entry = rw p found;
      }
  there-at h (appended o p) = absurd (omega (arith, found, q.stands.count))

  pub place-there : f < m → Places entries lefts rights cells capacity l r (record { entry = f; count = m }) b β es
  place-there h = there-at h (place_cases b β es l r)

  module _ (h : m ≤ f) where
    -- it would need an entry beyond the capacity
    full_at : capacity ≤ m → Placed b β es l r → IsFull capacity Full (place b β es l r)
    full_at g (there o p) = absurd (omega (arith, found, q.stands.count))
    full_at g (appended o p) = record { full = refl; beyond = rw (p, length-append) (omega (arith, q.stands.count)) }

    pub place_full : capacity ≤ m → IsFull capacity Full (place b β es l r)
    place_full g = full_at g (place_cases b β es l r)

    -- it is appended
    module _ (g : m < capacity) {entries' lefts' rights' cells' : List ℕ} {k : ℕ}
        (put : entries' ≡ paste entries (entry_row_words * m) (row_of (hole_of m l r)) entry_row_words)
        (pushed : Pushed lefts rights lefts' rights' cells' m (at names l) (at names r) k)
        (size : length entries' ≡ length entries) (cells_size : length cells' ≡ length cells) where
      new-held : HoldsTable entries' (es ++ hole_at (length es) l r ∷ [])
      unfolding entry_words kind_words padded
      new-held =
          let s = q.stands in
          rw (put, hole-row, s.count) (held_more s.held (hole_at (length es) l r) refl (omega (arith, s.long, s.count)))

      new-stands : Stands entries' lefts' rights' cells' capacity (m + 1) b β (es ++ hole_at (length es) l r ∷ [])
      new-stands =
          let s = q.stands in
          let left : length lefts' ≡ length lefts = ap length pushed.left ∙ length-set lefts m _ in
          let right : length rights' ≡ length rights = ap length pushed.right ∙ length-set rights m _ in
          let new-names : SideNames b β (es ++ hole_at (length es) l r ∷ []) lefts' rights' =
          rw (pushed.left, pushed.right, q.known.is_name l q.left-term, q.known.is_name r q.right-term, s.count)
          (names_more s.names (hole_at (length es) l r) q.left-term q.right-term (omega (arith, s.room.lefts_fit, s.count)) (omega (arith, s.room.rights_fit, s.count))) in
          record {
            count = rw length-append (omega (arith, s.count));
            held = new-held;
            long = size ∙ s.long;
            room = room_kept s.room left right cells_size;
            indexed = rw add-one pushed.indexed;
            names = new-names;
          }

      hole-at : Placed b β es l r
          → Places entries' lefts' rights' cells' capacity l r (record { entry = m; count = m + 1 }) b β es
      hole-at (there o p) = absurd (omega (arith, found, q.stands.count))
      hole-at (appended o p) =
          record {
            reaches = rw p (stands-reaches new-stands);
            its_entry = q.stands.count ∙ sym ((place_found b β es l r (place_cases b β es l r)).0 ∙ o);
          }

      pub place-hole : Places entries' lefts' rights' cells' capacity l r (record { entry = m; count = m + 1 }) b β es
      place-hole = hole-at (place_cases b β es l r)
