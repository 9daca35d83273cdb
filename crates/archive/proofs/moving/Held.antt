-- Rows that hold a book can be moved by a list that names every term once, and by its inverse. Assumes nothing.
use Rattle.std.proofs.Common.{◌≡◌, refl, ap, sym, ◌∙◌, List, ℕ, ◌*◌, ◌≤◌, ◌<◌, arith, length, get_or}
use Rattle.model.specs.Term.{var, arguments, Book, Bindings}
use Rattle.model.specs.Area.{term_words}
use Rattle.model.specs.Archive.{new_number, old_number, moved}
use Rattle.theory.specs.Archive.{EachOnce}
use Rattle.theory.proofs.Archive.Moved.{new-lt}
use Rattle.layout.specs.limits.Rows.{at, node_of}
use Rattle.book.proofs.encode.RowsBook.{rows-length, small_count}
use Rattle.book.proofs.encode.BookHeld.{BookHeld, held-book}
use Rattle.archive.specs.list.Listed.{Inverse}
use Rattle.archive.specs.moving.Moving.{RowMoves, RowsMove, moved_book}
use Rattle.archive.proofs.list.OfKind.{node_at_lem}
use Rattle.archive.proofs.moving.Same.{moved_same}

module _ {size : ℕ} {rows : List ℕ} {n : ℕ} {b : Book} {β : Bindings} (d : BookHeld size rows n b β) where
  -- the rows fill their words
  held-long : length rows ≡ size
  held-long = rw d.written (rows-length size b d.formed d.room)

  pub held_rows : term_words * n ≤ length rows
  held_rows = omega (arith, held-long, d.room, d.as_many)

  node : (t : ℕ) → t < n → node_of rows t ≡ get_or b t var
  node t l = sym (node_at_lem rows n t l) ∙ ap (λ x. get_or x t var) (held-book d)

  -- each row can be moved
  row : (target : List ℕ) → n ≤ length target → (t : ℕ) → t < n → RowMoves rows t target
  row target long t l =
      let k : t < length b = omega (arith, d.as_many) in
      record {
        within = omega (arith, held_rows);
        few = rw d.written (small_count size b d.formed d.room t k);
        terms = rw (node t l) (λ j m. (let low : get_or (arguments (get_or b t var)) j 0 < t = d.formed.lower t k j m in omega arith));
      }

  pub held_moves : (source target : List ℕ) → n ≤ length source → n ≤ length target → ((i : ℕ) → i < n → at source i < n)
      → RowsMove rows n source target
  held_moves source target s t h = record { row = row target t; as_many = s; sources = h }

  -- the book moved, by functions that the slices hold
  same : (source target : List ℕ) (f g : ℕ → ℕ) → ((i : ℕ) → i < n → at source i ≡ f i) → ((i : ℕ) → i < n → f i < n)
      → ((a : ℕ) → a < n → at target a ≡ g a) → moved_book rows n source target ≡ moved f g b
  unfolding moved_book
  same source target f g s low t =
      let e = d.as_many in
      ap (moved (at source) (at target)) (held-book d)
      ∙ moved_same (at source) f (at target) g b (λ i l. s i (omega arith)) (λ i l. omega (arith, low i (omega arith)))
      (λ u l i k. (let x : get_or (arguments (get_or b u var)) i 0 < u = d.formed.lower u l i k in omega arith)) (λ a l. t a (omega arith))

  module _ (listed places : List ℕ) (o : EachOnce n listed) (v : Inverse n listed places) where
    old : (i : ℕ) → i < n → at listed i ≡ old_number listed i
    unfolding old_number
    old i l = refl

    -- by the list, and by its inverse
    pub held_stored : moved_book rows n listed places ≡ moved (old_number listed) (new_number listed) b
    unfolding old_number
    held_stored = same listed places (old_number listed) (new_number listed) old o.terms v

    pub held_restored : moved_book rows n places listed ≡ moved (new_number listed) (old_number listed) b
    held_restored = same places listed (new_number listed) (old_number listed) v (new-lt n listed o) old

    pub places-low : (i : ℕ) → i < n → at places i < n
    places-low i l = rw (v i l) (new-lt n listed o i l)
