-- From a loaded, sound state to what the functions of the pair table ask. Assumes nothing.
use Rattle.std.proofs.Common.{◌≡◌, List, [], ℕ, ◌*◌, arith, length, T}
use Rattle.model.specs.Limits.{Limits}
use Rattle.model.specs.Lists.{all, from}
use Rattle.model.specs.Term.{Bindings}
use Rattle.model.specs.Step.{State}
use Rattle.model.specs.Area.{entry_row_words}
use Rattle.theory.proofs.Area.Layout.{wide-entries, length-entries}
use Rattle.theory.proofs.Soundness.Facts.{SoundFacts}
use Rattle.layout.specs.limits.Rows.{Loaded, book_of, bound_of, loaded_state}
use Rattle.soundness.specs.rows.RowTests.{entry_rows_ok, zero_from}
use Rattle.soundness.proofs.sound.Parts.{Holds}
use Rattle.pairs.specs.Index.{Room}
use Rattle.soundness.proofs.kinds.Loaded.{named-loaded, known-loaded}
use Rattle.values.specs.evaluate.Valued.{Valued}
use Rattle.area.specs.load.Ready.{Ready}
use Rattle.values.proofs.evaluate.Values.{front}
use Rattle.pairs.proofs.Rooms.{room_fewer}
use Rattle.table.specs.place.Stands.{HoldsTable, KnownNames, KnownTerms}
use Rattle.table.specs.index.Indexing.{ToIndex}

-- no row of an entry is in order
no_rows : (n : ℕ) → T (entry_rows_ok [] 0 n)
unfolding entry_rows_ok zero_from all from
no_rows n = tt

-- terms whose values are computed are known
module _ {rows bindings list roots names : List ℕ} {n : ℕ} (v : Valued rows bindings list roots names n) where
  pub valued-names : KnownNames names (book_of rows n) (bound_of bindings n)
  valued-names = named-loaded rows bindings n _ (front n names _ v.is-names) (omega arith) (no_rows n)

  pub valued-known : KnownTerms rows roots names (book_of rows n) (bound_of bindings n)
  valued-known = known-loaded rows bindings n _ v.listed.good v.listed.no_cycle valued-names (front n roots _ v.is-roots)

-- so are those of a loaded state
pub ready-known : {lim : Limits} {w : Loaded} {list roots names : List ℕ} → Ready lim w list roots names
    → KnownTerms w.term_rows roots names (loaded_state w).book (loaded_state w).bound
unfolding loaded_state
ready-known r = valued-known r.valued

-- The words of a sound state.
module _ {lim : Limits} {w : Loaded} {s : State} (f : SoundFacts lim s) (h : Holds lim w s) where
  -- its rows hold its table
  pub held-table : HoldsTable w.entry_rows s.entries
  held-table =
      let long : length w.entry_rows ≡ entry_row_words * s.capacity = rw h.entry-words (length-entries lim s f) in
      record {
        words = rw long h.entry-words;
        fits = omega (arith, f.few-entries);
        wide = wide-entries lim s f;
      }

  -- with the names of its terms, under these bindings or others, its table can be indexed
  pub to_index : {names lefts rights cells : List ℕ} {β : Bindings} → KnownNames names s.book β → Room lefts rights cells w.capacity
      → ToIndex names w.entry_rows lefts rights cells w.entries s.book β s.entries
  to_index k room =
      record {
        known = k;
        count = h.entries-count;
        held = held-table;
        left-term = f.table.left-term;
        right-term = f.table.right-term;
        room = room_fewer (omega (arith, f.few-entries, h.entries-count, h.the_capacity)) room;
      }
