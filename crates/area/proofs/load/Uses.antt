-- What is known of an area that was read: its header, its terms' rows and the rows of its entries. Assumes nothing.
use Rattle.std.proofs.Common.{◌≡◌, sym, ap, ◌∙◌, List, ℕ, ◌+◌, ◌*◌, ◌-◌, ◌≤◌, ◌<◌, zero-add, arith, length, take, drop, length-take, take-take, T}
use Rattle.model.specs.Limits.{Limits}
use Rattle.model.specs.Table.{entry}
use Rattle.model.specs.Step.{State}
use Rattle.model.specs.Lists.{concat_map, padded}
use Rattle.model.specs.Area.{word_size, header_words, term_words, entry_row_words, area_length, node_words, entry_words, word, sound, state_of}
use Rattle.theory.proofs.Area.Bytes.{sound_carries}
use Rattle.theory.proofs.Soundness.Facts.{SoundFacts}
use Rattle.theory.proofs.Soundness.Test.{sound_facts}
use Rattle.layout.specs.limits.Rows.{Loaded, Sized, loaded_state}
use Rattle.layout.proofs.limits.Rows.{length-book_of, length-table_of, get_or-table_of}
use Rattle.soundness.proofs.rows.Parts.{run_behind}
use Rattle.soundness.proofs.sound.Facts.{RowFacts}
use Rattle.soundness.proofs.sound.Tests.{row_facts}
use Rattle.soundness.proofs.sound.Parts.{Holds}
use Rattle.soundness.proofs.sound.Chain.{rows_hold}
use Rattle.layout.specs.header.Held.{held}
use Rattle.area.specs.load.Loading.{header_of}
use Rattle.area.specs.load.Ready.{Ready, ReadFrom}

-- a sound area has a header
pub sound_header : (lim : Limits) (area : List ℕ) → T (sound lim area) → word_size * header_words ≤ length area
unfolding area_length
sound_header lim area t = omega (arith, (sound_carries lim area t).1.fits)

-- a part of a list lies in the list
part_within : (n : ℕ) (xs : List ℕ) → length (take n xs) ≡ n → n ≤ length xs
part_within n xs e = omega (arith, length-take n xs)

-- a run that ends within the first m elements
run-within : (xs : List ℕ) (i n m : ℕ) → i + n ≤ m → take n (drop i (take m xs)) ≡ take n (drop i xs)
run-within xs i n m h =
    let e : drop i (take m xs) ≡ take (m - i) (drop i xs) = rw (zero-add, zero-add) at (run_behind xs 0 m i) in
    ap (take n) e ∙ take-take n (m - i) (drop i xs) (omega arith)

module _ {lim : Limits} {w : Loaded} {list roots names : List ℕ} (r : Ready lim w list roots names) where
  -- the facts of its state
  pub ready_facts : SoundFacts lim (loaded_state w)
  ready_facts = sound_facts lim (loaded_state w) r.sound

  -- its parts have their lengths
  pub ready-sized : Sized lim w
  ready-sized =
      record {
        terms-long = r.sizes.rows_size;
        bindings-long = r.sizes.bindings_size;
        lines_long = r.sizes.lines_size;
        entries-long = r.sizes.entries_size;
      }

  -- its words are those of its state
  pub ready-holds : Holds lim w (loaded_state w)
  unfolding loaded_state
  ready-holds =
      let f = ready_facts in
      let rows : RowFacts w = (row_facts w).0 r.rows in
      let terms : length (loaded_state w).book ≡ w.terms = length-book_of w.term_rows w.terms in
      let entries : length (loaded_state w).entries ≡ w.entries = length-table_of w.entry_rows w.entries in
      rows_hold lim w
      (record {
        few-terms = omega (arith, f.few-terms);
        few-entries = omega (arith, f.few-entries);
        few-lines = omega (arith, r.used.lines_fit, r.sizes.lines_size);
        term-counts = λ t l. (rows.term-row t l).count;
        entry-counts = λ i l. (rows.entry_row i l).count;
      })
      ready-sized
      rows

-- An area that was read.
module _ {lim : Limits} {area rows bindings lines entries list roots names : List ℕ}
    (r : ReadFrom lim area (held (header_of area) rows bindings lines entries) list roots names) where
  -- its state is sound
  pub read_facts : SoundFacts lim (state_of area lim)
  read_facts = rw (← r.is_state) (ready_facts r.ready)

  -- its rows are those of its book, which has as many terms as the header says
  pub read-rows : rows ≡ padded (term_words * lim.max_terms) (concat_map node_words (state_of area lim).book)
  read-rows = rw (← r.is_state) (ready-holds r.ready).term_words

  pub read-terms : word area 1 ≡ length (state_of area lim).book
  unfolding header_of
  read-terms = rw (← r.is_state) (ready-holds r.ready).terms-count

  -- it has as many entries as the header says, and each has its row
  pub read-entries : length (state_of area lim).entries ≡ word area 2
  unfolding header_of
  read-entries = rw (← r.is_state) (sym (ready-holds r.ready).entries-count)

  entries-long : length entries ≡ entry_row_words * word area 0
  unfolding header_of
  entries-long = r.ready.sizes.entries_size

  module _ (i : ℕ) (l : i < word area 2) where
    row_fits : entry_row_words * i + entry_row_words ≤ entry_row_words * word area 0
    unfolding state_of
    row_fits = omega (arith, read_facts.few-entries, read-entries)

    row_read : take entry_row_words (drop (entry_row_words * i) entries) ≡ entry_words (entry (state_of area lim).entries i)
    unfolding header_of loaded_state
    row_read =
        (((row_facts (held (header_of area) rows bindings lines entries)).0 r.ready.rows).entry_row i l).row ∙
        ap entry_words (sym (get_or-table_of entries (word area 2) i l) ∙ ap (λ (s : State). entry s.entries i) r.is_state)

-- The rows of its capacity at the front of a slice.
module _ {lim : Limits} {area rows bindings lines list roots names : List ℕ} (entries : List ℕ)
    (r : ReadFrom lim area (held (header_of area) rows bindings lines (take (entry_row_words * word area 0) entries)) list roots names)
    (i : ℕ) (l : i < word area 2) where
  pub entry-within : entry_row_words * i + entry_row_words ≤ length entries
  entry-within = omega (arith, row_fits r i l, part_within (entry_row_words * word area 0) entries (entries-long r))

  pub entry_row : take entry_row_words (drop (entry_row_words * i) entries) ≡ entry_words (entry (state_of area lim).entries i)
  entry_row = sym (run-within entries (entry_row_words * i) entry_row_words (entry_row_words * word area 0) (row_fits r i l)) ∙ row_read r i l
