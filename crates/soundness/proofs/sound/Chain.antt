-- The chain of tests on loaded words: what passes it is a sound state whose words they are, and the other way round.
-- Assumes nothing.
use Rattle.std.proofs.Common.{◌≡◌, refl, sym, ◌≤◌, le_trans, arith, length, length-take, length-take-le, T}
use Rattle.std.proofs.Math.ListN.{length-map}
use Rattle.model.specs.Limits.{Limits}
use Rattle.model.specs.Lists.{all}
use Rattle.model.specs.Term.{var, Book, acyclic}
use Rattle.model.specs.Table.{hole_at}
use Rattle.model.specs.Step.{State}
use Rattle.model.specs.Area.{term_words, entry_row_words, node_words, entry_words, distinct, terms_ok, sound_state}
use Rattle.theory.proofs.Soundness.Facts.{SoundFacts}
use Rattle.theory.proofs.Soundness.Test.{ranges, tests, sound_facts}
use Rattle.theory.proofs.Lists.Conjunctions.{and₂}
use Rattle.theory.proofs.Area.Layout.{wide_nodes, wide-entries}
use Rattle.layout.specs.limits.Rows.{Loaded, loaded_state, node_of, book_of, bound_of, loaded_entry, table_of, Sized}
use Rattle.layout.proofs.limits.Rows.{length-book_of, length-bound_of, length-table_of, few-arguments, binding_words}
use Rattle.soundness.specs.sound.Sound.{values_ok, table_ok}
use Rattle.soundness.proofs.sound.Facts.{RowFacts}
use Rattle.soundness.proofs.sound.Padded.{to_padded, from-padded, rows-padded, padded-rows}
use Rattle.soundness.proofs.sound.State.{Fits}
use Rattle.soundness.proofs.sound.StateTests.{node_tests_lem, terms_tests_lem, table_tests}
use Rattle.soundness.proofs.sound.Parts.{Holds}

-- rows in order hold terms that obey the rules of terms
pub rows-rules : (w : Loaded) → RowFacts w → T (terms_ok (book_of w.term_rows w.terms) (bound_of w.binding_words w.terms))
rows-rules w f =
    (terms_tests_lem w.term_rows w.binding_words w.terms).1 (λ t l. (
      (node_tests_lem t (node_of w.term_rows t)).1 ((f.term-row t l).in_range_lem, le_trans (few-arguments w.term_rows t) (f.term-row t l).count),
      f.binding t l,
    ))

module _ (lim : Limits) (w : Loaded) (fits : Fits lim w) where
  -- rows in order are the words of the state in them
  pub rows_hold : Sized lim w → RowFacts w → Holds lim w (loaded_state w)
  unfolding loaded_state book_of table_of
  rows_hold z f =
      record {
        the_capacity = refl;
        terms-count = sym (length-book_of w.term_rows w.terms);
        entries-count = sym (length-table_of w.entry_rows w.entries);
        lines-count = sym (length-take-le w.lines w.line_words (omega arith));
        term_words = rows-padded node_words (node_of w.term_rows) term_words w.term_rows w.terms _ z.terms-long (omega arith)
            (λ t l. (f.term-row t l).row) f.no_more-terms;
        binding_words = to_padded w.binding_words _ lim.max_terms w.terms z.bindings-long (omega arith)
            (sym (binding_words w.binding_words w.terms (omega arith))) f.no_more-bindings;
        line-words = to_padded w.line_words _ lim.max_lines w.lines z.lines_long (omega arith) refl f.no_more-lines;
        entry-words = rows-padded entry_words (loaded_entry w.entry_rows) entry_row_words w.entry_rows w.entries _ z.entries-long (omega arith)
            (λ i l. (f.entry_row i l).row) f.no_more-entries;
      }

  -- what passes the chain is sound
  pub chain_sound : 1 ≤ w.capacity → w.capacity ≤ lim.max_capacity → RowFacts w
      → T (acyclic (loaded_state w).book (loaded_state w).bound) → T (table_ok (loaded_state w)) → T (sound_state lim (loaded_state w))
  unfolding loaded_state table_ok
  chain_sound some few f no_cycle right =
      let s : State = loaded_state w in
      let b : Book = s.book in
      let terms : length b ≡ w.terms = length-book_of w.term_rows w.terms in
      let bound : length s.bound ≡ w.terms = length-bound_of w.binding_words w.terms in
      let entries : length s.entries ≡ w.entries = length-table_of w.entry_rows w.entries in
      let table : _ = (and₂ (all (values_ok b s.bound s.entries) s.entries) (distinct s.entries)).0 right in
      (tests lim s).1 (
        (ranges lim s).1 (some, few, omega arith, omega arith, omega arith, rw length-take (omega arith)),
        rows-rules w f,
        no_cycle,
        (table_tests b s.bound w.entry_rows w.entries).1
            (λ i l. rw terms ((f.entry_row i l).left, (f.entry_row i l).right), table.0),
        table.1,
        rw entries f.line,
      )

  -- the rows of a sound state are in order
  sound-rows : T (sound_state lim (loaded_state w)) → Holds lim w (loaded_state w) → RowFacts w
  unfolding loaded_state book_of table_of
  sound-rows h holds =
      let s : State = loaded_state w in
      let b : Book = s.book in
      let f : SoundFacts lim s = sound_facts lim s h in
      let g : _ = (tests lim s).0 h in
      let term : _ = (terms_tests_lem w.term_rows w.binding_words w.terms).0 g.1 in
      let side : _ = rw (length-book_of w.term_rows w.terms) at ((table_tests b s.bound w.entry_rows w.entries).0 g.3).0 in
      let terms : _ = padded-rows node_words (node_of w.term_rows) term_words w.term_rows w.terms _ var (wide_nodes lim s f) holds.term_words in
      let entries : _ =
      padded-rows entry_words (loaded_entry w.entry_rows) entry_row_words w.entry_rows w.entries _ (hole_at 0 0 0) (wide-entries lim s f) holds.entry-words in
      record {
        term-row = λ t l.
            record { count = fits.term-counts t l; row = terms.0 t l; in_range_lem = ((node_tests_lem t (node_of w.term_rows t)).0 (term t l).0).0 };
        no_more-terms = terms.1;
        binding = λ t l. (term t l).1;
        no_more-bindings = from-padded _ _ _ _ (rw length-map (length-bound_of w.binding_words w.terms)) holds.binding_words;
        line = rw (length-table_of w.entry_rows w.entries) at g.5;
        no_more-lines = from-padded _ _ _ _ (sym holds.lines-count) holds.line-words;
        entry_row = λ i l. record { count = fits.entry-counts i l; row = entries.0 i l; left = (side i l).0; right = (side i l).1 };
        no_more-entries = entries.1;
      }

  -- the words of a sound state pass the chain
  pub sound_chain : T (sound_state lim (loaded_state w)) → Holds lim w (loaded_state w)
      → RowFacts w × T (acyclic (loaded_state w).book (loaded_state w).bound) × T (table_ok (loaded_state w))
  unfolding loaded_state table_ok
  sound_chain h holds =
      let s : State = loaded_state w in
      let g : _ = (tests lim s).0 h in (
        sound-rows h holds,
        g.2,
        (and₂ (all (values_ok s.book s.bound s.entries) s.entries) (distinct s.entries)).1
            (((table_tests s.book s.bound w.entry_rows w.entries).0 g.3).1, g.4),
      )
