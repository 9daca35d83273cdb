-- What the tests of a loaded state give to each other: rows in order hold terms that obey the rules, and with the terms' values
-- known the table can be tested. Assumes nothing.
use Rattle.std.proofs.Common.{◌≡◌, List, Bool, true, false, ◌&&◌, ℕ, T}
use Rattle.model.specs.Lists.{all}
use Rattle.model.specs.Term.{acyclic}
use Rattle.model.specs.Area.{distinct}
use Rattle.theory.proofs.Lists.Conjunctions.{and₄}
use Rattle.layout.specs.limits.Rows.{Loaded, book_of, bound_of, table_of, loaded_state, GoodTerms}
use Rattle.soundness.specs.rows.RowTests.{term_rows_ok, bindings_ok, lines_ok, entry_rows_ok}
use Rattle.soundness.specs.sound.Sound.{rows_ok, values_ok, table_ok, sound_loaded}
use Rattle.soundness.proofs.sound.Facts.{RowFacts}
use Rattle.soundness.proofs.sound.Tests.{row_facts}
use Rattle.soundness.proofs.sound.Chain.{rows-rules}
use Rattle.soundness.specs.kinds.Known.{Known}
use Rattle.soundness.proofs.kinds.Loaded.{named-loaded, known-loaded}
use Rattle.area.specs.load.Loading.{Used}
use Rattle.values.specs.evaluate.Valued.{Valued}
use Rattle.values.proofs.evaluate.Values.{front}

module _ (w : Loaded) (used : Used w) (rows_ok : T (rows_ok w)) where
  -- rows in order hold terms that obey the rules
  pub good-terms : GoodTerms w.term_rows w.binding_words w.terms
  good-terms =
      let f : RowFacts w = (row_facts w).0 rows_ok in
      record {
        rows_fit = used.terms_fit;
        words_fit = used.bindings_fit;
        few-arguments = λ t l. (f.term-row t l).count;
        rules = rows-rules w f;
      }

  -- the rows of the entries are in order
  entry-rows : T (entry_rows_ok w.entry_rows w.entries w.terms)
  unfolding rows_ok
  entry-rows =
      ((and₄ (term_rows_ok w.term_rows w.terms) (bindings_ok w.term_rows w.binding_words w.terms) (lines_ok w.line_words w.lines w.entries)
      (entry_rows_ok w.entry_rows w.entries w.terms)).0 rows_ok).3

-- with the values of the terms, what is asked to test the table
pub table-known : (w : Loaded) → Used w → T (rows_ok w) → {list roots names : List ℕ} → Valued w.term_rows w.binding_words list roots names w.terms
    → Known (book_of w.term_rows w.terms) (bound_of w.binding_words w.terms) w.term_rows roots names w.entry_rows w.entries
table-known w used rows_ok v =
    known-loaded w.term_rows w.binding_words w.terms _ (good-terms w used rows_ok) v.listed.no_cycle
    (named-loaded w.term_rows w.binding_words w.terms _ (front w.terms _ _ v.is-names) used.entries_fit (entry-rows w used rows_ok))
    (front w.terms _ _ v.is-roots)

-- The whole test, by the tests that were made.
module _ (w : Loaded) where
  pub rows-refused : rows_ok w ≡ false → false ≡ sound_loaded w
  unfolding sound_loaded
  rows-refused e = rw e

  module _ (rows_ok : rows_ok w ≡ true) where
    pub cycle_refused : acyclic (book_of w.term_rows w.terms) (bound_of w.binding_words w.terms) ≡ false → false ≡ sound_loaded w
    unfolding sound_loaded loaded_state
    cycle_refused e = rw (rows_ok, e)

    pub table_decides : acyclic (book_of w.term_rows w.terms) (bound_of w.binding_words w.terms) ≡ true → {r : Bool}
        → let es = table_of w.entry_rows w.entries in
        r ≡ (all (values_ok (book_of w.term_rows w.terms) (bound_of w.binding_words w.terms) es) es && distinct es) → r ≡ sound_loaded w
    unfolding sound_loaded loaded_state table_ok
    table_decides e h = rw (rows_ok, e) h
