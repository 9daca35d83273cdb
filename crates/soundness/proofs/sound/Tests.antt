-- The tests of the header and of the rows say exactly the facts of Facts.antt. Assumes nothing.
use Rattle.std.proofs.Common.{◌≡◌, List, Bool, ◌↔◌, ℕ, ◌+◌, ◌*◌, length, take, drop, T, ltb, leb, leb→le, le→leb}
use Rattle.model.specs.Limits.{Limits, max_arity}
use Rattle.model.specs.Lists.{all, from, eq_numbers}
use Rattle.model.specs.Area.{term_words, entry_row_words, area_length, node_words, entry_words, binding_ok, word}
use Rattle.theory.proofs.Lists.Laws.{eq_numbers-eq, eq_numbers_refl}
use Rattle.theory.proofs.Lists.Conjunctions.{and₂, and₃, and₄, and₆}
use Rattle.theory.proofs.Soundness.Terms.{all-below, below_all}
use Rattle.layout.specs.limits.Rows.{Loaded, at, node_of, book_of, binding_of, loaded_entry}
use Rattle.soundness.specs.rows.RowTests.{zero_from, node_in_range, term_row_ok, term_rows_ok, bindings_ok, lines_ok, entry_row_ok, entry_rows_ok}
use Rattle.soundness.specs.sound.Sound.{header_ok, rows_ok}
use Rattle.soundness.proofs.sound.Facts.{HeaderFacts, TermRow, EntryRow, RowFacts}

-- equal lists pass the test of equality
eq-numbers : (xs ys : List ℕ) → xs ≡ ys → T (eq_numbers xs ys)
eq-numbers xs ys e = rw e (eq_numbers_refl ys)

-- the header
pub header_facts : (lim : Limits) (area : List ℕ) → T (header_ok lim area) ↔ HeaderFacts lim area
unfolding header_ok
header_facts lim area =
    let six : _ =
    and₆ (leb 1 (word area 0)) (leb (word area 0) lim.max_capacity) (leb (word area 1) lim.max_terms) (leb (word area 2) (word area 0))
    (leb (word area 3) lim.max_lines) (leb (area_length lim (word area 0)) (length area)) in (
      λ h. let g : _ = six.0 h in
          record {
            some_capacity = leb→le _ _ g.0;
            capacity-fits = leb→le _ _ g.1;
            few-terms = leb→le _ _ g.2;
            few-entries = leb→le _ _ g.3;
            few-lines = leb→le _ _ g.4;
            long = leb→le _ _ g.5;
          },
      λ f. six.1 (
        le→leb _ _ f.some_capacity,
        le→leb _ _ f.capacity-fits,
        le→leb _ _ f.few-terms,
        le→leb _ _ f.few-entries,
        le→leb _ _ f.few-lines,
        le→leb _ _ f.long,
      ),
    )

-- a term's row and an entry's
term-row : (rows : List ℕ) (t : ℕ) → T (term_row_ok rows t) ↔ TermRow rows t
unfolding term_row_ok
term-row rows t =
    let three : _ =
    and₃ (leb (at rows (term_words * t + 1)) max_arity) (eq_numbers (take term_words (drop (term_words * t) rows)) (node_words (node_of rows t)))
    (node_in_range t (node_of rows t)) in (
      λ h. let g : _ = three.0 h in record { count = leb→le _ _ g.0; row = eq_numbers-eq _ _ g.1; in_range_lem = g.2 },
      λ f. three.1 (le→leb _ _ f.count, eq-numbers _ _ f.row, f.in_range_lem),
    )

pub entry_row : (entries : List ℕ) (n i : ℕ) → T (entry_row_ok entries n i) ↔ EntryRow entries n i
unfolding entry_row_ok
entry_row entries n i =
    let four : _ =
    and₄ (leb (at entries (entry_row_words * i + 4)) max_arity)
    (eq_numbers (take entry_row_words (drop (entry_row_words * i) entries)) (entry_words (loaded_entry entries i)))
    (ltb (at entries (entry_row_words * i)) n) (ltb (at entries (entry_row_words * i + 1)) n) in (
      λ h. let g : _ = four.0 h in record { count = leb→le _ _ g.0; row = eq_numbers-eq _ _ g.1; left = g.2; right = g.3 },
      λ f. four.1 (le→leb _ _ f.count, eq-numbers _ _ f.row, f.left, f.right),
    )

module _ (w : Loaded) where
  -- the test of a binding
  abbrev binding_test : ℕ → Bool
  binding_test t = binding_ok (book_of w.term_rows w.terms) (node_of w.term_rows t) (binding_of w.binding_words t)

  -- all rows
  pub row_facts : T (rows_ok w) ↔ RowFacts w
  unfolding rows_ok term_rows_ok bindings_ok lines_ok entry_rows_ok
  row_facts =
      let termTest : ℕ → Bool = term_row_ok w.term_rows in
      let entryTest : ℕ → Bool = entry_row_ok w.entry_rows w.terms in
      let four : _ =
      and₄ (term_rows_ok w.term_rows w.terms) (bindings_ok w.term_rows w.binding_words w.terms) (lines_ok w.line_words w.lines w.entries)
      (entry_rows_ok w.entry_rows w.entries w.terms) in
      let terms : _ = and₂ (all termTest (from 0 w.terms)) (zero_from w.term_rows (term_words * w.terms)) in
      let bindings : _ = and₂ (all binding_test (from 0 w.terms)) (zero_from w.binding_words w.terms) in
      let lines : _ = and₂ (all (λ i. ltb i w.entries) (take w.lines w.line_words)) (zero_from w.line_words w.lines) in
      let entries : _ = and₂ (all entryTest (from 0 w.entries)) (zero_from w.entry_rows (entry_row_words * w.entries)) in (
        λ h. let g : _ = four.0 h in
            let t : _ = terms.0 g.0 in
            let b : _ = bindings.0 g.1 in
            let l : _ = lines.0 g.2 in
            let e : _ = entries.0 g.3 in
            record {
              term-row = λ i k. (term-row w.term_rows i).0 (all-below termTest w.terms t.0 i k);
              no_more-terms = t.1;
              binding = all-below binding_test w.terms b.0;
              no_more-bindings = b.1;
              line = l.0;
              no_more-lines = l.1;
              entry_row = λ i k. (entry_row w.entry_rows w.terms i).0 (all-below entryTest w.entries e.0 i k);
              no_more-entries = e.1;
            },
        λ f. four.1 (
          terms.1 (below_all termTest w.terms (λ i k. (term-row w.term_rows i).1 (f.term-row i k)), f.no_more-terms),
          bindings.1 (below_all binding_test w.terms f.binding, f.no_more-bindings),
          lines.1 (f.line, f.no_more-lines),
          entries.1 (below_all entryTest w.entries (λ i k. (entry_row w.entry_rows w.terms i).1 (f.entry_row i k)), f.no_more-entries),
        ),
      )
