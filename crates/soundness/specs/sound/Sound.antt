-- Soundness of an area as a chain of tests on the words that it holds, in the order in which code does them; that this is
-- `model`'s soundness is a theorem (document 01, "Areas"). Assumes nothing: these are definitions.
use Rattle.std.specs.Prelude.{◌≡◌, List, Bool, ◌&&◌, ℕ, ◌*◌, length, T, eqb, leb}
use Rattle.leb128.specs.Laws.{are_bytes}
use Rattle.model.specs.Limits.{Limits}
use Rattle.model.specs.Lists.{all}
use Rattle.model.specs.Term.{Book, Bindings, root, acyclic}
use Rattle.model.specs.Table.{Entry, Table, entry_of}
use Rattle.model.specs.Step.{State}
use Rattle.model.specs.Area.{header_words, term_words, entry_row_words, bindings_at, lines_at, entries_at, area_length, word, words_at, kind_ok, distinct, sound, state_of}
use Rattle.theory.specs.Modest.{Modest}
use Rattle.layout.specs.limits.Rows.{Loaded, loaded_state}
use Rattle.soundness.specs.rows.RowTests.{term_rows_ok, bindings_ok, lines_ok, entry_rows_ok}

-- The words of an area, in parts.
unfoldable pub loaded : Limits → List ℕ → Loaded
loaded lim area =
    record {
      capacity = word area 0;
      terms = word area 1;
      entries = word area 2;
      lines = word area 3;
      term_rows = words_at area header_words (term_words * lim.max_terms);
      binding_words = words_at area (bindings_at lim) lim.max_terms;
      line_words = words_at area (lines_at lim) lim.max_lines;
      entry_rows = words_at area (entries_at lim) (entry_row_words * word area 0);
    }

-- The header's numbers lie in their ranges, and the area has the length that its capacity needs.
unfoldable pub header_ok : Limits → List ℕ → Bool
header_ok lim area =
    leb 1 (word area 0) && leb (word area 0) lim.max_capacity && leb (word area 1) lim.max_terms &&
    leb (word area 2) (word area 0) && leb (word area 3) lim.max_lines && leb (area_length lim (word area 0)) (length area)

-- The tests that look at words alone.
unfoldable pub rows_ok : Loaded → Bool
rows_ok w =
    term_rows_ok w.term_rows w.terms && bindings_ok w.term_rows w.binding_words w.terms &&
    lines_ok w.line_words w.lines w.entries && entry_rows_ok w.entry_rows w.entries w.terms

-- An entry's kind is right, and its same-as is the lowest entry with its values.
unfoldable pub values_ok : Book → Bindings → Table → Entry → Bool
values_ok b β es e =
    kind_ok b β es e.kind (root b β e.left) (root b β e.right) && eqb e.same_as (entry_of b β es e.left e.right)

-- The tests that look at values and at pairs of entries.
unfoldable pub table_ok : State → Bool
table_ok s = all (values_ok s.book s.bound s.entries) s.entries && distinct s.entries

unfoldable pub sound_loaded : Loaded → Bool
sound_loaded w =
    let s = loaded_state w in rows_ok w && acyclic s.book s.bound && table_ok s

-- An area of bytes is sound exactly when it passes the chain.
abbrev pub SoundByParts : Type 0
SoundByParts = (lim : Limits) → Modest lim → (area : List ℕ) → T (are_bytes area)
    → sound lim area ≡ (header_ok lim area && sound_loaded (loaded lim area))

-- Where the header and the rows pass, the loaded state is the area's.
abbrev pub StateByParts : Type 0
StateByParts = (lim : Limits) → Modest lim → (area : List ℕ) → T (header_ok lim area) → T (rows_ok (loaded lim area))
    → state_of area lim ≡ loaded_state (loaded lim area)
