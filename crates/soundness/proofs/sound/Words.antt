-- The words of an area: they are the parts that are loaded, and an area of bytes begins with a state's bytes exactly when
-- the loaded words are the state's. Assumes nothing.
use Rattle.std.proofs.Common.{◌≡◌, refl, sym, ◌∙◌, List, [], ◌∷◌, append_assoc, ℕ, ◌+◌, ◌*◌, ◌≤◌, zero-add, length, T}
use Rattle.leb128.specs.Laws.{are_bytes}
use Rattle.model.specs.Limits.{Limits}
use Rattle.model.specs.Lists.{from}
use Rattle.model.specs.Step.{State}
use Rattle.model.specs.Area.{header_words, term_words, entry_row_words, bindings_at, lines_at, entries_at, area_length, area_words, area_bytes, word, words_at, state_of}
use Rattle.theory.specs.Modest.{Modest}
use Rattle.theory.proofs.Soundness.Facts.{SoundFacts}
use Rattle.theory.proofs.Lists.Rows.{map-from}
use Rattle.theory.proofs.Area.Layout.{length-area_words}
use Rattle.theory.proofs.Area.Bytes.{Carries, carried_word}
use Rattle.layout.proofs.words.Runs.{length-words_at}
use Rattle.layout.proofs.words.Parts.{words_at-append}
use Rattle.layout.proofs.words.Laws.{loaded_bytes}
use Rattle.soundness.specs.sound.Sound.{loaded}
use Rattle.layout.specs.limits.Rows.{loaded_words, Sized}

module _ (lim : Limits) (area : List ℕ) where
  -- the words that the capacity in the header needs
  abbrev needed_words : ℕ
  needed_words = entries_at lim + entry_row_words * word area 0

  -- the header's words
  header_words_lem : words_at area 0 header_words ≡ word area 0 ∷ word area 1 ∷ word area 2 ∷ word area 3 ∷ []
  unfolding words_at from
  header_words_lem = refl

  -- the parts that are loaded, one after the other, are the area's words
  loaded-words : words_at area 0 needed_words ≡ loaded_words (loaded lim area)
  unfolding loaded_words loaded
  loaded-words =
      rw (
        words_at-append area 0 (entries_at lim) (entry_row_words * word area 0),
        words_at-append area 0 (lines_at lim) lim.max_lines,
        words_at-append area 0 (bindings_at lim) lim.max_terms,
        words_at-append area 0 header_words (term_words * lim.max_terms),
      )
      (simp (zero-add, append_assoc) (rw header_words_lem))

  -- and each has its length
  pub loaded-sized : Sized lim (loaded lim area)
  unfolding loaded
  loaded-sized =
      record {
        terms-long = length-words_at area header_words (term_words * lim.max_terms);
        bindings-long = length-words_at area (bindings_at lim) lim.max_terms;
        lines_long = length-words_at area (lines_at lim) lim.max_lines;
        entries-long = length-words_at area (entries_at lim) (entry_row_words * word area 0);
      }

  -- an area that carries its sound state has that state's words
  pub carried_loaded : Modest lim → SoundFacts lim (state_of area lim) → Carries lim (state_of area lim) area
      → loaded_words (loaded lim area) ≡ area_words lim (state_of area lim)
  unfolding words_at state_of
  carried_loaded m f c =
      let s : State = state_of area lim in
      let long : length (area_words lim s) ≡ needed_words = length-area_words lim s f in
      sym loaded-words ∙
      (rw long at (map-from (word area) 0 (area_words lim s) 0 (λ i l. rw zero-add (carried_word lim s area m f c i l))))

  -- an area of bytes that has a state's words carries that state
  pub loaded_carried : (s : State) → T (are_bytes area) → area_length lim (word area 0) ≤ length area → word area 0 ≡ s.capacity
      → loaded_words (loaded lim area) ≡ area_words lim s → Carries lim s area
  unfolding area_length area_bytes
  loaded_carried s bytes long same e =
      record {
        fits = rw (← same) long;
        bytes = rw (← e, ← loaded-words, ← same) (sym (loaded_bytes area bytes 0 needed_words (rw zero-add long)));
      }
