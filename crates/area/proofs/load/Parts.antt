-- The parts of an area whose header is in order lie in it. Assumes nothing.
use Rattle.std.proofs.Common.{◌≡◌, ap, ap₂, ◌∙◌, List, ℕ, ◌+◌, ◌*◌, ◌≤◌, arith, length, T}
use Rattle.model.specs.Limits.{Limits}
use Rattle.model.specs.Area.{word_size, header_words, bindings_at, lines_at, entries_at, area_length, word, words_at}
use Rattle.soundness.specs.sound.Sound.{loaded, header_ok}
use Rattle.soundness.proofs.sound.Tests.{header_facts}
use Rattle.area.specs.load.Loading.{Sizes, Words}

-- Each slice's words lie in the area from its part's first word on.
pub record Within (lim : Limits) (area rows bindings lines entries : List ℕ) : Type 0 where
  pub rows-within : word_size * (header_words + length rows) ≤ length area
  pub bindings-within : word_size * (bindings_at lim + length bindings) ≤ length area
  pub lines-within : word_size * (lines_at lim + length lines) ≤ length area
  pub entries-within : word_size * (entries_at lim + length entries) ≤ length area

pub within : (lim : Limits) (area rows bindings lines entries : List ℕ) → T (header_ok lim area)
    → Sizes lim (word area 0) rows bindings lines entries → Within lim area rows bindings lines entries
unfolding area_length
within lim area rows bindings lines entries h z =
    let long = ((header_facts lim area).0 h).long in
    record {
      rows-within = omega (arith, z.rows_size);
      bindings-within = omega (arith, z.bindings_size);
      lines-within = omega (arith, z.lines_size);
      entries-within = omega (arith, z.entries_size);
    }

-- what is loaded from where each part begins are the words of the loaded state
pub words-loaded : (lim : Limits) (area rows bindings lines entries rows' bindings' lines' entries' : List ℕ) (b l e : ℕ)
    → Sizes lim (word area 0) rows bindings lines entries → b ≡ bindings_at lim → l ≡ lines_at lim → e ≡ entries_at lim
    → rows' ≡ words_at area header_words (length rows) → bindings' ≡ words_at area b (length bindings) → lines' ≡ words_at area l (length lines)
    → entries' ≡ words_at area e (length entries) → Words (loaded lim area) rows' bindings' lines' entries'
unfolding loaded
words-loaded lim area rows bindings lines entries rows' bindings' lines' entries' b l e z at_b at-l at-e is-r is_b is-l is-e =
    record {
      is-rows = is-r ∙ ap (words_at area header_words) z.rows_size;
      is-bindings = is_b ∙ ap₂ (words_at area) at_b z.bindings_size;
      is-lines = is-l ∙ ap₂ (words_at area) at-l z.lines_size;
      is-entries = is-e ∙ ap₂ (words_at area) at-e z.entries_size;
    }
