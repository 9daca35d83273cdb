-- The rows of an area's capacity, cut from a slice that has those of the largest. Assumes nothing.
use Rattle.std.proofs.Common.{◌≡◌, sym, ap, ◌∙◌, List, ◌++◌, false, ℕ, ◌*◌, ◌≤◌, arith, length, take, take_at, length-take-le, T}
use Rattle.leb128.specs.Laws.{are_bytes}
use Rattle.model.specs.Limits.{Limits}
use Rattle.model.specs.Area.{word_size, header_words, entry_row_words, area_length, word, sound}
use Rattle.theory.specs.Modest.{Modest}
use Rattle.layout.specs.declared.header.Header.{Header}
use Rattle.soundness.specs.sound.Sound.{header_ok}
use Rattle.soundness.proofs.sound.Tests.{header_facts}
use Rattle.soundness.proofs.sound.Theorems.{sound_by_parts}
use Rattle.layout.specs.header.Held.{held}
use Rattle.area.specs.load.Loading.{Sizes, header_of}
use Rattle.area.specs.load.Ready.{ReadFrom}
use Rattle.area.proofs.test.Whole.{HeaderOf}

-- an area whose header is not in order is not sound
pub header_refused : (lim : Limits) (area : List ℕ) → Modest lim → T (are_bytes area) → header_ok lim area ≡ false → false ≡ sound lim area
header_refused lim area m bytes e = sym (sound_by_parts lim m area bytes ∙ rw e)

-- a header is the area's when its numbers are
pub is_header : (area : List ℕ) (h : Header) → HeaderOf area h → h ≡ header_of area
unfolding header_of
is_header area h e = λ i. record { capacity = e.0 i; terms = e.1 i; entries = e.2 i; lines = e.3 i }

module _ (lim : Limits) (area : List ℕ) (ok : T (header_ok lim area)) where
  -- an area whose header is in order has one
  pub header_within : word_size * header_words ≤ length area
  unfolding area_length
  header_within = omega (arith, ((header_facts lim area).0 ok).long)

  module _ (h : Header) (head : HeaderOf area h) {rows bindings lines entries : List ℕ}
      (z : Sizes lim lim.max_capacity rows bindings lines entries) where
    -- the rows of the capacity lie in the slice
    pub cut_fits : entry_row_words * h.capacity ≤ length entries
    cut_fits = omega (arith, z.entries_size, ((header_facts lim area).0 ok).capacity-fits, head.0)

    -- and with these rows the slices have their sizes
    pub cut-sizes : Sizes lim (word area 0) rows bindings lines (take (entry_row_words * h.capacity) entries)
    cut-sizes =
        record {
          rows_size = z.rows_size;
          bindings_size = z.bindings_size;
          lines_size = z.lines_size;
          entries_size = length-take-le (entry_row_words * h.capacity) entries cut_fits ∙ ap (λ n. entry_row_words * n) head.0;
        }

-- what was read into that part stands at the front of the slice
pub cut-read : (lim : Limits) (area : List ℕ) (h : Header) → HeaderOf area h → {rows bindings lines part list roots names : List ℕ}
    → length part ≡ entry_row_words * h.capacity → ReadFrom lim area (held h rows bindings lines part) list roots names → (rest : List ℕ)
    → ReadFrom lim area (held (header_of area) rows bindings lines (take (entry_row_words * word area 0) (part ++ rest))) list roots names
cut-read lim area h head {part = part} size r rest =
    rw (← is_header area h head, take_at part rest (entry_row_words * word area 0) (size ∙ ap (λ n. entry_row_words * n) head.0)) r
