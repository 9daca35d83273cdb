-- The theorems of specs/sound/Sound.antt: soundness is the chain of tests, and the loaded state is the area's. Assumes nothing.
use Rattle.std.proofs.Common.{◌≡◌, refl, subst, List, ◌&&◌, ◌↔◌, ℕ, T}
use Rattle.leb128.specs.Laws.{are_bytes}
use Rattle.model.specs.Limits.{Limits}
use Rattle.model.specs.Term.{acyclic}
use Rattle.model.specs.Step.{State}
use Rattle.model.specs.Area.{area_words, sound_state, sound, state_of}
use Rattle.theory.specs.Modest.{Modest}
use Rattle.theory.proofs.Lists.Laws.{true_T, same_test}
use Rattle.theory.proofs.Lists.Conjunctions.{and₂, and₃}
use Rattle.theory.proofs.Soundness.Facts.{SoundFacts}
use Rattle.theory.proofs.Soundness.Test.{sound_facts, facts_sound}
use Rattle.theory.proofs.Area.Bytes.{Carries, carried_sound, sound_carries}
use Rattle.layout.specs.limits.Rows.{Loaded, loaded_state, loaded_words}
use Rattle.soundness.specs.sound.Sound.{loaded, header_ok, rows_ok, table_ok, sound_loaded, SoundByParts, StateByParts}
use Rattle.soundness.proofs.sound.Facts.{HeaderFacts, RowFacts}
use Rattle.soundness.proofs.sound.Tests.{header_facts, row_facts}
use Rattle.soundness.proofs.sound.State.{Fits, state-loaded}
use Rattle.soundness.proofs.sound.Parts.{Holds, whole, parts, holds_fits}
use Rattle.soundness.proofs.sound.Chain.{rows_hold, chain_sound, sound_chain}
use Rattle.soundness.proofs.sound.Words.{loaded-sized, carried_loaded, loaded_carried}

-- the header and the rows of an area in order have the numbers and the counts in their ranges
rows_fit : (lim : Limits) (area : List ℕ) → HeaderFacts lim area → RowFacts (loaded lim area) → Fits lim (loaded lim area)
unfolding loaded
rows_fit lim area h f =
    record {
      few-terms = h.few-terms;
      few-entries = h.few-entries;
      few-lines = h.few-lines;
      term-counts = λ t l. (f.term-row t l).count;
      entry-counts = λ i l. (f.entry_row i l).count;
    }

pub state_by_parts : StateByParts
state_by_parts lim m area h r =
    state-loaded lim area (rows_fit lim area ((header_facts lim area).0 h) ((row_facts (loaded lim area)).0 r))

-- the chain, taken apart
chain : (w : Loaded)
    → T (sound_loaded w) ↔ (T (rows_ok w) × T (acyclic (loaded_state w).book (loaded_state w).bound) × T (table_ok (loaded_state w)))
unfolding sound_loaded
chain w = and₃ (rows_ok w) (acyclic (loaded_state w).book (loaded_state w).bound) (table_ok (loaded_state w))

module _ (lim : Limits) (m : Modest lim) (area : List ℕ) where
  -- what passes the chain is sound
  parts-sound : T (are_bytes area) → HeaderFacts lim area → T (sound_loaded (loaded lim area)) → T (sound lim area)
  unfolding loaded_state loaded
  parts-sound bytes h t =
      let w : Loaded = loaded lim area in
      let s : State = loaded_state w in
      let g : _ = (chain w).0 t in
      let rows : RowFacts w = (row_facts w).0 g.0 in
      let fits : Fits lim w = rows_fit lim area h rows in
      let f : SoundFacts lim s =
      sound_facts lim s (chain_sound lim w fits h.some_capacity h.capacity-fits rows g.1 g.2) in
      let words : loaded_words w ≡ area_words lim s = whole lim w s (rows_hold lim w fits (loaded-sized lim area) rows) in
      true_T (sound lim area) (carried_sound lim s area m f (loaded_carried lim area s bytes h.long refl words))

  -- what is sound passes the chain
  sound-parts : T (sound lim area) → HeaderFacts lim area × T (sound_loaded (loaded lim area))
  unfolding state_of loaded
  sound-parts t =
      let w : Loaded = loaded lim area in
      let s : State = state_of area lim in
      let f : SoundFacts lim s = (sound_carries lim area t).0 in
      let c : Carries lim s area = (sound_carries lim area t).1 in
      let holds : Holds lim w s = parts lim w s (loaded-sized lim area) f (carried_loaded lim area m f c) in
      let fits : Fits lim w = holds_fits lim w s f holds in
      let same : s ≡ loaded_state w = state-loaded lim area fits in
      let g : _ =
      sound_chain lim w fits (subst (λ x. T (sound_state lim x)) same (facts_sound lim s f)) (subst (λ x. Holds lim w x) same holds) in (
        record {
          some_capacity = f.some_capacity;
          capacity-fits = f.capacity-fits;
          few-terms = fits.few-terms;
          few-entries = fits.few-entries;
          few-lines = fits.few-lines;
          long = c.fits;
        },
        (chain w).1 ((row_facts w).1 g.0, g.1, g.2),
      )

pub sound_by_parts : SoundByParts
sound_by_parts lim m area bytes =
    let both : _ = and₂ (header_ok lim area) (sound_loaded (loaded lim area)) in
    same_test (sound lim area) (header_ok lim area && sound_loaded (loaded lim area))
    (λ t. let g : _ = sound-parts lim m area t in both.1 ((header_facts lim area).1 g.0, g.1))
    (λ t. let g : _ = both.0 t in parts-sound lim m area bytes ((header_facts lim area).0 g.0) g.1)
