-- A whole area: its bytes, the room that its state takes, and what the tests of its loaded words say of it. Assumes nothing.
use Rattle.std.proofs.Common.{Fits, w8, ◌≡◌, sym, ap, ◌∙◌, List, [], ◌∷◌, Bool, true, ℕ, zero, suc, arith, get_or, T, ltb, lt→ltb}
use Rattle.leb128.specs.Laws.{are_bytes}
use Rattle.model.specs.Limits.{Limits}
use Rattle.model.specs.Term.{acyclic}
use Rattle.model.specs.Area.{word, sound, state_of}
use Rattle.theory.specs.Modest.{Modest}
use Rattle.theory.proofs.Lists.Laws.{T_true, true_T, and_both}
use Rattle.theory.proofs.Lists.Conjunctions.{and₃}
use Rattle.theory.proofs.Soundness.Test.{facts_sound}
use Rattle.theory.proofs.Area.Bytes.{sound_carries}
use Rattle.layout.specs.limits.Rows.{Loaded, loaded_state, Sized}
use Rattle.layout.specs.declared.header.Header.{Header}
use Rattle.soundness.specs.sound.Sound.{loaded, header_ok, rows_ok, table_ok, sound_loaded}
use Rattle.soundness.proofs.sound.Tests.{header_facts}
use Rattle.soundness.proofs.sound.Words.{loaded-sized}
use Rattle.soundness.proofs.sound.Theorems.{sound_by_parts, state_by_parts}
use Rattle.pairs.specs.Index as Pairs
use Rattle.layout.specs.header.Held.{held}
use Rattle.area.specs.load.Loading.{Words, Used}
use Rattle.values.specs.evaluate.Valued.{Valued, ValueRoom}
use Rattle.area.specs.load.Ready.{Lent, ReadFrom}
use Rattle.values.proofs.evaluate.Rooms.{fewer_terms}
use Rattle.pairs.proofs.Rooms.{room_fewer}

-- The header's numbers are the first words of the area.
abbrev pub HeaderOf : List ℕ → Header → Type 0
HeaderOf area h =
    (h.capacity ≡ word area 0) × (h.terms ≡ word area 1) × (h.entries ≡ word area 2) × (h.lines ≡ word area 3)

-- numbers that each fit a byte are bytes
pub are_bytes_lem : (xs : List ℕ) → ((i : ℕ) → Fits w8 (get_or xs i 0)) → T (are_bytes xs)
unfolding are_bytes
are_bytes_lem [] h = tt
are_bytes_lem (x ∷ xs) h = and_both (ltb x 256) (are_bytes xs) (lt→ltb x 256 (omega (arith, h zero))) (are_bytes_lem xs (λ i. h (suc i)))

-- what passes all tests passes those of the rows
rows_tested : (w : Loaded) → T (sound_loaded w) → T (rows_ok w)
unfolding sound_loaded
rows_tested w t =
    ((and₃ (rows_ok w) (acyclic (loaded_state w).book (loaded_state w).bound) (table_ok (loaded_state w))).0 t).0

module _ (lim : Limits) (area : List ℕ) (ok : T (header_ok lim area)) (h : Header) (head : HeaderOf area h) where
  -- the room that is lent is enough for the state of an area whose header is in order
  module _ {list roots names lefts rights cells : List ℕ} (lent : Lent lim list roots names lefts rights cells) where
    pub room-terms : ValueRoom list roots names lefts rights cells h.terms
    room-terms = fewer_terms (rw head.1 ((header_facts lim area).0 ok).few-terms) lent.for_terms

    pub room-entries : Pairs.Room lefts rights cells h.entries
    room-entries =
        let f = (header_facts lim area).0 ok in
        room_fewer (rw head.2 (omega (arith, f.few-entries, f.capacity-fits))) lent.for_entries

  module _ {rows bindings lines entries : List ℕ} (words : Words (loaded lim area) rows bindings lines entries) where
    -- the loaded state is that of the header and the slices
    held-loaded : held h rows bindings lines entries ≡ loaded lim area
    unfolding loaded
    held-loaded = cc

    -- its parts have their lengths
    parts-sized : Sized lim (held h rows bindings lines entries)
    parts-sized = rw held-loaded (loaded-sized lim area)

    -- the rows and words that the header counts lie in the slices
    pub used : Used (held h rows bindings lines entries)
    used =
        let f = (header_facts lim area).0 ok in
        let z = parts-sized in
        record {
          terms_fit = omega (arith, f.few-terms, head.1);
          bindings_fit = omega (arith, f.few-terms, head.1);
          lines_fit = omega (arith, f.few-lines, head.3);
          entries_fit = omega (arith, f.few-entries, head.0, head.2);
        }

    module _ (m : Modest lim) (bytes : T (are_bytes area)) {r : Bool} (e : r ≡ sound_loaded (held h rows bindings lines entries)) where
      -- the tests of the loaded words decide whether the area is sound
      pub decides : r ≡ sound lim area
      decides = e ∙ ap sound_loaded held-loaded ∙ sym (rw (T_true (header_ok lim area) ok) at (sound_by_parts lim m area bytes))

      -- and where it is, its state is loaded
      pub area-read : {list roots names : List ℕ} → r ≡ true → Valued rows bindings list roots names h.terms
          → ReadFrom lim area (held h rows bindings lines entries) list roots names
      area-read t v =
          let w : Loaded = held h rows bindings lines entries in
          let z : Sized lim w = parts-sized in
          let rows_ok : T (rows_ok w) = rows_tested w (true_T _ (sym e ∙ t)) in
          let same : loaded_state w ≡ state_of area lim =
          ap loaded_state held-loaded ∙ sym (state_by_parts lim m area ok (rw held-loaded at rows_ok)) in
          record {
            is_state = same;
            ready = record {
              sizes = record {
                rows_size = z.terms-long;
                bindings_size = z.bindings-long;
                lines_size = z.lines_long;
                entries_size = z.entries-long;
              };
              used = used;
              rows = rows_ok;
              sound = rw same (facts_sound lim (state_of area lim) (sound_carries lim area (true_T _ (sym decides ∙ t))).0);
              valued = v;
            };
          }
