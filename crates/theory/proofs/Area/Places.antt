-- The places of an area are as written exactly where it begins with the bytes of the state that it holds, if that is sound.
-- Assumes nothing.
use mathlib.Core.Path.{◌≡◌, refl, ap, sym, ◌∙◌, subst}
use mathlib.Core.List.{List, map}
use mathlib.Core.Logic.{◌⊎◌, inl, inr}
use mathlib.Core.Option.{none}
use Prim.Native.Nat.{ℕ, zero, suc, ◌+◌, ◌*◌, ◌-◌, ◌/◌, ◌%◌, ◌≤◌, ◌<◌, zero-le, suc-le-suc}
use native.Mathlib.Nat.{zero-add, mul_comm, div-add-mod, div-lt_iff_lt-mul, mod-lt}
use native.Mathlib.Omega.{arith}
use lib.ListN.{length, get_or, take}
use lib.Seq.{get_or-take}
use lib.Dec.{T}
use Rattle.model.specs.Limits.{Limits, max_arity}
use Rattle.model.specs.Lists.{from, concat_map}
use Rattle.model.specs.Term.{var}
use Rattle.model.specs.Table.{entry, hole_at}
use Rattle.model.specs.Report.{kind_arguments}
use Rattle.model.specs.Step.{State}
use Rattle.model.specs.Area.{word_size, header_words, term_words, entry_row_words, bindings_at, lines_at, entries_at, to_bytes, area_length, node_words, binding_word, entry_words, area_words, area_bytes, word, words_at, node_at, binding_at, kind_at, entry_at, state_of, sound}
use Rattle.theory.specs.SoundArea.{term_at, row_at, PlacesAsWritten}
use Rattle.theory.proofs.Lists.Rows.{map-from}
use Rattle.theory.proofs.Lists.From.{length-map-from, get_or-map-from}
use Rattle.theory.proofs.Table.Search.{lt-or-le}
use Rattle.theory.proofs.Soundness.Facts.{SoundFacts}
use Rattle.theory.proofs.Area.Words.{words-below, words_rebuilt}
use Rattle.theory.proofs.Area.Rows.{Stands}
use Rattle.theory.proofs.Area.Layout.{length-area_words, entry_arity, node-words, binding_words, line-words, entry-words, nodes_zero, bound_zero, lines_zero, entries_zero}
use Rattle.theory.proofs.Area.Bytes.{sound_carries, sound-word}
use Rattle.theory.proofs.Area.Unused.{node-places, places-variable, places-arguments, binding_place, entry-places, places-kind, places-hole, places-entries}

-- A PART of n places from s on, in room up to z: what holds of its places and of those behind them holds of all.
module _ (P : ℕ → Type 0) (s : ℕ) where
  by_part : (n z : ℕ) → ((k : ℕ) → k < n → P (s + k)) → ((i : ℕ) → s + n ≤ i → i < z → P i) → (i : ℕ) → s ≤ i → i < z → P i
  by_part n z used behind i l m = go (lt-or-le i (s + n))
    where
      go : (i < s + n) ⊎ (s + n ≤ i) → P i
      go (inl k) = let e : s + (i - s) ≡ i = omega arith in subst P e (used (i - s) (omega arith))
      go (inr k) = behind i k m

  -- of n rows of w places each
  by_row : (w n : ℕ) → 0 < w → ((t j : ℕ) → t < n → j < w → P (s + w * t + j)) → (k : ℕ) → k < w * n → P (s + k)
  by_row w n h row k l =
      let t : k / w < n = (div-lt_iff_lt-mul h).1 (rw (mul_comm w n) at l) in
      let e : s + w * (k / w) + k % w ≡ s + k = omega (arith, div-add-mod k w) in
      subst P e (row (k / w) (k % w) t (mod-lt k h))

-- THE STATE that an area holds: its counts, and its parts by the words at which they are read.
module _ (lim : Limits) (area : List ℕ) where
  abbrev held : State
  held = state_of area lim

  held-terms : length held.book ≡ word area 1
  unfolding state_of
  held-terms = length-map-from _ 0 (word area 1)

  held-entries : length held.entries ≡ word area 2
  unfolding state_of
  held-entries = length-map-from _ 0 (word area 2)

  held-lines : length held.lines ≡ word area 3
  unfolding state_of words_at
  held-lines = length-map-from _ (lines_at lim) (word area 3)

  held-capacity : held.capacity ≡ word area 0
  unfolding state_of
  held-capacity = refl

  held-node : (t : ℕ) → t < word area 1 → get_or held.book t var ≡ node_at area (term_at t)
  unfolding state_of
  held-node t l =
      get_or-map-from (λ u. node_at area (term_at u)) 0 (word area 1) t var l ∙ ap (λ u. node_at area (term_at u)) (zero-add t)

  held_binding : (t : ℕ) → t < word area 1 → get_or held.bound t none ≡ binding_at area (bindings_at lim + t)
  unfolding state_of
  held_binding t l =
      get_or-map-from (λ u. binding_at area (bindings_at lim + u)) 0 (word area 1) t none l ∙
      ap (λ u. binding_at area (bindings_at lim + u)) (zero-add t)

  held-line : (k : ℕ) → k < word area 3 → get_or held.lines k 0 ≡ word area (lines_at lim + k)
  unfolding state_of words_at
  held-line k l = get_or-map-from (word area) (lines_at lim) (word area 3) k 0 l

  held-entry : (i : ℕ) → i < word area 2 → entry held.entries i ≡ entry_at area (row_at lim i)
  unfolding state_of
  held-entry i l =
      get_or-map-from (λ u. entry_at area (row_at lim u)) 0 (word area 2) i (hole_at 0 0 0) l ∙
      ap (λ u. entry_at area (row_at lim u)) (zero-add i)

  module _ (f : SoundFacts lim held) where
    -- a count of arguments
    few-arguments : (i : ℕ) → i < word area 2 → length (kind_arguments (kind_at area (row_at lim i + 2))) ≤ max_arity
    unfolding entry_at
    few-arguments i l =
        subst (λ e. length (kind_arguments e.kind) ≤ max_arity) (held-entry i l) (entry_arity lim held f i (omega (arith, held-entries)))

    -- word i is that of the state
    abbrev Right : ℕ → Type 0
    Right i = word area i ≡ get_or (area_words lim held) i 0

    -- THE PLACES of an area whose words are the state's.
    module _ (reads : (i : ℕ) → i < length (area_words lim held) → Right i) where
      reads_at : (i : ℕ) → i < row_at lim (word area 0) → Right i
      reads_at i l = reads i (rw (length-area_words lim held f) (omega (arith, held-capacity)))

      node_row_lem : (t : ℕ) → t < word area 1 → Stands area (term_at t) term_words (node_words (node_at area (term_at t)))
      node_row_lem t l j m =
          let n : length held.book ≡ word area 1 = held-terms in
          reads_at (term_at t + j) (omega arith) ∙ node-words lim held f t j (omega arith) m ∙
          ap (λ x. get_or (node_words x) j 0) (held-node t l)

      entry_row : (i : ℕ) → i < word area 2 → Stands area (row_at lim i) entry_row_words (entry_words (entry_at area (row_at lim i)))
      entry_row i l j m =
          let n : length held.entries ≡ word area 2 = held-entries in
          reads_at (row_at lim i + j) (omega (arith, held-capacity)) ∙ entry-words lim held f i j (omega arith) m ∙
          ap (λ x. get_or (entry_words x) j 0) (held-entry i l)

      pub right-places : ((k : ℕ) → k < area_length lim (word area 0) → get_or area k 0 < 256) → PlacesAsWritten lim area
      right-places b =
          let terms : length held.book ≡ word area 1 = held-terms in
          let entries : length held.entries ≡ word area 2 = held-entries in
          let lines : length held.lines ≡ word area 3 = held-lines in
          record {
            bytes = b;
            variable-row = λ t l. places-variable area (term_at t) (node_row_lem t l);
            behind_arguments = λ t l. places-arguments area (term_at t) (node_row_lem t l);
            behind_terms = λ i l m. reads_at i (omega arith) ∙ nodes_zero lim held f i (omega arith) m;
            behind_bindings = λ i l m. reads_at i (omega arith) ∙ bound_zero lim held f i (omega arith) m;
            behind_lines = λ i l m. reads_at i (omega arith) ∙ lines_zero lim held f i (omega arith) m;
            behind_entries = λ i l m. reads_at i m ∙ entries_zero lim held f i (omega arith);
            kind_range = λ i l. places-kind area (row_at lim i) (few-arguments i l) (entry_row i l);
            open_row = λ i l. places-hole area (row_at lim i) (few-arguments i l) (entry_row i l);
            behind_argument-entries = λ i l. places-entries area (row_at lim i) (few-arguments i l) (entry_row i l);
          }

    -- THE WORDS of an area whose places are as written, part by part.
    module _ (p : PlacesAsWritten lim area) where
      header_right : (i : ℕ) → i < header_words → Right i
      unfolding area_words
      header_right zero l = sym held-capacity
      header_right (suc zero) l = sym held-terms
      header_right (suc (suc zero)) l = sym held-entries
      header_right (suc (suc (suc zero))) l = sym held-lines
      header_right (suc (suc (suc (suc i)))) l = omega arith

      term-right : (t j : ℕ) → t < word area 1 → j < term_words → Right (term_at t + j)
      term-right t j l m =
          node-places area (term_at t) (p.variable-row t l) (p.behind_arguments t l) j m ∙
          ap (λ x. get_or (node_words x) j 0) (sym (held-node t l)) ∙ sym (node-words lim held f t j (omega (arith, held-terms)) m)

      terms-right : (i : ℕ) → header_words ≤ i → i < bindings_at lim → Right i
      terms-right =
          by_part Right header_words (term_words * word area 1) (bindings_at lim)
          (by_row Right header_words term_words (word area 1) (suc-le-suc zero-le) (λ t j l m. term-right t j l m))
          (λ i k m. p.behind_terms i k m ∙ sym (nodes_zero lim held f i (omega (arith, held-terms)) m))

      bindings-right : (i : ℕ) → bindings_at lim ≤ i → i < lines_at lim → Right i
      bindings-right =
          by_part Right (bindings_at lim) (word area 1) (lines_at lim)
          (λ t l. sym
          (binding_words lim held f t (omega (arith, held-terms)) ∙ ap binding_word (held_binding t l) ∙ binding_place area (bindings_at lim + t)))
          (λ i k m. p.behind_bindings i k m ∙ sym (bound_zero lim held f i (omega (arith, held-terms)) m))

      lines-right : (i : ℕ) → lines_at lim ≤ i → i < entries_at lim → Right i
      lines-right =
          by_part Right (lines_at lim) (word area 3) (entries_at lim)
          (λ n l. sym (line-words lim held f n (omega (arith, held-lines)) ∙ held-line n l))
          (λ i k m. p.behind_lines i k m ∙ sym (lines_zero lim held f i (omega (arith, held-lines)) m))

      entry-right : (i j : ℕ) → i < word area 2 → j < entry_row_words → Right (row_at lim i + j)
      entry-right i j l m =
          entry-places area (row_at lim i) (few-arguments i l) (p.kind_range i l) (p.open_row i l) (p.behind_argument-entries i l) j m ∙
          ap (λ x. get_or (entry_words x) j 0) (sym (held-entry i l)) ∙ sym (entry-words lim held f i j (omega (arith, held-entries)) m)

      entries-right : (i : ℕ) → entries_at lim ≤ i → i < row_at lim (word area 0) → Right i
      entries-right =
          by_part Right (entries_at lim) (entry_row_words * word area 2) (row_at lim (word area 0))
          (by_row Right (entries_at lim) entry_row_words (word area 2) (suc-le-suc zero-le) (λ n j l m. entry-right n j l m))
          (λ i k m. p.behind_entries i k m ∙ sym (entries_zero lim held f i (omega (arith, held-entries))))

      right-at : (i : ℕ) → i < row_at lim (word area 0) → Right i
      right-at i l = go (lt-or-le i header_words) (lt-or-le i (bindings_at lim)) (lt-or-le i (lines_at lim)) (lt-or-le i (entries_at lim))
        where
          go : (i < header_words) ⊎ (header_words ≤ i) → (i < bindings_at lim) ⊎ (bindings_at lim ≤ i)
              → (i < lines_at lim) ⊎ (lines_at lim ≤ i) → (i < entries_at lim) ⊎ (entries_at lim ≤ i) → Right i
          go (inl a) b c d = header_right i a
          go (inr a) (inl b) c d = terms-right i a b
          go (inr a) (inr b) (inl c) d = bindings-right i b c
          go (inr a) (inr b) (inr c) (inl d) = lines-right i c d
          go (inr a) (inr b) (inr c) (inr d) = entries-right i d l

      -- so its bytes are the state's
      words_right : map (word area) (from 0 (length (area_words lim held))) ≡ area_words lim held
      words_right =
          map-from (word area) 0 (area_words lim held) 0 (λ j l.
          ap (word area) (zero-add j) ∙ right-at j (omega (arith, length-area_words lim held f, held-capacity)))

      pub places-laid_out : area_length lim held.capacity ≤ length area → take (area_length lim held.capacity) area ≡ area_bytes lim held
      unfolding area_length area_bytes
      places-laid_out h =
          let n : length (area_words lim held) ≡ entries_at lim + entry_row_words * held.capacity = length-area_words lim held f in
          words_rebuilt area (entries_at lim + entry_row_words * held.capacity) h (λ k l. p.bytes k (rw (← held-capacity) l)) ∙
          ap (λ c. concat_map (to_bytes word_size) (map (word area) (from 0 c))) (sym n) ∙
          ap (concat_map (to_bytes word_size)) words_right

  -- a sound area
  pub sound-places : T (sound lim area) → PlacesAsWritten lim area
  unfolding area_bytes
  sound-places h =
      let c = sound_carries lim area h in
      right-places c.0 (sound-word lim area h) (λ k l.
      let below : k < area_length lim held.capacity = subst (λ n. k < area_length lim n) (sym held-capacity) l in
      let e : get_or area k 0 ≡ get_or (area_bytes lim held) k 0 =
      sym (get_or-take (area_length lim held.capacity) area k 0 below) ∙ ap (λ x. get_or x k 0) c.1.bytes in
      rw e ((words-below word_size (area_words lim held)).at k))
