-- The loaded state is the area's, where the numbers of the header and the counts lie in their ranges. Assumes nothing.
use Rattle.std.proofs.Common.{◌≡◌, sym, List, ℕ, ◌+◌, ◌*◌, ◌-◌, ◌≤◌, ◌<◌, zero-add, add-zero, add_assoc, arith}
use Rattle.std.proofs.Math.Option.{none}
use Rattle.model.specs.Limits.{Limits, max_arity}
use Rattle.model.specs.Term.{var}
use Rattle.model.specs.Table.{hole_at}
use Rattle.model.specs.Area.{header_words, term_words, entry_row_words, bindings_at, lines_at, entries_at, word, words_at, node_at, binding_at, kind_at, entry_at, state_of}
use Rattle.theory.proofs.Lists.From.{map-from-same}
use Rattle.layout.proofs.words.Parts.{get_or-words_at, part_words_at}
use Rattle.layout.specs.limits.Rows.{Loaded, loaded_state, at, node_of, book_of, binding_of, bound_of, kind_of, loaded_entry, table_of}
use Rattle.soundness.specs.sound.Sound.{loaded}

module _ (area : List ℕ) (start n : ℕ) where
  -- A ROW of n words that are loaded holds what the area holds there: a term, a binding, a kind, an entry.
  node-loaded : (t : ℕ) → term_words * t + term_words ≤ n → at (words_at area start n) (term_words * t + 1) ≤ max_arity
      → node_at area (start + term_words * t) ≡ node_of (words_at area start n) t
  unfolding node_at node_of
  node-loaded t h few =
      let i = term_words * t in
      rw (
        add_assoc start i 1,
        add_assoc start i 2,
        ← get_or-words_at area start n i 0 (omega arith),
        ← get_or-words_at area start n (i + 1) 0 (omega arith),
        ← part_words_at area start n (i + 2) (at (words_at area start n) (i + 1)) (omega arith),
      )

  binding_loaded : (t : ℕ) → t < n → binding_at area (start + t) ≡ binding_of (words_at area start n) t
  unfolding binding_at binding_of
  binding_loaded t h = rw (← get_or-words_at area start n t 0 h)

  kind-loaded : (i : ℕ) → i + 3 + max_arity ≤ n → at (words_at area start n) (i + 2) ≤ max_arity
      → kind_at area (start + i) ≡ kind_of (words_at area start n) i
  unfolding kind_at kind_of
  kind-loaded i h few =
      rw (
        add_assoc start i 1,
        add_assoc start i 2,
        add_assoc start i 3,
        ← get_or-words_at area start n i 0 (omega arith),
        ← get_or-words_at area start n (i + 1) 0 (omega arith),
        ← get_or-words_at area start n (i + 2) 0 (omega arith),
        ← part_words_at area start n (i + 3) (at (words_at area start n) (i + 2)) (omega arith),
      )

  entry-loaded : (i : ℕ) → entry_row_words * i + entry_row_words ≤ n → at (words_at area start n) (entry_row_words * i + 4) ≤ max_arity
      → entry_at area (start + entry_row_words * i) ≡ loaded_entry (words_at area start n) i
  unfolding entry_at loaded_entry
  entry-loaded i h few =
      let j = entry_row_words * i in
      let last : start + j + entry_row_words - 1 ≡ start + (j + entry_row_words - 1) = omega arith in
      rw (
        add_assoc start j 1,
        add_assoc start j 2,
        last,
        ← get_or-words_at area start n j 0 (omega arith),
        ← get_or-words_at area start n (j + 1) 0 (omega arith),
        ← get_or-words_at area start n (j + entry_row_words - 1) 0 (omega arith),
        kind-loaded (j + 2) (omega arith) (rw (add_assoc j 2 2) few),
      )

-- What the loaded words must obey for that: the numbers of used rows fit, and each count is at most that of a row's places.
pub record Fits (lim : Limits) (w : Loaded) : Type 0 where
  pub few-terms : w.terms ≤ lim.max_terms
  pub few-entries : w.entries ≤ w.capacity
  pub few-lines : w.lines ≤ lim.max_lines
  pub term-counts : (t : ℕ) → t < w.terms → at w.term_rows (term_words * t + 1) ≤ max_arity
  pub entry-counts : (i : ℕ) → i < w.entries → at w.entry_rows (entry_row_words * i + 4) ≤ max_arity

-- then the loaded state is the area's
pub state-loaded : (lim : Limits) (area : List ℕ) → Fits lim (loaded lim area) → state_of area lim ≡ loaded_state (loaded lim area)
unfolding state_of loaded_state loaded book_of bound_of table_of
state-loaded lim area f =
    let terms : word area 1 ≤ lim.max_terms = f.few-terms in
    let entries : word area 2 ≤ word area 0 = f.few-entries in
    let lines : word area 3 ≤ lim.max_lines = f.few-lines in
    λ i. record {
      book = map-from-same (λ t. node_at area (header_words + term_words * t)) (node_of (words_at area header_words (term_words * lim.max_terms)))
          var 0 (word area 1)
          (λ t l. rw zero-add (node-loaded area header_words (term_words * lim.max_terms) t (omega arith) (f.term-counts t l))) i;
      bound = map-from-same (λ t. binding_at area (bindings_at lim + t)) (binding_of (words_at area (bindings_at lim) lim.max_terms))
          none 0 (word area 1)
          (λ t l. rw zero-add (binding_loaded area (bindings_at lim) lim.max_terms t (omega arith))) i;
      entries = map-from-same (λ k. entry_at area (entries_at lim + entry_row_words * k)) (loaded_entry (words_at area (entries_at lim) (entry_row_words * word area 0)))
          (hole_at 0 0 0) 0 (word area 2)
          (λ k l. rw zero-add (entry-loaded area (entries_at lim) (entry_row_words * word area 0) k (omega arith) (f.entry-counts k l))) i;
      lines = sym (rw (add-zero (lines_at lim)) at (part_words_at area (lines_at lim) lim.max_lines 0 (word area 3) (omega arith))) i;
      capacity = word area 0;
    }
