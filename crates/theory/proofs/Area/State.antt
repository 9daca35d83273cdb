-- An area whose words are those of a sound state holds that state. Assumes nothing.
use mathlib.Core.Path.{◌≡◌, ◌∙◌}
use mathlib.Core.List.{List, map}
use mathlib.Core.Option.{none}
use Prim.Native.Nat.{ℕ, ◌+◌, ◌*◌, ◌<◌}
use native.Mathlib.Nat.{zero-add}
use native.Mathlib.Omega.{arith}
use lib.ListN.{length, get_or}
use Rattle.model.specs.Limits.{Limits}
use Rattle.model.specs.Lists.{from}
use Rattle.model.specs.Term.{var}
use Rattle.model.specs.Table.{entry, hole_at}
use Rattle.model.specs.Step.{State}
use Rattle.model.specs.Area.{header_words, term_words, entry_row_words, bindings_at, lines_at, entries_at, area_words, word, words_at, node_at, binding_at, entry_at, state_of}
use Rattle.theory.proofs.Soundness.Facts.{SoundFacts}
use Rattle.theory.proofs.Lists.Rows.{map-from}
use Rattle.theory.proofs.Area.Rows.{node-stands, binding_stands, entry-stands}
use Rattle.theory.proofs.Area.Layout.{length-area_words, entry_arity, node-words, binding_words, line-words, entry-words}

module _ (lim : Limits) (s : State) (f : SoundFacts lim s) (area : List ℕ)
    (reads : (i : ℕ) → i < length (area_words lim s) → word area i ≡ get_or (area_words lim s) i 0) where
  -- a word within the needed length
  reads_at : (i : ℕ) → i < entries_at lim + entry_row_words * s.capacity → word area i ≡ get_or (area_words lim s) i 0
  reads_at i l = reads i (rw (length-area_words lim s f) l)

  -- the header
  read-capacity : word area 0 ≡ s.capacity
  unfolding area_words
  read-capacity = reads_at 0 (omega arith)

  read-terms : word area 1 ≡ length s.book
  unfolding area_words
  read-terms = reads_at 1 (omega arith)

  read-entries : word area 2 ≡ length s.entries
  unfolding area_words
  read-entries = reads_at 2 (omega arith)

  read-lines : word area 3 ≡ length s.lines
  unfolding area_words
  read-lines = reads_at 3 (omega arith)

  -- the book, the bindings, the table and the lines
  read-book : map (λ t. node_at area (header_words + term_words * t)) (from 0 (word area 1)) ≡ s.book
  read-book =
      rw read-terms (map-from (λ t. node_at area (header_words + term_words * t)) 0 s.book var (λ t l. rw zero-add
      (node-stands area (header_words + term_words * t) (get_or s.book t var) (f.formed.small_arity t l)
      (λ j m. reads_at (header_words + term_words * t + j) (omega arith) ∙ node-words lim s f t j l m))))

  read-bound : map (λ t. binding_at area (bindings_at lim + t)) (from 0 (word area 1)) ≡ s.bound
  read-bound =
      rw (read-terms, ← f.formed.same_length) (map-from (λ t. binding_at area (bindings_at lim + t)) 0 s.bound none (λ t l. rw zero-add
      (binding_stands area (bindings_at lim + t) (get_or s.bound t none)
      (reads_at (bindings_at lim + t) (omega arith) ∙ binding_words lim s f t (omega arith)))))

  read_table : map (λ i. entry_at area (entries_at lim + entry_row_words * i)) (from 0 (word area 2)) ≡ s.entries
  read_table =
      rw read-entries (map-from (λ i. entry_at area (entries_at lim + entry_row_words * i)) 0 s.entries (hole_at 0 0 0) (λ i l. rw zero-add
      (entry-stands area (entries_at lim + entry_row_words * i) (entry s.entries i) (entry_arity lim s f i l)
      (λ j m. reads_at (entries_at lim + entry_row_words * i + j) (omega arith) ∙ entry-words lim s f i j l m))))

  read-line-entries : words_at area (lines_at lim) (word area 3) ≡ s.lines
  unfolding words_at
  read-line-entries =
      rw read-lines (map-from (word area) (lines_at lim) s.lines 0
      (λ k l. reads_at (lines_at lim + k) (omega arith) ∙ line-words lim s f k l))

  -- the whole state
  pub read-state : state_of area lim ≡ s
  unfolding state_of
  read-state =
      λ i. record { book = read-book i; bound = read-bound i; entries = read_table i; lines = read-line-entries i; capacity = read-capacity i }
