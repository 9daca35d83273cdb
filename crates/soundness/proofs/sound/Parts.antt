-- Loaded words are the words of a state exactly when they are so part by part. Assumes nothing.
use Rattle.std.proofs.Common.{◌≡◌, ap, List, [], ◌∷◌, ◌++◌, map, ℕ, ◌*◌, ◌≤◌, zero-le, arith, length, get_or, take, drop, take_at, drop_at}
use Rattle.model.specs.Limits.{Limits, max_arity}
use Rattle.model.specs.Lists.{concat_map, padded}
use Rattle.model.specs.Term.{Node, var, app, arguments}
use Rattle.model.specs.Table.{Kind, hole, common, entry, hole_at}
use Rattle.model.specs.Step.{State}
use Rattle.model.specs.Report.{kind_arguments}
use Rattle.model.specs.Area.{term_words, entry_row_words, node_words, binding_word, kind_words, entry_words, area_words}
use Rattle.theory.proofs.Soundness.Facts.{SoundFacts}
use Rattle.theory.proofs.Lists.Rows.{padded-row}
use Rattle.theory.proofs.Area.Layout.{wide_nodes, wide-entries, entry_arity, length_nodes, length-bound, length-lines}
use Rattle.layout.specs.limits.Rows.{Loaded, Sized, loaded_words}
use Rattle.soundness.proofs.sound.State.{Fits}

-- Each part holds the words of the state.
pub record Holds (lim : Limits) (w : Loaded) (s : State) : Type 0 where
  pub the_capacity : w.capacity ≡ s.capacity
  pub terms-count : w.terms ≡ length s.book
  pub entries-count : w.entries ≡ length s.entries
  pub lines-count : w.lines ≡ length s.lines
  pub term_words : w.term_rows ≡ padded (term_words * lim.max_terms) (concat_map node_words s.book)
  pub binding_words : w.binding_words ≡ padded lim.max_terms (map binding_word s.bound)
  pub line-words : w.line_words ≡ padded lim.max_lines s.lines
  pub entry-words : w.entry_rows ≡ padded (entry_row_words * s.capacity) (concat_map entry_words s.entries)

-- equal lists in two parts, whose first parts have one length
split : (xs ys xs' ys' : List ℕ) (n : ℕ) → length xs ≡ n → length xs' ≡ n → xs ++ ys ≡ xs' ++ ys' → (xs ≡ xs') × (ys ≡ ys')
split xs ys xs' ys' n p q e =
    (rw (take_at xs ys n p, take_at xs' ys' n q) at (ap (take n) e), rw (drop_at xs ys n p, drop_at xs' ys' n q) at (ap (drop n) e))

module _ (lim : Limits) (w : Loaded) (s : State) where
  -- parts that hold the words of a state, one after the other
  pub whole : Holds lim w s → loaded_words w ≡ area_words lim s
  unfolding loaded_words area_words
  whole h =
      rw (
        h.the_capacity,
        h.terms-count,
        h.entries-count,
        h.lines-count,
        h.term_words,
        h.binding_words,
        h.line-words,
        h.entry-words,
      )

  -- the parts of the words of a sound state
  pub parts : Sized lim w → SoundFacts lim s → loaded_words w ≡ area_words lim s → Holds lim w s
  unfolding loaded_words area_words
  parts z f e =
      let first : _ = split w.term_rows _ _ _ (term_words * lim.max_terms) z.terms-long (length_nodes lim s f) (ap (drop 4) e) in
      let second : _ = split w.binding_words _ _ _ lim.max_terms z.bindings-long (length-bound lim s f) first.1 in
      let third : _ = split w.line_words _ _ _ lim.max_lines z.lines_long (length-lines lim s f) second.1 in
      record {
        the_capacity = ap (λ l. get_or l 0 0) e;
        terms-count = ap (λ l. get_or l 1 0) e;
        entries-count = ap (λ l. get_or l 2 0) e;
        lines-count = ap (λ l. get_or l 3 0) e;
        term_words = first.0;
        binding_words = second.0;
        line-words = third.0;
        entry-words = third.1;
      }

-- the count in the words of a node and of an entry
node-count : (n : Node) → length (arguments n) ≤ max_arity → get_or (node_words n) 1 0 ≤ max_arity
unfolding node_words arguments padded
node-count var h = zero-le
node-count (app s args) h = h

kind-count : (k : Kind) (rest : List ℕ) → length (kind_arguments k) ≤ max_arity → get_or (kind_words k ++ rest) 2 0 ≤ max_arity
unfolding kind_words kind_arguments padded
kind-count hole rest h = zero-le
kind-count (common s args) rest h = h

-- parts that hold the words of a sound state have their numbers and counts in range
pub holds_fits : (lim : Limits) (w : Loaded) (s : State) → SoundFacts lim s → Holds lim w s → Fits lim w
unfolding entry_words
holds_fits lim w s f h =
    let terms : w.terms ≡ length s.book = h.terms-count in
    let entries : w.entries ≡ length s.entries = h.entries-count in
    record {
      few-terms = omega arith;
      few-entries = omega arith;
      few-lines = omega arith;
      term-counts = λ t l.
          rw (h.term_words, padded-row node_words term_words var _ s.book (wide_nodes lim s f) t 1 (omega arith) (omega arith))
          (node-count (get_or s.book t var) (f.formed.small_arity t (omega arith)));
      entry-counts = λ i l.
          rw (h.entry-words, padded-row entry_words entry_row_words (hole_at 0 0 0) _ s.entries (wide-entries lim s f) i 4 (omega arith) (omega arith))
          (kind-count (entry s.entries i).kind ((entry s.entries i).same_as ∷ []) (entry_arity lim s f i (omega arith)));
    }
