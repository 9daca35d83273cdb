-- The words of a sound state: how many there are and what stands where. Assumes nothing.
use mathlib.Core.Path.{◌≡◌, refl, ap, ◌∙◌}
use mathlib.Core.List.{List, [], ◌∷◌, ◌++◌, map}
use mathlib.Core.Option.{none}
use Prim.Native.Nat.{ℕ, ◌+◌, ◌*◌, ◌-◌, ◌≤◌, ◌<◌, zero-le}
use native.Mathlib.Nat.{add_assoc}
use native.Mathlib.Omega.{arith}
use lib.ListN.{length, get_or, length-append, length-map, get_or-append, get_or-eq_default, get_or-map}
use Rattle.model.specs.Limits.{Limits, max_arity}
use Rattle.model.specs.Lists.{concat_map, padded}
use Rattle.model.specs.Term.{Node, var, arguments, root, Book, Bindings}
use Rattle.model.specs.Table.{Kind, hole, common, Entry, Table, entry, hole_at}
use Rattle.model.specs.Step.{State}
use Rattle.model.specs.Area.{header_words, term_words, entry_row_words, bindings_at, lines_at, entries_at, node_words, binding_word, entry_words, area_words}
use Rattle.model.specs.Report.{kind_arguments}
use Rattle.theory.proofs.Soundness.Facts.{SoundFacts, KindRight}
use Rattle.theory.proofs.Values.Equations.{deref-lt}
use Rattle.theory.proofs.Lists.Rows.{Wide, length-rows, length-padded, get_or-padded, get_or_behind, padded-row}
use Rattle.theory.proofs.Area.Rows.{width_node, width_entry}

-- a right kind has as many arguments as its left root
kind-count : (b : Book) (β : Bindings) (es : Table) (k : Kind) (l r : Node) → KindRight b β es k l r
    → length (kind_arguments k) ≤ length (arguments l)
unfolding kind_arguments
kind-count b β es hole l r h = zero-le
kind-count b β es (common s args) l r h = let e : length args ≡ length (arguments l) = h.count_left in omega arith

module _ (lim : Limits) (s : State) (f : SoundFacts lim s) where
  -- roots and entries have at most maxArity arguments
  pub root_arity : (t : ℕ) → t < length s.book → length (arguments (root s.book s.bound t)) ≤ max_arity
  unfolding root
  root_arity t l = f.formed.small_arity _ (deref-lt s.book s.bound f.formed f.acyclic t l)

  pub entry_arity : (i : ℕ) → i < length s.entries → length (kind_arguments (entry s.entries i).kind) ≤ max_arity
  entry_arity i l =
      let e : Entry = entry s.entries i in
      let c : length (kind_arguments e.kind) ≤ length (arguments (root s.book s.bound e.left)) =
      kind-count s.book s.bound s.entries e.kind _ _ (f.table.kind-right i l) in
      let r : length (arguments (root s.book s.bound e.left)) ≤ max_arity = root_arity e.left (f.table.left-term i l) in
      omega arith

  -- the rows have one width
  pub wide_nodes : Wide node_words term_words var s.book
  wide_nodes i l = width_node (get_or s.book i var) (f.formed.small_arity i l)

  pub wide-entries : Wide entry_words entry_row_words (hole_at 0 0 0) s.entries
  wide-entries i l = width_entry (entry s.entries i) (entry_arity i l)

  -- the parts of the area, and their lengths
  abbrev nodes_part : List ℕ
  nodes_part = padded (term_words * lim.max_terms) (concat_map node_words s.book)

  abbrev bound_part : List ℕ
  bound_part = padded lim.max_terms (map binding_word s.bound)

  abbrev lines_part : List ℕ
  lines_part = padded lim.max_lines s.lines

  abbrev entries_part : List ℕ
  entries_part = padded (entry_row_words * s.capacity) (concat_map entry_words s.entries)

  pub length_nodes : length nodes_part ≡ term_words * lim.max_terms
  length_nodes = length-padded _ _ (rw (length-rows node_words term_words var s.book wide_nodes) (omega arith))

  pub length-bound : length bound_part ≡ lim.max_terms
  length-bound = length-padded _ _ (rw length-map (omega arith))

  pub length-lines : length lines_part ≡ lim.max_lines
  length-lines = length-padded _ _ f.few-lines

  pub length-entries : length entries_part ≡ entry_row_words * s.capacity
  length-entries =
      length-padded _ _ (rw (length-rows entry_words entry_row_words (hole_at 0 0 0) s.entries wide-entries) (omega arith))

  pub length-area_words : length (area_words lim s) ≡ entries_at lim + entry_row_words * s.capacity
  unfolding area_words
  length-area_words =
      rw (length-append, length-append, length-append, length_nodes, length-bound, length-lines, length-entries) (omega arith)

  -- what stands behind the header, the nodes, the bindings and the lines
  behind_header : (i : ℕ) → get_or (area_words lim s) (header_words + i) 0 ≡ get_or (nodes_part ++ (bound_part ++ (lines_part ++ entries_part))) i 0
  unfolding area_words
  behind_header i =
      get_or_behind (s.capacity ∷ length s.book ∷ length s.entries ∷ length s.lines ∷ [])
      (nodes_part ++ (bound_part ++ (lines_part ++ entries_part))) header_words i 0 refl

  behind_nodes : (i : ℕ) → get_or (area_words lim s) (bindings_at lim + i) 0 ≡ get_or (bound_part ++ (lines_part ++ entries_part)) i 0
  behind_nodes i =
      rw add_assoc (behind_header (term_words * lim.max_terms + i) ∙ get_or_behind nodes_part _ (term_words * lim.max_terms) i 0 length_nodes)

  behind_bound : (i : ℕ) → get_or (area_words lim s) (lines_at lim + i) 0 ≡ get_or (lines_part ++ entries_part) i 0
  behind_bound i =
      rw (add_assoc (bindings_at lim)) (behind_nodes (lim.max_terms + i) ∙ get_or_behind bound_part _ lim.max_terms i 0 length-bound)

  behind_lines : (i : ℕ) → get_or (area_words lim s) (entries_at lim + i) 0 ≡ get_or entries_part i 0
  behind_lines i =
      rw (add_assoc (lines_at lim)) (behind_bound (lim.max_lines + i) ∙ get_or_behind lines_part _ lim.max_lines i 0 length-lines)

  -- the words of term t, of its binding, of line k and of entry i
  pub node-words : (t j : ℕ) → t < length s.book → j < term_words
      → get_or (area_words lim s) (header_words + term_words * t + j) 0 ≡ get_or (node_words (get_or s.book t var)) j 0
  node-words t j l m =
      let few : length s.book ≤ lim.max_terms = f.few-terms in
      rw (add_assoc header_words) (behind_header (term_words * t + j) ∙
      get_or-append nodes_part _ 0 (term_words * t + j) (rw length_nodes (omega arith)) ∙
      padded-row node_words term_words var (term_words * lim.max_terms) s.book wide_nodes t j l m)

  pub binding_words : (t : ℕ) → t < length s.book → get_or (area_words lim s) (bindings_at lim + t) 0 ≡ binding_word (get_or s.bound t none)
  unfolding binding_word
  binding_words t l =
      let few : length s.book ≤ lim.max_terms = f.few-terms in
      behind_nodes t ∙ get_or-append bound_part _ 0 t (rw length-bound (omega arith)) ∙
      get_or-padded lim.max_terms (map binding_word s.bound) t ∙ get_or-map binding_word s.bound t none

  pub line-words : (k : ℕ) → k < length s.lines → get_or (area_words lim s) (lines_at lim + k) 0 ≡ get_or s.lines k 0
  line-words k l =
      let few : length s.lines ≤ lim.max_lines = f.few-lines in
      behind_bound k ∙ get_or-append lines_part _ 0 k (rw length-lines (omega arith)) ∙ get_or-padded lim.max_lines s.lines k

  pub entry-words : (i j : ℕ) → i < length s.entries → j < entry_row_words
      → get_or (area_words lim s) (entries_at lim + entry_row_words * i + j) 0 ≡ get_or (entry_words (entry s.entries i)) j 0
  entry-words i j l m =
      rw (add_assoc (entries_at lim)) (behind_lines (entry_row_words * i + j) ∙
      padded-row entry_words entry_row_words (hole_at 0 0 0) (entry_row_words * s.capacity) s.entries wide-entries i j l m)

  -- the words behind those of the terms, of their bindings, of the lines and of the entries are 0
  pub nodes_zero : (i : ℕ) → header_words + term_words * length s.book ≤ i → i < bindings_at lim → get_or (area_words lim s) i 0 ≡ 0
  nodes_zero i l m =
      let e : i ≡ header_words + (i - header_words) = omega arith in
      let n : length (concat_map node_words s.book) ≡ term_words * length s.book =
      length-rows node_words term_words var s.book wide_nodes in
      ap (λ w. get_or (area_words lim s) w 0) e ∙ behind_header (i - header_words) ∙
      get_or-append nodes_part _ 0 (i - header_words) (rw length_nodes (omega arith)) ∙
      get_or-padded _ (concat_map node_words s.book) (i - header_words) ∙
      get_or-eq_default (concat_map node_words s.book) 0 (omega arith)

  pub bound_zero : (i : ℕ) → bindings_at lim + length s.book ≤ i → i < lines_at lim → get_or (area_words lim s) i 0 ≡ 0
  bound_zero i l m =
      let e : i ≡ bindings_at lim + (i - bindings_at lim) = omega arith in
      ap (λ w. get_or (area_words lim s) w 0) e ∙ behind_nodes (i - bindings_at lim) ∙
      get_or-append bound_part _ 0 (i - bindings_at lim) (rw length-bound (omega arith)) ∙
      get_or-padded _ (map binding_word s.bound) (i - bindings_at lim) ∙
      get_or-eq_default (map binding_word s.bound) 0 (rw length-map (omega (arith, f.formed.same_length)))

  pub lines_zero : (i : ℕ) → lines_at lim + length s.lines ≤ i → i < entries_at lim → get_or (area_words lim s) i 0 ≡ 0
  lines_zero i l m =
      let e : i ≡ lines_at lim + (i - lines_at lim) = omega arith in
      ap (λ w. get_or (area_words lim s) w 0) e ∙ behind_bound (i - lines_at lim) ∙
      get_or-append lines_part _ 0 (i - lines_at lim) (rw length-lines (omega arith)) ∙
      get_or-padded _ s.lines (i - lines_at lim) ∙ get_or-eq_default s.lines 0 (omega arith)

  pub entries_zero : (i : ℕ) → entries_at lim + entry_row_words * length s.entries ≤ i → get_or (area_words lim s) i 0 ≡ 0
  entries_zero i l =
      let e : i ≡ entries_at lim + (i - entries_at lim) = omega arith in
      let n : length (concat_map entry_words s.entries) ≡ entry_row_words * length s.entries =
      length-rows entry_words entry_row_words (hole_at 0 0 0) s.entries wide-entries in
      ap (λ w. get_or (area_words lim s) w 0) e ∙ behind_lines (i - entries_at lim) ∙
      get_or-padded _ (concat_map entry_words s.entries) (i - entries_at lim) ∙
      get_or-eq_default (concat_map entry_words s.entries) 0 (omega arith)
