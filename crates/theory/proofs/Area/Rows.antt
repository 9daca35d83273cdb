-- The rows of an area: their widths, and what is read from a row is what was written. Assumes nothing.
use mathlib.Core.Path.{◌≡◌, ap, ap₂, sym, ◌∙◌}
use mathlib.Core.List.{List, [], ◌∷◌, ◌++◌}
use mathlib.Core.Option.{Option, none, some}
use Prim.Native.Nat.{ℕ, suc, ◌+◌, ◌-◌, ◌≤◌, ◌<◌, zero-le}
use native.Mathlib.Nat.{add-zero, add_assoc}
use native.Mathlib.Omega.{arith}
use borrow.Author.Tests.{ne_eqb}
use lib.ListN.{length, get_or, drop, length-append, get_or-append}
use lib.Seq.{get_or-drop, get_or_at}
use Rattle.model.specs.Limits.{max_arity}
use Rattle.model.specs.Lists.{padded}
use Rattle.model.specs.Term.{Node, var, app, arguments}
use Rattle.model.specs.Table.{Kind, hole, common, Entry}
use Rattle.model.specs.Report.{kind_arguments}
use Rattle.model.specs.Area.{term_words, entry_row_words, node_words, binding_word, kind_words, entry_words, word, words_at, node_at, binding_at, kind_at, entry_at}
use Rattle.theory.proofs.Lists.Rows.{map-from, length-padded, get_or-padded}

-- the widths of the rows of a node and an entry, and of a kind's part of it
pub width_node : (n : Node) → length (arguments n) ≤ max_arity → length (node_words n) ≡ term_words
unfolding node_words arguments
width_node var h = length-padded term_words [] zero-le
width_node (app s args) h = rw (length-padded max_arity args h)

pub width_kind : (k : Kind) → length (kind_arguments k) ≤ max_arity → length (kind_words k) ≡ 3 + max_arity
unfolding kind_words kind_arguments
width_kind hole h = length-padded (3 + max_arity) [] zero-le
width_kind (common s args) h = rw (length-padded max_arity args h)

pub width_entry : (e : Entry) → length (kind_arguments e.kind) ≤ max_arity → length (entry_words e) ≡ entry_row_words
unfolding entry_words
width_entry e h = rw (length-append, width_kind e.kind h)

-- at word i of the area stand the first n numbers of xs
abbrev pub Stands : List ℕ → ℕ → ℕ → List ℕ → Type 0
Stands area i n xs = (j : ℕ) → j < n → word area (i + j) ≡ get_or xs j 0

module _ (area : List ℕ) where
  -- the first of them, and those behind the first k
  stands-first : (i n : ℕ) (xs : List ℕ) → 0 < n → Stands area i n xs → word area i ≡ get_or xs 0 0
  stands-first i n xs l h = rw add-zero at (h 0 l)

  pub stands-drop : (i k n : ℕ) (xs : List ℕ) → Stands area i (k + n) xs → Stands area (i + k) n (drop k xs)
  stands-drop i k n xs h j l = rw add_assoc (h (k + j) (omega arith) ∙ sym (get_or-drop k xs j 0))

  -- a padded list is read back
  words_stand : (i : ℕ) (args : List ℕ) → length args ≤ max_arity → Stands area i max_arity (padded max_arity args)
      → words_at area i (length args) ≡ args
  unfolding words_at
  words_stand i args h g = map-from (word area) i args 0 (λ j l. g j (omega arith) ∙ get_or-padded max_arity args j)

  -- a node, a binding, a kind and an entry are read back
  pub node-stands : (i : ℕ) (n : Node) → length (arguments n) ≤ max_arity → Stands area i term_words (node_words n) → node_at area i ≡ n
  unfolding node_at node_words arguments
  node-stands i var h g = rw (stands-first i term_words (padded term_words []) (omega arith) g, get_or-padded term_words [] 0)
  node-stands i (app s args) h g =
      let xs : List ℕ = suc s ∷ length args ∷ padded max_arity args in
      rw (stands-first i term_words xs (omega arith) g, g 1 (omega arith), ne_eqb (suc s) 0 (λ z. omega arith))
      (ap₂ app (omega arith) (words_stand (i + 2) args h (stands-drop i 2 max_arity xs g)))

  pub binding_stands : (i : ℕ) (o : Option ℕ) → word area i ≡ binding_word o → binding_at area i ≡ o
  unfolding binding_at binding_word
  binding_stands i none e = rw e
  binding_stands i (some t) e = rw (e, ne_eqb (suc t) 0 (λ z. omega arith)) (ap {B = Option ℕ} some (omega arith))

  pub kind-stands : (i : ℕ) (k : Kind) → length (kind_arguments k) ≤ max_arity → Stands area i (3 + max_arity) (kind_words k)
      → kind_at area i ≡ k
  unfolding kind_at kind_words kind_arguments
  kind-stands i hole h g = rw (stands-first i (3 + max_arity) (padded (3 + max_arity) []) (omega arith) g, get_or-padded (3 + max_arity) [] 0)
  kind-stands i (common s args) h g =
      let xs : List ℕ = 1 ∷ s ∷ length args ∷ padded max_arity args in
      rw (stands-first i (3 + max_arity) xs (omega arith) g, g 1 (omega arith), g 2 (omega arith))
      (ap (common s) (words_stand (i + 3) args h (stands-drop i 3 max_arity xs g)))

  pub entry-stands : (i : ℕ) (e : Entry) → length (kind_arguments e.kind) ≤ max_arity → Stands area i entry_row_words (entry_words e)
      → entry_at area i ≡ e
  unfolding entry_at entry_words
  entry-stands i e h g =
      let k : List ℕ = kind_words e.kind in
      let w : length k ≡ 3 + max_arity = width_kind e.kind h in
      let first : word area i ≡ e.left = stands-first i entry_row_words (entry_words e) (omega arith) g in
      let behind : Stands area (i + 2) (4 + max_arity) (k ++ e.same_as ∷ []) =
      stands-drop i 2 (4 + max_arity) (e.left ∷ e.right ∷ k ++ e.same_as ∷ []) g in
      let middle : kind_at area (i + 2) ≡ e.kind =
      kind-stands (i + 2) e.kind h (λ j l. behind j (omega arith) ∙ get_or-append k (e.same_as ∷ []) 0 j (omega arith)) in
      let last : word area (i + entry_row_words - 1) ≡ e.same_as =
      ap (word area) (omega arith) ∙ behind (3 + max_arity) (omega arith) ∙ get_or_at k e.same_as [] 0 (3 + max_arity) w in
      λ p. record { left = first p; right = g 1 (omega arith) p; kind = middle p; same_as = last p }
