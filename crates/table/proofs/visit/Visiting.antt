-- A visit of an entry in slices: it is common, or its roots are not alike, or it turns. Assumes nothing.
use Rattle.std.proofs.Common.{◌≡◌, refl, sym, ◌∙◌, List, ◌++◌, true, false, ◌&&◌, inl, inr, ℕ, ◌+◌, ◌*◌, ◌≤◌, ◌<◌, arith, length, get_or, take, drop}
use mathlib.Core.Bool.{and-false}
use Rattle.model.specs.Lists.{padded}
use Rattle.model.specs.Term.{alike, Book, Bindings, root}
use Rattle.model.specs.Table.{Kind, hole, common, is_hole, Table, entry, turn, visit}
use Rattle.model.specs.Area.{term_words, entry_row_words, entry_words, kind_words}
use Rattle.theory.proofs.Table.Place.{visit_cases}
use Rattle.theory.proofs.Table.WalkLength.{not_both, visit_idle}
use Rattle.layout.specs.limits.Rows.{at, node_of}
use Rattle.layout.specs.entry.Row.{row_of}
use Rattle.layout.specs.declared.entry.Entry.{Entry as Row}
use Rattle.soundness.proofs.kinds.Rows.{row-end, root-lt, root-row}
use Rattle.refusal.specs.declared.Refusal.{Refusal}
use Rattle.table.specs.place.Stands.{Reaches, IsFull}
use Rattle.table.specs.visit.Visiting.{ToVisit, Visits}
use Rattle.table.specs.declared.visit.Visited.{Visited}
use Rattle.table.proofs.place.Held.{held-row}
use Rattle.table.proofs.place.Placing.{stands-reaches}
use Rattle.table.proofs.visit.Turning.{row-left, row-right, row-kind, Turnable}

-- the word of a kind is 0 exactly for a hole
kind-common : (k : Kind) (rest : List ℕ) → (get_or (kind_words k ++ rest) 0 0 ≡ 0 → ⊥) → is_hole k ≡ false
unfolding kind_words is_hole padded
kind-common hole rest d = absurd (d refl)
kind-common (common s args) rest d = refl

kind-hole : (k : Kind) (rest : List ℕ) → get_or (kind_words k ++ rest) 0 0 ≡ 0 → is_hole k ≡ true
unfolding kind_words is_hole padded
kind-hole hole rest e = refl
kind-hole (common s args) rest e = absurd (omega arith)

-- a hole of alike roots turns
visit-turns : (b : Book) (β : Bindings) (es : Table) (i : ℕ) → is_hole (entry es i).kind ≡ true
    → alike (root b β (entry es i).left) (root b β (entry es i).right) ≡ true
    → visit b β es i ≡ turn b β es i (entry es i) (root b β (entry es i).left) (root b β (entry es i).right)
visit-turns b β es i h a =
    elim (visit_cases b β es i) [
      | inl p ↦ absurd (not_both _ _ h a p.0)
      | inr p ↦ p.2
    ]

module _ {rows roots names entries lefts rights cells : List ℕ} {capacity m i : ℕ} {b : Book} {β : Bindings} {es : Table}
    (q : ToVisit rows roots names entries lefts rights cells capacity m i b β es) (e : Row)
    (read : row_of e ≡ take entry_row_words (drop (entry_row_words * i) entries)) where
  here : i < length es
  here = omega (arith, q.there, q.stands.count)

  is-entry : row_of e ≡ entry_words (entry es i)
  is-entry = read ∙ held-row q.stands.held i here

  -- its sides are terms
  left-same : e.left ≡ (entry es i).left
  left-same = row-left e (entry es i) is-entry (q.stands.held.wide i here)

  right-same : e.right ≡ (entry es i).right
  right-same = row-right e (entry es i) is-entry (q.stands.held.wide i here)

  pub left_lt : e.left < length b
  left_lt = rw left-same (q.stands.names.left-term i here)

  pub right_lt : e.right < length b
  right_lt = rw right-same (q.stands.names.right-term i here)

  -- what they stand for has its arguments in its row
  pub left_end : term_words * at roots e.left + 2 + at rows (term_words * at roots e.left + 1) ≤ length rows
  left_end = row-end q.known.held _ (root-lt q.known left_lt)

  pub right_end : term_words * at roots e.right + 2 + at rows (term_words * at roots e.right + 1) ≤ length rows
  right_end = row-end q.known.held _ (root-lt q.known right_lt)

  left-root : root b β (entry es i).left ≡ node_of rows (at roots e.left)
  left-root = rw (← left-same) (root-row q.known left_lt)

  right-root : root b β (entry es i).right ≡ node_of rows (at roots e.right)
  right-root = rw (← right-same) (root-row q.known right_lt)

  kind-word : e.kind ≡ get_or (entry_words (entry es i)) 2 0
  kind-word = row-kind e (entry es i) is-entry (q.stands.held.wide i here)

  -- an entry that does not turn
  idle : is_hole (entry es i).kind && alike (root b β (entry es i).left) (root b β (entry es i).right) ≡ false
      → Visits entries lefts rights cells capacity i (record { turned = false; count = m }) b β es
  idle h = record { reaches = rw (visit_idle b β es i h) (stands-reaches q.stands); turned = sym h }

  -- it is common
  pub visit-common : (e.kind ≡ 0 → ⊥) → Visits entries lefts rights cells capacity i (record { turned = false; count = m }) b β es
  unfolding entry_words
  visit-common d = idle (rw (kind-common (entry es i).kind _ (λ z. d (kind-word ∙ z))))

  -- its roots are not alike
  pub visit_unlike : alike (node_of rows (at roots e.left)) (node_of rows (at roots e.right)) ≡ false
      → Visits entries lefts rights cells capacity i (record { turned = false; count = m }) b β es
  visit_unlike a = idle (rw (left-root, right-root, a) (and-false (is_hole (entry es i).kind)))

  -- it turns
  module _ (a : alike (node_of rows (at roots e.left)) (node_of rows (at roots e.right)) ≡ true) where
    pub turnable : Turnable rows names entries lefts rights cells capacity m i e (at roots e.left) (at roots e.right) b β es
    turnable =
        record {
          known = q.known.held;
          stands = q.stands;
          there = q.there;
          is-entry = is-entry;
          left-term = root-lt q.known left_lt;
          right-term = root-lt q.known right_lt;
          are_alike = a;
        }

    module _ (z : e.kind ≡ 0) where
      turns : visit b β es i ≡ turn b β es i (entry es i) (node_of rows (at roots e.left)) (node_of rows (at roots e.right))
      unfolding entry_words
      turns =
          let h : is_hole (entry es i).kind ≡ true = kind-hole (entry es i).kind _ (sym kind-word ∙ z) in
          rw (visit-turns b β es i h (rw (left-root, right-root) a), left-root, right-root)

      pub visit_full : {x : Refusal} → IsFull capacity x (turn b β es i (entry es i) (node_of rows (at roots e.left)) (node_of rows (at roots e.right)))
          → IsFull capacity x (visit b β es i)
      visit_full f = rw turns f

      pub visit-turned : {v : Visited} {count : ℕ} {entries' lefts' rights' cells' : List ℕ} → v ≡ record { turned = true; count = count }
          → Reaches entries' lefts' rights' cells' capacity count b β
          (turn b β es i (entry es i) (node_of rows (at roots e.left)) (node_of rows (at roots e.right)))
          → Visits entries' lefts' rights' cells' capacity i v b β es
      unfolding entry_words
      visit-turned answer reaches =
          let h : is_hole (entry es i).kind ≡ true = kind-hole (entry es i).kind _ (sym kind-word ∙ z) in
          rw answer (record { reaches = rw turns reaches; turned = rw (h, left-root, right-root) (sym a) })
