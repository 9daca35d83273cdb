-- The fields of an entry that was read, as words of its row. Assumes nothing.
use Rattle.std.proofs.Common.{◌≡◌, ap, sym, ◌∙◌, List, [], ◌∷◌, ◌++◌, append_assoc, ℕ, ◌+◌, ◌*◌, ◌-◌, ◌≤◌, ◌<◌, add-zero, arith, length, get_or, take, drop, take-append-drop, length-append, length-drop, length-take-le, take_at, drop-drop, get_or-take, get_or-drop}
use Rattle.std.proofs.Math.Seq.{get_or_at}
use Rattle.model.specs.Limits.{max_arity}
use Rattle.model.specs.Area.{entry_row_words}
use Rattle.layout.specs.declared.entry.Entry.{Entry as Row}
use Rattle.layout.specs.entry.Row.{row_of}
use Rattle.layout.specs.limits.Rows.{at}

module _ (entries : List ℕ) (i : ℕ) (within : entry_row_words * i + entry_row_words ≤ length entries) (e : Row)
    (read : row_of e ≡ take entry_row_words (drop (entry_row_words * i) entries)) where
  word : (k : ℕ) → k < entry_row_words → get_or (row_of e) k 0 ≡ at entries (entry_row_words * i + k)
  word k l = rw (read, get_or-take entry_row_words (drop (entry_row_words * i) entries) k 0 l, get_or-drop)

  pub left-read : e.left ≡ at entries (entry_row_words * i)
  unfolding row_of
  left-read = rw add-zero at (word 0 (omega arith))

  pub right-read : e.right ≡ at entries (entry_row_words * i + 1)
  unfolding row_of
  right-read = word 1 (omega arith)

  pub kind-read : e.kind ≡ at entries (entry_row_words * i + 2)
  unfolding row_of
  kind-read = word 2 (omega arith)

  pub symbol-read : e.symbol ≡ at entries (entry_row_words * i + 3)
  unfolding row_of
  symbol-read = word 3 (omega arith)

  pub count-read : e.count ≡ at entries (entry_row_words * i + 4)
  unfolding row_of
  count-read = word 4 (omega arith)

  pub arguments-long : length e.arguments ≡ max_arity
  unfolding row_of
  arguments-long =
      let row : length (take entry_row_words (drop (entry_row_words * i) entries)) ≡ entry_row_words =
      length-take-le entry_row_words (drop (entry_row_words * i) entries) (rw length-drop (omega arith)) in
      omega (arith, simp length-append at (ap length read ∙ row))

  pub same_as_read : e.same_as ≡ at entries (entry_row_words * i + entry_row_words - 1)
  unfolding row_of
  same_as_read =
      let last : entry_row_words * i + entry_row_words - 1 ≡ entry_row_words * i + 13 = omega arith in
      rw last (sym (get_or_at e.arguments e.same_as [] 0 max_arity arguments-long) ∙ word 13 (omega arith))

  pub arguments-read : e.arguments ≡ take max_arity (drop (entry_row_words * i + 5) entries)
  unfolding row_of
  arguments-read =
      let rest : List ℕ = drop entry_row_words (drop (entry_row_words * i) entries) in
      let row : row_of e ++ rest ≡ drop (entry_row_words * i) entries =
      ap (λ (ws : List ℕ). ws ++ rest) read ∙ take-append-drop entry_row_words (drop (entry_row_words * i) entries) in
      rw (← drop-drop 5 (entry_row_words * i) entries, ← row, append_assoc e.arguments (e.same_as ∷ []) rest)
      (sym (take_at e.arguments (e.same_as ∷ rest) max_arity arguments-long))
