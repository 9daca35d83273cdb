-- The header and the parts, laid one behind the other, are the words of the whole state. Assumes nothing.
use Rattle.std.proofs.Common.{◌≡◌, ◌∙◌, List, [], ◌∷◌, ◌++◌, append_assoc, ℕ, arith, length, length-append}
use Rattle.model.specs.Limits.{Limits}
use Rattle.model.specs.Lists.{concat_map}
use Rattle.model.specs.Area.{word_size, header_words, bindings_at, lines_at, entries_at, to_bytes}
use Rattle.model.specs.Call.{over}
use Rattle.layout.specs.limits.Rows.{Loaded, Sized, loaded_words}
use Rattle.layout.specs.words.Words.{laid}
use Rattle.layout.proofs.words.Behind.{laid-first, laid_next}

-- words behind words that are laid at the front already
next : (area a a' xs ys : List ℕ) (start : ℕ) → a ≡ over (concat_map (to_bytes word_size) xs) area → length xs ≡ start → a' ≡ laid a start ys
    → a' ≡ over (concat_map (to_bytes word_size) (xs ++ ys)) area
next area a a' xs ys start h e g = g ∙ rw h (laid_next area xs ys start e)

module _ (lim : Limits) (w : Loaded) (z : Sized lim w) (area : List ℕ) where
  abbrev header : List ℕ
  header = w.capacity ∷ w.terms ∷ w.entries ∷ w.lines ∷ []

  abbrev front : List ℕ
  front = header ++ w.term_rows

  -- as far as each part the words are those before its first word
  pub stored : (a₁ a₂ a₃ a₄ a₅ : List ℕ) (i j k : ℕ) → a₁ ≡ laid area 0 header → a₂ ≡ laid a₁ header_words w.term_rows → i ≡ bindings_at lim
      → a₃ ≡ laid a₂ i w.binding_words → j ≡ lines_at lim → a₄ ≡ laid a₃ j w.line_words → k ≡ entries_at lim
      → a₅ ≡ laid a₄ k w.entry_rows → a₅ ≡ over (concat_map (to_bytes word_size) (loaded_words w)) area
  unfolding loaded_words
  stored a₁ a₂ a₃ a₄ a₅ i j k h₁ h₂ p h₃ q h₄ r h₅ =
      let rows : length w.term_rows ≡ _ = z.terms-long in
      let bindings : length w.binding_words ≡ _ = z.bindings-long in
      let lines : length w.line_words ≡ _ = z.lines_long in
      let to-bindings : length front ≡ i = omega arith in
      let to-lines : length (front ++ w.binding_words) ≡ j = rw (length-append front) (omega arith) in
      let to-entries : length ((front ++ w.binding_words) ++ w.line_words) ≡ k =
      rw (length-append (front ++ w.binding_words), length-append front) (omega arith) in
      let s₂ = next area a₁ a₂ header w.term_rows header_words (h₁ ∙ laid-first area header) (omega arith) h₂ in
      let s₃ = next area a₂ a₃ front w.binding_words i s₂ to-bindings h₃ in
      let s₄ = next area a₃ a₄ (front ++ w.binding_words) w.line_words j s₃ to-lines h₄ in
      next area a₄ a₅ ((front ++ w.binding_words) ++ w.line_words) w.entry_rows k s₄ to-entries h₅ ∙ simp append_assoc
