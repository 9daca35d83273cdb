-- Laying the header and the term rows into an area and clearing the rest gives the bytes of a state just opened. Assumes
-- nothing.
use Rattle.std.proofs.Common.{◌≡◌, refl, ap, ◌∙◌, List, [], ◌∷◌, ◌++◌, map, append_assoc, ℕ, zero, suc, ◌+◌, ◌*◌, ◌-◌, ◌≤◌, zero-le, arith, length, drop, replicate, length-append, take_at, drop-drop, add-sub_of_le}
use Rattle.std.proofs.Math.Option.{none}
use Rattle.std.proofs.Math.ListN.{length-replicate, replicate-append-replicate}
use Rattle.model.specs.Limits.{Limits}
use Rattle.model.specs.Lists.{concat_map, padded}
use Rattle.model.specs.Term.{Node, Book}
use Rattle.model.specs.Step.{opened}
use Rattle.model.specs.Area.{word_size, header_words, term_words, entry_row_words, bindings_at, to_bytes, node_words, binding_word, area_words, area_length}
use Rattle.model.specs.Call.{over}
use Rattle.theory.proofs.Lists.Laws.{concat_map-append}
use Rattle.theory.proofs.Area.Words.{length-words}
use Rattle.layout.specs.words.Words.{laid, cleared}
use Rattle.layout.proofs.words.Behind.{drop_behind, laid_behind}
use Rattle.area.specs.save.Opened.{opened_words}

-- words of zero are bytes of zero
zero_bytes : (n : ℕ) → concat_map (to_bytes word_size) (replicate n 0) ≡ replicate (word_size * n) 0
unfolding concat_map to_bytes
zero_bytes zero = refl
zero_bytes (suc n) =
    let e : word_size * suc n ≡ suc (suc (suc (suc (word_size * n)))) = omega arith in
    rw e (ap (λ xs. 0 ∷ 0 ∷ 0 ∷ 0 ∷ xs) (zero_bytes n))

-- zeros behind zeros
padded-zeros : (n k : ℕ) → k ≤ n → padded n (replicate k 0) ≡ replicate n 0
unfolding padded
padded-zeros n k h =
    rw (length-replicate, replicate-append-replicate) (ap (λ m. replicate m 0) (add-sub_of_le h))

-- nothing is bound
no_bindings : (b : Book) → map binding_word (map (λ (n : Node). none) b) ≡ replicate (length b) 0
unfolding binding_word
no_bindings [] = refl
no_bindings (n ∷ b) = ap (λ xs. 0 ∷ xs) (no_bindings b)

-- the bindings, the lines and the entries of a state just opened
opened-zeros : (lim : Limits) (b : Book) (c : ℕ) → length b ≤ lim.max_terms
    → padded lim.max_terms (map binding_word (map (λ (n : Node). none) b)) ++ (padded lim.max_lines [] ++ padded (entry_row_words * c) [])
    ≡ replicate (lim.max_terms + lim.max_lines + entry_row_words * c) 0
opened-zeros lim b c h =
    let e : lim.max_terms + (lim.max_lines + entry_row_words * c) ≡ lim.max_terms + lim.max_lines + entry_row_words * c = omega arith in
    rw (
      no_bindings b,
      padded-zeros lim.max_terms (length b) h,
      padded-zeros lim.max_lines 0 zero-le,
      padded-zeros (entry_row_words * c) 0 zero-le,
      replicate-append-replicate lim.max_lines,
      replicate-append-replicate lim.max_terms,
    )
    (ap (λ m. replicate m 0) e)

-- the words of a state just opened
pub opened-words : (lim : Limits) (b : Book) (c : ℕ) → length b ≤ lim.max_terms
    → area_words lim (opened b c) ≡ opened_words lim c (length b) (padded (term_words * lim.max_terms) (concat_map node_words b))
unfolding area_words opened opened_words concat_map
opened-words lim b c h =
    ap (λ xs. c ∷ length b ∷ 0 ∷ 0 ∷ (padded (term_words * lim.max_terms) (concat_map node_words b) ++ xs)) (opened-zeros lim b c h)

-- zeros behind a first part
cleared_behind : (p rest : List ℕ) (a e : ℕ) → length p ≡ a → a ≤ e → cleared (p ++ rest) a e ≡ (p ++ replicate (e - a) 0) ++ drop (e - a) rest
unfolding cleared
cleared_behind p rest a e h g =
    rw (take_at p rest a h, drop_behind p rest a (e - a) e h (omega arith), append_assoc)

module _ (lim : Limits) (c terms : ℕ) (rows : List ℕ) where
  -- the header's bytes, with the rows' bytes behind them, and zeros behind these
  header : List ℕ
  header = c ∷ terms ∷ 0 ∷ 0 ∷ []

  front : List ℕ
  front = concat_map (to_bytes word_size) header ++ concat_map (to_bytes word_size) rows

  zeros : ℕ
  zeros = word_size * (lim.max_terms + lim.max_lines + entry_row_words * c)

  opened-bytes : concat_map (to_bytes word_size) (opened_words lim c terms rows) ≡ front ++ replicate zeros 0
  unfolding opened_words header front zeros
  opened-bytes =
      let n = lim.max_terms + lim.max_lines + entry_row_words * c in
      concat_map-append (to_bytes word_size) (c ∷ terms ∷ 0 ∷ 0 ∷ []) (rows ++ replicate n 0)
      ∙ rw (concat_map-append (to_bytes word_size) rows (replicate n 0), zero_bytes n, append_assoc)

  length_front : length rows ≡ term_words * lim.max_terms → length front ≡ word_size * bindings_at lim
  unfolding header front
  length_front h =
      rw (
        length-append (concat_map (to_bytes word_size) (c ∷ terms ∷ 0 ∷ 0 ∷ [])) (concat_map (to_bytes word_size) rows),
        length-words word_size (c ∷ terms ∷ 0 ∷ 0 ∷ []),
        length-words word_size rows,
        h,
      )
      (omega arith)

  -- what lies behind the needed length
  behind : (area : List ℕ) → length rows ≡ term_words * lim.max_terms
      → drop zeros (drop (word_size * length rows) (drop (word_size * header_words) area)) ≡ drop (length (front ++ replicate zeros 0)) area
  behind area h =
      let e : word_size * header_words + (word_size * length rows + zeros) ≡ length (front ++ replicate zeros 0) =
      omega (arith, length-append front (replicate zeros 0), length_front h, length-replicate {A = ℕ} zeros 0) in
      rw (drop-drop zeros (word_size * length rows), drop-drop (word_size * length rows + zeros) (word_size * header_words)) (ap (λ n. drop n area) e)

  -- Three writes one after the other: the header, the rows, and zeros up to the needed length.
  pub laid-opened : (area : List ℕ) → length rows ≡ term_words * lim.max_terms
      → cleared (laid (laid area 0 (c ∷ terms ∷ 0 ∷ 0 ∷ [])) header_words rows) (word_size * bindings_at lim) (area_length lim c)
      ≡ over (concat_map (to_bytes word_size) (opened_words lim c terms rows)) area
  unfolding area_length over header front zeros
  laid-opened area h =
      let rest = drop (word_size * length rows) (drop (word_size * header_words) area) in
      let e : area_length lim c - word_size * bindings_at lim ≡ zeros = omega arith in
      rw (
        laid_behind [] area 0 (c ∷ terms ∷ 0 ∷ 0 ∷ []) refl,
        laid_behind (concat_map (to_bytes word_size) header) (drop (word_size * header_words) area) header_words rows (length-words word_size header),
        cleared_behind front rest (word_size * bindings_at lim) (area_length lim c) (length_front h) (omega arith),
        e,
        opened-bytes,
        behind area h,
      )
