-- Rows that hold a table: what is read there, and what is put there. Assumes nothing.
use Rattle.std.proofs.Common.{◌≡◌, ap, sym, ◌∙◌, List, [], ◌∷◌, ◌++◌, append_assoc, append-nil, ◌⊎◌, inl, inr, ℕ, zero, suc, ◌*◌, ◌-◌, ◌≤◌, ◌<◌, arith, length, get_or, take, drop, set, replicate, length-append, length-set, length-take-le, take_at, drop_at, take_all, get_or-take, get_or-set_same, get_or-set_other}
use Rattle.std.proofs.Math.Numerals.{unary_clauses}
use Rattle.std.proofs.Math.ListN.{get_or-append}
use Rattle.std.proofs.Math.Seq.{paste, length-paste, split_at, set_split, get_or-append_seam}
use Rattle.model.specs.Lists.{concat_map, padded}
use Rattle.model.specs.Table.{Entry, Table, hole_at, entry}
use Rattle.model.specs.Area.{entry_row_words, entry_words}
use Rattle.theory.proofs.Lists.Laws.{concat_map-append}
use Rattle.theory.proofs.Lists.Rows.{Wide, drop_behind, length-rows, row}
use Rattle.theory.proofs.Table.Search.{lt-or-le, eq-or-not}
use Rattle.table.specs.place.Stands.{HoldsTable}

-- a list put behind another one of length n
paste_behind : (xs ys zs : List ℕ) (n w : ℕ) → length xs ≡ n → length zs ≡ w → paste (xs ++ ys) n zs w ≡ xs ++ (zs ++ drop w ys)
paste_behind xs ys zs n w p q =
    rw (take_at xs ys n p, take_all w zs (omega arith), drop_behind xs ys n w p) (append_assoc xs zs (drop w ys))

drop-zeros : (w k : ℕ) → drop {A = ℕ} w (replicate k 0) ≡ replicate (k - w) 0
drop-zeros zero k = simp unary_clauses
drop-zeros (suc w) zero =
    let none : 0 - suc w ≡ 0 = omega arith in
    rw none
drop-zeros (suc w) (suc k) = simp unary_clauses (drop-zeros w k)

module _ {A : Type 0} (f : A → List ℕ) (w : ℕ) (d : A) (xs : List A) (h : Wide f w d xs) (x : A) (e : length (f x) ≡ w) where
  -- the rows before row i
  length_before : (i : ℕ) → i < length xs → length (concat_map f (take i xs)) ≡ w * i
  length_before i l =
      let long : length (take i xs) ≡ i = length-take-le i xs (omega arith) in
      length-rows f w d (take i xs) (λ j k. rw (get_or-take i xs j d (omega arith)) (h j (omega arith))) ∙ ap (λ k. w * k) long

  -- row i put anew, and a row put behind them
  row-set : (rest : List ℕ) (i : ℕ) → i < length xs → paste (concat_map f xs ++ rest) (w * i) (f x) w ≡ concat_map f (set xs i x) ++ rest
  unfolding concat_map
  row-set rest i l =
      let before : List ℕ = concat_map f (take i xs) in
      let behind : List ℕ = concat_map f (drop (suc i) xs) in
      let old : concat_map f xs ≡ before ++ (f (get_or xs i d) ++ behind) =
      ap (concat_map f) (split_at xs i d l) ∙ concat_map-append f (take i xs) (get_or xs i d ∷ drop (suc i) xs) in
      let new : concat_map f (set xs i x) ≡ before ++ (f x ++ behind) =
      ap (concat_map f) (set_split xs i x l) ∙ concat_map-append f (take i xs) (x ∷ drop (suc i) xs) in
      rw (
        old,
        new,
        append_assoc before (f (get_or xs i d) ++ behind) rest,
        paste_behind before _ (f x) (w * i) w (length_before i l) e,
        append_assoc (f (get_or xs i d)) behind rest,
        drop_at (f (get_or xs i d)) (behind ++ rest) w (h i l),
        append_assoc before (f x ++ behind) rest,
        append_assoc (f x) behind rest,
      )

  row_behind : (rest : List ℕ) → paste (concat_map f xs ++ rest) (w * length xs) (f x) w ≡ concat_map f (xs ++ x ∷ []) ++ drop w rest
  unfolding concat_map
  row_behind rest =
      rw (
        paste_behind (concat_map f xs) rest (f x) (w * length xs) w (length-rows f w d xs h) e,
        concat_map-append f xs (x ∷ []),
        append-nil (f x),
        append_assoc (concat_map f xs) (f x) (drop w rest),
      )

-- a table with entry i set, or with one entry more, has rows of one width where the new entry has
wide-set : (es : Table) (i : ℕ) (e : Entry) → Wide entry_words entry_row_words (hole_at 0 0 0) es → length (entry_words e) ≡ entry_row_words
    → (j : ℕ) → j < length es → (j ≡ i) ⊎ (j ≡ i → ⊥) → length (entry_words (entry (set es i e) j)) ≡ entry_row_words
wide-set es i e h n j l (inl p) = rw (p, get_or-set_same es i e (hole_at 0 0 0) (omega arith)) n
wide-set es i e h n j l (inr p) = rw (get_or-set_other es i j e (hole_at 0 0 0) p) (h j l)

wide-more : (es : Table) (e : Entry) → Wide entry_words entry_row_words (hole_at 0 0 0) es → length (entry_words e) ≡ entry_row_words
    → (j : ℕ) → j < suc (length es) → (j < length es) ⊎ (length es ≤ j) → length (entry_words (entry (es ++ e ∷ []) j)) ≡ entry_row_words
wide-more es e h n j l (inl p) = rw (get_or-append es (e ∷ []) (hole_at 0 0 0) j p) (h j p)
wide-more es e h n j l (inr p) =
    let here : j ≡ length es = omega arith in
    rw (here, get_or-append_seam es e [] (hole_at 0 0 0)) n

module _ {entries : List ℕ} {es : Table} (h : HoldsTable entries es) where
  long : length (concat_map entry_words es) ≡ entry_row_words * length es
  long = length-rows entry_words entry_row_words (hole_at 0 0 0) es h.wide

  -- row i
  pub held-row : (i : ℕ) → i < length es → take entry_row_words (drop (entry_row_words * i) entries) ≡ entry_words (entry es i)
  unfolding padded
  held-row i l =
      ap (λ (ws : List ℕ). take entry_row_words (drop (entry_row_words * i) ws)) h.words ∙
      row entry_words entry_row_words (hole_at 0 0 0) es _ h.wide i l

  module _ (e : Entry) (n : length (entry_words e) ≡ entry_row_words) where
    -- entry i put anew
    pub held-set : (i : ℕ) → i < length es → HoldsTable (paste entries (entry_row_words * i) (entry_words e) entry_row_words) (set es i e)
    unfolding padded
    held-set i l =
        let size : length (paste entries (entry_row_words * i) (entry_words e) entry_row_words) ≡ length entries =
        length-paste entries (entry_row_words * i) (entry_words e) entry_row_words (omega (arith, h.fits)) (omega arith) in
        let wide : Wide entry_words entry_row_words (hole_at 0 0 0) (set es i e) =
        λ j k. wide-set es i e h.wide n j (rw length-set at k) (eq-or-not j i) in
        let same : length (concat_map entry_words (set es i e)) ≡ length (concat_map entry_words es) =
        length-rows entry_words entry_row_words (hole_at 0 0 0) (set es i e) wide ∙ rw length-set (sym long) in
        record {
          words = rw (size, same)
              (ap (λ (ws : List ℕ). paste ws (entry_row_words * i) (entry_words e) entry_row_words) h.words ∙
              row-set entry_words entry_row_words (hole_at 0 0 0) es h.wide e n _ i l);
          fits = rw (size, length-set) h.fits;
          wide = wide;
        }

    -- one entry more
    pub held_more : entry_row_words * suc (length es) ≤ length entries
        → HoldsTable (paste entries (entry_row_words * length es) (entry_words e) entry_row_words) (es ++ e ∷ [])
    unfolding padded
    held_more l =
        let size : length (paste entries (entry_row_words * length es) (entry_words e) entry_row_words) ≡ length entries =
        length-paste entries (entry_row_words * length es) (entry_words e) entry_row_words (omega arith) (omega arith) in
        let more : length (es ++ e ∷ []) ≡ suc (length es) = rw length-append (omega arith) in
        let wide : Wide entry_words entry_row_words (hole_at 0 0 0) (es ++ e ∷ []) =
        λ j k. wide-more es e h.wide n j (rw more at k) (lt-or-le j (length es)) in
        let left : length entries - length (concat_map entry_words (es ++ e ∷ [])) ≡ length entries - length (concat_map entry_words es) - entry_row_words =
        omega (arith, length-rows entry_words entry_row_words (hole_at 0 0 0) (es ++ e ∷ []) wide, long, more) in
        record {
          words = rw (size, left, ← drop-zeros entry_row_words (length entries - length (concat_map entry_words es)))
              (ap (λ (ws : List ℕ). paste ws (entry_row_words * length es) (entry_words e) entry_row_words) h.words ∙
              row_behind entry_words entry_row_words (hole_at 0 0 0) es h.wide e n _);
          fits = rw (size, more) l;
          wide = wide;
        }
