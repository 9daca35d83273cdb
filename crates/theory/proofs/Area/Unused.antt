-- The rows of an area and their unused places: the words of a row are those of what is read from it exactly where they are 0.
-- Assumes nothing.
use mathlib.Core.Path.{◌≡◌, refl, ap, sym, ◌∙◌}
use mathlib.Core.List.{List, [], ◌∷◌, ◌++◌}
use mathlib.Core.Bool.{Bool, true, false, cond}
use mathlib.Core.Logic.{◌⊎◌, inl, inr}
use mathlib.Core.Option.{none, some}
use Prim.Native.Nat.{ℕ, zero, suc, ◌+◌, ◌-◌, ◌≤◌, ◌<◌}
use native.Mathlib.Nat.{add-zero}
use native.Mathlib.Omega.{arith}
use borrow.Author.Tests.{eqb-true, eqb-false, eq-eqb}
use lib.ListN.{length, get_or, get_or-append, get_or-eq_default}
use lib.Seq.{get_or_at}
use lib.Dec.{eqb}
use Rattle.model.specs.Limits.{max_arity}
use Rattle.model.specs.Lists.{padded}
use Rattle.model.specs.Term.{Node, var, app}
use Rattle.model.specs.Table.{Kind, hole, common}
use Rattle.model.specs.Report.{kind_arguments}
use Rattle.model.specs.Area.{term_words, entry_row_words, node_words, binding_word, kind_words, entry_words, word, words_at, node_at, binding_at, kind_at, entry_at}
use Rattle.theory.specs.SoundArea.{Zeros}
use Rattle.theory.proofs.Lists.Rows.{get_or-padded}
use Rattle.theory.proofs.Lists.From.{length-map-from, get_or-map-from}
use Rattle.theory.proofs.Table.Search.{lt-or-le}
use Rattle.theory.proofs.Area.Rows.{Stands, stands-drop, width_kind}

module _ (area : List ℕ) where
  -- zeros are a padded nothing
  zeros_stand : (i n : ℕ) → Zeros area i (i + n) → Stands area i n (padded n [])
  zeros_stand i n z j l = z (i + j) (omega arith) (omega arith) ∙ sym (get_or-padded n [] j)

  stand_zeros : (i n : ℕ) → Stands area i n (padded n []) → Zeros area i (i + n)
  stand_zeros i n h w l m =
      let e : w ≡ i + (w - i) = omega arith in
      ap (word area) e ∙ h (w - i) (omega arith) ∙ get_or-padded n [] (w - i)

  -- c words and zeros behind them are a padded list
  past_words : (i c j : ℕ) → c ≤ j → get_or (words_at area i c) j 0 ≡ 0
  unfolding words_at
  past_words i c j l =
      let n : length (words_at area i c) ≡ c = length-map-from (word area) i c in
      get_or-eq_default (words_at area i c) 0 (omega arith)

  words-padded : (i c : ℕ) → Zeros area (i + c) (i + max_arity) → Stands area i max_arity (padded max_arity (words_at area i c))
  unfolding words_at
  words-padded i c z j l = sym (get_or-padded max_arity (words_at area i c) j ∙ go (lt-or-le j c))
    where
      go : (j < c) ⊎ (c ≤ j) → get_or (words_at area i c) j 0 ≡ word area (i + j)
      go (inl m) = get_or-map-from (word area) i c j 0 m
      go (inr m) = past_words i c j m ∙ sym (z (i + j) (omega arith) (omega arith))

  padded-words : (i c : ℕ) → Stands area i max_arity (padded max_arity (words_at area i c)) → Zeros area (i + c) (i + max_arity)
  padded-words i c h w l m =
      let e : w ≡ i + (w - i) = omega arith in
      ap (word area) e ∙ h (w - i) (omega arith) ∙ get_or-padded max_arity (words_at area i c) (w - i) ∙ past_words i c (w - i) (omega arith)

  -- THE ROW OF A TERM at word i.
  module _ (i : ℕ) where
    -- the node that is read, by whether the first word is 0
    abbrev node_by : Bool → Node
    node_by b = cond b var (app (word area i - 1) (words_at area (i + 2) (word area (i + 1))))

    pub node-places : (word area i ≡ 0 → Zeros area i (i + term_words)) → Zeros area (i + 2 + word area (i + 1)) (i + 2 + max_arity)
        → Stands area i term_words (node_words (node_at area i))
    unfolding node_at node_words words_at
    node-places v z = go (eqb (word area i) 0) refl
      where
        go : (b : Bool) → eqb (word area i) 0 ≡ b → Stands area i term_words (node_words (node_by b))
        go true e j l = zeros_stand i term_words (v (eqb-true (word area i) 0 e)) j l
        go false e zero l =
            let first : word area i ≡ suc (word area i - 1) = omega (arith, eqb-false (word area i) 0 e) in
            ap (word area) (add-zero i) ∙ first
        go false e (suc zero) l = sym (length-map-from (word area) (i + 2) (word area (i + 1)))
        go false e (suc (suc j)) l =
            let q : i + suc (suc j) ≡ i + 2 + j = omega arith in
            ap (word area) q ∙ words-padded (i + 2) (word area (i + 1)) z j (omega arith)

    module _ (h : Stands area i term_words (node_words (node_at area i))) where
      pub places-variable : word area i ≡ 0 → Zeros area i (i + term_words)
      unfolding node_at node_words
      places-variable e = stand_zeros i term_words (rw (eq-eqb (word area i) 0 e) at h)

      pub places-arguments : Zeros area (i + 2 + word area (i + 1)) (i + 2 + max_arity)
      unfolding node_at node_words
      places-arguments = go (eqb (word area i) 0) h
        where
          go : (b : Bool) → Stands area i term_words (node_words (node_by b)) → Zeros area (i + 2 + word area (i + 1)) (i + 2 + max_arity)
          go true g w l m = stand_zeros i term_words g w (omega arith) (omega arith)
          go false g w l m =
              padded-words (i + 2) (word area (i + 1)) (stands-drop area i 2 max_arity (node_words (node_by false)) g) w l m

  -- A BINDING.
  pub binding_place : (i : ℕ) → binding_word (binding_at area i) ≡ word area i
  unfolding binding_word binding_at
  binding_place i = go (eqb (word area i) 0) refl
    where
      go : (b : Bool) → eqb (word area i) 0 ≡ b → binding_word (cond b none (some (word area i - 1))) ≡ word area i
      go true e = sym (eqb-true (word area i) 0 e)
      go false e = omega (arith, eqb-false (word area i) 0 e)

  -- THE KIND of an entry at word i, with its symbol, its count and its arguments.
  module _ (i : ℕ) where
    -- the kind that is read, by whether the word is 0
    abbrev kind_by : Bool → Kind
    kind_by b = cond b hole (common (word area (i + 1)) (words_at area (i + 3) (word area (i + 2))))

    kind-places : word area i ≤ 1 → (word area i ≡ 0 → Zeros area (i + 1) (i + 3 + max_arity))
        → Zeros area (i + 3 + word area (i + 2)) (i + 3 + max_arity) → Stands area i (3 + max_arity) (kind_words (kind_at area i))
    unfolding kind_at kind_words words_at
    kind-places r v z = go (eqb (word area i) 0) refl
      where
        go : (b : Bool) → eqb (word area i) 0 ≡ b → Stands area i (3 + max_arity) (kind_words (kind_by b))
        go true e zero l = ap (word area) (add-zero i) ∙ eqb-true (word area i) 0 e ∙ sym (get_or-padded (3 + max_arity) [] 0)
        go true e (suc j) l =
            v (eqb-true (word area i) 0 e) (i + suc j) (omega arith) (omega arith) ∙ sym (get_or-padded (3 + max_arity) [] (suc j))
        go false e zero l = let one : word area i ≡ 1 = omega (arith, eqb-false (word area i) 0 e) in ap (word area) (add-zero i) ∙ one
        go false e (suc zero) l = refl
        go false e (suc (suc zero)) l = sym (length-map-from (word area) (i + 3) (word area (i + 2)))
        go false e (suc (suc (suc j))) l =
            let q : i + suc (suc (suc j)) ≡ i + 3 + j = omega arith in
            ap (word area) q ∙ words-padded (i + 3) (word area (i + 2)) z j (omega arith)

    module _ (h : Stands area i (3 + max_arity) (kind_words (kind_at area i))) where
      places_range : word area i ≤ 1
      unfolding kind_at kind_words
      places_range = go (eqb (word area i) 0) h
        where
          go : (b : Bool) → Stands area i (3 + max_arity) (kind_words (kind_by b)) → word area i ≤ 1
          go true g = omega (arith, stand_zeros i (3 + max_arity) g i (omega arith) (omega arith))
          go false g = let one : word area (i + 0) ≡ 1 = g 0 (omega arith) in omega (arith, ap (word area) (add-zero i))

      places_open : word area i ≡ 0 → Zeros area (i + 1) (i + 3 + max_arity)
      unfolding kind_at kind_words
      places_open e w l m =
          stand_zeros i (3 + max_arity) (rw (eq-eqb (word area i) 0 e) at h) w (omega arith) (omega arith)

      places-argument-entries : Zeros area (i + 3 + word area (i + 2)) (i + 3 + max_arity)
      unfolding kind_at kind_words
      places-argument-entries = go (eqb (word area i) 0) h
        where
          go : (b : Bool) → Stands area i (3 + max_arity) (kind_words (kind_by b)) → Zeros area (i + 3 + word area (i + 2)) (i + 3 + max_arity)
          go true g w l m = stand_zeros i (3 + max_arity) g w (omega arith) (omega arith)
          go false g w l m =
              padded-words (i + 3) (word area (i + 2)) (stands-drop area i 3 max_arity (kind_words (kind_by false)) g) w l m

  -- THE ROW OF AN ENTRY at word i, whose kind has no more arguments than there are places.
  module _ (i : ℕ) (few : length (kind_arguments (kind_at area (i + 2))) ≤ max_arity) where
    abbrev kind_part : List ℕ
    kind_part = kind_words (kind_at area (i + 2))

    wide : length kind_part ≡ 3 + max_arity
    wide = width_kind (kind_at area (i + 2)) few

    count : word area (i + 2 + 2) ≡ word area (i + 4)
    count = let q : i + 2 + 2 ≡ i + 4 = omega arith in ap (word area) q

    pub entry-places : word area (i + 2) ≤ 1 → (word area (i + 2) ≡ 0 → Zeros area (i + 3) (i + 5 + max_arity))
        → Zeros area (i + 5 + word area (i + 4)) (i + 5 + max_arity) → Stands area i entry_row_words (entry_words (entry_at area i))
    unfolding entry_at entry_words
    entry-places r v z = go
      where
        behind : (j : ℕ) → (j < 3 + max_arity) ⊎ (3 + max_arity ≤ j) → j < 4 + max_arity
            → word area (i + 2 + j) ≡ get_or (kind_part ++ word area (i + entry_row_words - 1) ∷ []) j 0
        behind j (inl m) l =
            kind-places (i + 2) r (λ e w p q. v e w (omega arith) (omega arith)) (λ w p q. z w (omega (arith, count)) (omega arith)) j m ∙
            sym (get_or-append kind_part _ 0 j (omega (arith, wide)))
        behind j (inr m) l =
            let q : i + 2 + j ≡ i + entry_row_words - 1 = omega arith in
            ap (word area) q ∙ sym (get_or_at kind_part (word area (i + entry_row_words - 1)) [] 0 j (omega (arith, wide)))

        go : Stands area i entry_row_words (entry_words (entry_at area i))
        go zero l = ap (word area) (add-zero i)
        go (suc zero) l = refl
        go (suc (suc j)) l =
            let q : i + suc (suc j) ≡ i + 2 + j = omega arith in
            ap (word area) q ∙ behind j (lt-or-le j (3 + max_arity)) (omega arith)

    module _ (h : Stands area i entry_row_words (entry_words (entry_at area i))) where
      kind_part_lem : Stands area (i + 2) (3 + max_arity) kind_part
      unfolding entry_at entry_words
      kind_part_lem j l =
          stands-drop area i 2 (4 + max_arity) (entry_words (entry_at area i)) h j (omega arith) ∙
          get_or-append kind_part _ 0 j (omega (arith, wide))

      pub places-kind : word area (i + 2) ≤ 1
      places-kind = places_range (i + 2) kind_part_lem

      pub places-hole : word area (i + 2) ≡ 0 → Zeros area (i + 3) (i + 5 + max_arity)
      places-hole e w l m = places_open (i + 2) kind_part_lem e w (omega arith) (omega arith)

      pub places-entries : Zeros area (i + 5 + word area (i + 4)) (i + 5 + max_arity)
      places-entries w l m = places-argument-entries (i + 2) kind_part_lem w (omega (arith, count)) (omega arith)
