-- The lowest term of each class. Assumes nothing.
use Rattle.std.proofs.Common.{◌≡◌, refl, ap, sym, ◌∙◌, List, ◌++◌, map, Bool, ◌⊎◌, inl, inr, ℕ, ◌+◌, ◌≤◌, ◌<◌, zero-add, arith, below_more, length, get_or, drop, set, length-set, get_or-set_same, get_or-set_other, drop-set-lt, eqb, eqb→eq}
use Rattle.std.proofs.Math.Dec.{eqb_refl}
use Rattle.model.specs.Lists.{from}
use Rattle.model.specs.Term.{Book, Bindings, eq_tree, val, name}
use Rattle.theory.proofs.Lists.From.{map-from-same}
use Rattle.theory.proofs.Lists.Laws.{same_test, first-least, first_alike, length_from, get_or-from}
use Rattle.theory.proofs.Table.Search.{lt-or-le, eq-or-not}
use Rattle.theory.proofs.Values.Equations.{eq_tree-eq, eq_tree_refl}
use Rattle.theory.proofs.Values.Ends.{lowest, lowest-holds}
use Rattle.layout.specs.limits.Rows.{at, book_of, bound_of}
use Rattle.layout.proofs.limits.Rows.{length-book_of}
use Rattle.values.proofs.roots.Settled.{words-map}
use Rattle.pairs.proofs.Rooms.{room_kept}
use Rattle.values.specs.names.Classes.{Scratch, SameClasses, lowest_same, Seen, lower, own, Nameable}

module _ (classes : List ℕ) (n t : ℕ) (t_term : t < n) where
  -- whether term u has the class of t
  same : ℕ → Bool
  same u = eqb (at classes u) (at classes t)

  -- no term of t's class is lower, and it has t's class
  lowest-least : (u : ℕ) → u < n → at classes u ≡ at classes t → lowest_same classes n t ≤ u
  unfolding lowest_same same
  lowest-least u l e =
      first-least same (from 0 n) 0 u (rw length_from l) (rw (get_or-from 0 n u 0 l, zero-add, e) (eqb_refl (at classes t)))

  lowest-class : at classes (lowest_same classes n t) ≡ at classes t
  unfolding lowest_same same lowest
  lowest-class =
      eqb→eq (at classes (lowest_same classes n t)) (at classes t) (lowest-holds same n (omega (arith, lowest-least t t_term refl)))

-- the lowest term of each class is the name, where classes are those of the values
pub lowest-names : (b : Book) (β : Bindings) (classes : List ℕ) (n : ℕ) → length b ≡ n → SameClasses b β classes n
    → map (lowest_same classes n) (from 0 n) ≡ map (name b β) (from 0 n)
unfolding lowest_same name
lowest-names b β classes n size s =
    map-from-same (lowest_same classes n) (name b β) 0 0 n
    (λ t l. rw zero-add
    (first_alike (λ u. eqb (at classes u) (at classes t)) (λ u. eq_tree (val b β u) (val b β t)) (from 0 n) (from 0 (length b)) 0 0 (rw size)
    (λ u k. alike t l u (rw length_from at k))))
  where
    alike : (t : ℕ) → t < n → (u : ℕ) → u < n
        → eqb (at classes (get_or (from 0 n) u 0)) (at classes t) ≡ eq_tree (val b β (get_or (from 0 (length b)) u 0)) (val b β t)
    alike t l u k =
        rw (get_or-from 0 n u 0 k, get_or-from 0 (length b) u 0 (rw size k), zero-add)
        (same_test (eqb (at classes u) (at classes t)) (eq_tree (val b β u) (val b β t))
        (λ h. rw (s.same-value u t k l (eqb→eq (at classes u) (at classes t) h)) (eq_tree_refl (val b β t)))
        (λ h. rw (s.same_class u t k l (eq_tree-eq (val b β u) (val b β t) h)) (eqb_refl (at classes t))))

pub names_found : (rows bindings : List ℕ) (n : ℕ) (classes names rest : List ℕ) → SameClasses (book_of rows n) (bound_of bindings n) classes n
    → names ≡ map (lowest_same classes n) (from 0 n) ++ rest → names ≡ map (name (book_of rows n) (bound_of bindings n)) (from 0 n) ++ rest
names_found rows bindings n classes names rest s e =
    rw (lowest-names (book_of rows n) (bound_of bindings n) classes n (length-book_of rows n) s) at e

-- slices of the same lengths are long enough too
pub scratch_kept : {lefts rights cells classes : List ℕ} {n : ℕ} → Scratch classes lefts rights cells n → {lefts' rights' cells' classes' : List ℕ}
    → length lefts' ≡ length lefts → length rights' ≡ length rights → length cells' ≡ length cells → length classes' ≡ length classes
    → Scratch classes' lefts' rights' cells' n
scratch_kept s l r c k = record { room = room_kept s.room l r c; classes_fit = omega (arith, s.classes_fit) }

-- what finding the lowest terms asks, once the terms have their classes
pub counted : {lefts rights cells classes names : List ℕ} {n : ℕ} → Scratch classes lefts rights cells n → n ≤ length names
    → {b : Book} {β : Bindings} {lefts' classes' : List ℕ} → SameClasses b β classes' n → length lefts' ≡ length lefts → length classes' ≡ length classes
    → Nameable classes' names lefts' n
counted scratch fits same l k =
    record {
      classes_fit = omega (arith, scratch.classes_fit);
      terms = same.terms;
      firsts_fit = omega (arith, scratch.room.lefts_fit);
      names_fit = fits;
    }

-- After t terms: the lowest of the class of each, in the place of its class and as its name.
pub record Numbering (classes : List ℕ) (n : ℕ) (firsts₀ names₀ firsts names : List ℕ) (t : ℕ) : Type 0 where
  pub counted : Nameable classes names₀ firsts₀ n
  pub within : t ≤ n
  pub first_size : length firsts ≡ length firsts₀
  pub name_size : length names ≡ length names₀
  pub behind : drop n names ≡ drop n names₀
  pub placed : (i : ℕ) → i < t → at firsts (at classes i) ≡ lowest_same classes n i
  pub named : (i : ℕ) → i < t → at names i ≡ lowest_same classes n i

-- terms of one class have one lowest term
lowest-same : (classes : List ℕ) (n t u : ℕ) → at classes t ≡ at classes u → lowest_same classes n t ≡ lowest_same classes n u
unfolding lowest_same
lowest-same classes n t u e = rw e

module _ {classes : List ℕ} {n : ℕ} {firsts₀ names₀ : List ℕ} where
  module _ {firsts names : List ℕ} {t : ℕ} (h : Numbering classes n firsts₀ names₀ firsts names t) where
    -- at the end every term has the lowest of its class
    pub numbered : n ≤ t → names ≡ map (lowest_same classes n) (from 0 n) ++ drop n names₀
    numbered l =
        words-map (lowest_same classes n) n names names₀ (omega (arith, h.counted.names_fit, h.name_size)) h.behind
        (λ i q. h.named i (omega arith))

    module _ (l : t < n) where
      -- the next term's class can be read, and its places written
      pub next_fits : (t < length classes) × (at classes t < length firsts) × (t < length names)
      next_fits = (
        omega (arith, h.counted.classes_fit),
        omega (arith, h.counted.terms t l, h.counted.firsts_fit, h.first_size),
        omega (arith, h.counted.names_fit, h.name_size),
      )

      module _ {r : ℕ} where
        -- what was seen of its class, or the term itself, is the lowest
        next-lowest : Seen classes (at firsts (at classes t)) t r → r ≡ lowest_same classes n t
        next-lowest (lower p e q) =
            q ∙ (sym (ap (at firsts) e) ∙ (h.placed (at firsts (at classes t)) p ∙ lowest-same classes n (at firsts (at classes t)) t e))
        next-lowest (own f q) = q ∙ go (lt-or-le (lowest_same classes n t) t)
          where
            go : (lowest_same classes n t < t) ⊎ (t ≤ lowest_same classes n t) → t ≡ lowest_same classes n t
            go (inl p) =
                let e : at classes (lowest_same classes n t) ≡ at classes t = lowest-class classes n t l in
                let is : at firsts (at classes t) ≡ lowest_same classes n t =
                sym (ap (at firsts) e) ∙ (h.placed (lowest_same classes n t) p ∙ lowest-same classes n (lowest_same classes n t) t e) in
                absurd (f (rw is p) (ap (at classes) is ∙ e))
            go (inr p) = omega (arith, lowest-least classes n t l t l refl)

        -- one term more
        pub numbering_more : Seen classes (at firsts (at classes t)) t r
            → Numbering classes n firsts₀ names₀ (set firsts (at classes t) r) (set names t r) (t + 1)
        numbering_more s =
            record {
              counted = h.counted;
              within = omega arith;
              first_size = length-set firsts (at classes t) r ∙ h.first_size;
              name_size = length-set names t r ∙ h.name_size;
              behind = drop-set-lt n names t r l ∙ h.behind;
              placed = below_more _ t (λ i q. kept i q (eq-or-not (at classes i) (at classes t)))
                  (get_or-set_same firsts (at classes t) r 0 next_fits.1 ∙ next-lowest s);
              named = below_more _ t (λ i q. get_or-set_other names t i r 0 (λ e. omega arith) ∙ h.named i q)
                  (get_or-set_same names t r 0 next_fits.2 ∙ next-lowest s);
            }
          where
            kept : (i : ℕ) → i < t → (at classes i ≡ at classes t) ⊎ (at classes i ≡ at classes t → ⊥)
                → at (set firsts (at classes t) r) (at classes i) ≡ lowest_same classes n i
            kept i q (inl e) =
                rw e (get_or-set_same firsts (at classes t) r 0 next_fits.1) ∙ (next-lowest s ∙ sym (lowest-same classes n i t e))
            kept i q (inr e) = get_or-set_other firsts (at classes t) (at classes i) r 0 e ∙ h.placed i q
