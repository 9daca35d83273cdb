-- The tests of soundness on a table say exactly that the table is right. Assumes nothing.
use mathlib.Core.Path.{◌≡◌, refl}
use mathlib.Core.List.{List, [], ◌∷◌}
use mathlib.Core.Bool.{not}
use mathlib.Core.Logic.{◌↔◌}
use Prim.Native.Nat.{ℕ, zero, suc, ◌<◌, zero-le, suc-le-suc}
use native.Mathlib.Nat.{le_of_suc-le-suc, not-suc-le-zero}
use native.Mathlib.Omega.{arith}
use borrow.Author.Tests.{eq-eqb}
use lib.ListN.{length, get_or}
use lib.Dec.{T, eqb, ltb, ltb→lt, lt→ltb, eqb→eq, T_not, not_T}
use Rattle.model.specs.Lists.{all, is_empty}
use Rattle.model.specs.Term.{Node, symbol, arguments, alike, Book, Bindings, root}
use Rattle.model.specs.Table.{Kind, hole, common, Entry, Table, hole_at, entry, holds, entry_of}
use Rattle.model.specs.Area.{arguments_ok, kind_ok, entry_ok, same_pair, distinct}
use Rattle.theory.proofs.Lists.Laws.{and_left, and_right, and_both, T_true, true_T, not-T_false, all-at, all_intro}
use Rattle.theory.proofs.Lists.Conjunctions.{and₂, and₃, and₄}
use Rattle.theory.proofs.Soundness.Facts.{Has, KindRight, TableRight}
use Rattle.theory.proofs.Values.Equations.{holds-eq, eq-holds}

-- two equal numbers pass the test of equality
pub eq-T : (a b : ℕ) → a ≡ b → T (eqb a b)
eq-T a b e = true_T (eqb a b) (eq-eqb a b e)

-- no two entries hold one pair exactly when the test says so
pub distinct_facts : (es : Table) → T (distinct es) → (i j : ℕ) → i < j → j < length es
    → (entry es i).left ≡ (entry es j).left → (entry es i).right ≡ (entry es j).right → ⊥
unfolding distinct same_pair
distinct_facts [] h i j l k p q = absurd (not-suc-le-zero k)
distinct_facts (e ∷ es) h i zero l k p q = absurd (not-suc-le-zero l)
distinct_facts (e ∷ es) h zero (suc j) l k p q =
    T_not (same_pair e (entry es j))
    (all-at (λ f. not (same_pair e f)) es (hole_at 0 0 0) (and_left (all (λ f. not (same_pair e f)) es) (distinct es) h) j (le_of_suc-le-suc k))
    (and_both (eqb e.left (entry es j).left) (eqb e.right (entry es j).right) (eq-T e.left (entry es j).left p)
    (eq-T e.right (entry es j).right q))
distinct_facts (e ∷ es) h (suc i) (suc j) l k p q =
    distinct_facts es (and_right (all (λ f. not (same_pair e f)) es) (distinct es) h) i j (le_of_suc-le-suc l) (le_of_suc-le-suc k) p q

pub facts_distinct : (es : Table) → ((i j : ℕ) → i < j → j < length es
    → (entry es i).left ≡ (entry es j).left → (entry es i).right ≡ (entry es j).right → ⊥) → T (distinct es)
unfolding distinct same_pair
facts_distinct [] h = tt
facts_distinct (e ∷ es) h =
    and_both (all (λ f. not (same_pair e f)) es) (distinct es)
    (all_intro (λ f. not (same_pair e f)) es (hole_at 0 0 0) (λ j l. not_T (same_pair e (entry es j)) (other j l)))
    (facts_distinct es (λ i j l k. h (suc i) (suc j) (suc-le-suc l) (suc-le-suc k)))
  where
    other : (j : ℕ) → j < length es → T (same_pair e (entry es j)) → ⊥
    other j l t =
        let g : _ = (and₂ (eqb e.left (entry es j).left) (eqb e.right (entry es j).right)).0 t in
        h 0 (suc j) (suc-le-suc zero-le) (suc-le-suc l) (eqb→eq e.left (entry es j).left g.0)
        (eqb→eq e.right (entry es j).right g.1)

module _ (b : Book) (β : Bindings) (es : Table) where
  -- an entry exists and holds two values exactly when the two tests say so
  pub has_facts : (i l r : ℕ) → T (ltb i (length es)) → T (holds b β l r (entry es i)) → Has b β es i l r
  has_facts i l r p h =
      record { present = ltb→lt i (length es) p; left = (holds-eq b β l r (entry es i) h).0; right = (holds-eq b β l r (entry es i) h).1 }

  -- the argument entries of two lists of terms are right
  pub record ArgumentFacts (is ls rs : List ℕ) : Type 0 where
    pub count_left : length is ≡ length ls
    pub count-right : length is ≡ length rs
    pub argument : (j : ℕ) → j < length is → Has b β es (get_or is j 0) (get_or ls j 0) (get_or rs j 0)

  pub argument_facts : (is ls rs : List ℕ) → T (arguments_ok b β es is ls rs) → ArgumentFacts is ls rs
  unfolding arguments_ok is_empty
  argument_facts [] [] [] h = record { count_left = refl; count-right = refl; argument = λ j l. absurd (not-suc-le-zero l) }
  argument_facts [] [] (r ∷ rs) h = absurd h
  argument_facts [] (l ∷ ls) rs h = absurd h
  argument_facts (i ∷ is) [] rs h = absurd h
  argument_facts (i ∷ is) (l ∷ ls) [] h = absurd h
  argument_facts (i ∷ is) (l ∷ ls) (r ∷ rs) h =
      let g : _ = (and₃ (ltb i (length es)) (holds b β l r (entry es i)) (arguments_ok b β es is ls rs)).0 h in
      let f : ArgumentFacts is ls rs = argument_facts is ls rs g.2 in
      record { count_left = omega arith; count-right = omega arith; argument = at (has_facts i l r g.0 g.1) f }
    where
      at : Has b β es i l r → ArgumentFacts is ls rs
          → (j : ℕ) → j < length (i ∷ is) → Has b β es (get_or (i ∷ is) j 0) (get_or (l ∷ ls) j 0) (get_or (r ∷ rs) j 0)
      at g f zero k = g
      at g f (suc j) k = f.argument j (le_of_suc-le-suc k)

  pub facts_argument : (is ls rs : List ℕ) → ArgumentFacts is ls rs → T (arguments_ok b β es is ls rs)
  unfolding arguments_ok is_empty
  facts_argument [] [] [] f = tt
  facts_argument [] [] (r ∷ rs) f = absurd (omega (arith, f.count-right))
  facts_argument [] (l ∷ ls) rs f = absurd (omega (arith, f.count_left))
  facts_argument (i ∷ is) [] rs f = absurd (omega (arith, f.count_left))
  facts_argument (i ∷ is) (l ∷ ls) [] f = absurd (omega (arith, f.count-right))
  facts_argument (i ∷ is) (l ∷ ls) (r ∷ rs) f =
      let g : Has b β es i l r = f.argument 0 (suc-le-suc zero-le) in
      (and₃ (ltb i (length es)) (holds b β l r (entry es i)) (arguments_ok b β es is ls rs)).1 (
        lt→ltb i (length es) g.present,
        eq-holds b β l r (entry es i) g.left g.right,
        facts_argument is ls rs
            (record {
              count_left = omega (arith, f.count_left);
              count-right = omega (arith, f.count-right);
              argument = λ j k. f.argument (suc j) (suc-le-suc k);
            }),
      )

  -- a kind is right exactly when the test says so
  kind_facts : (k : Kind) (l r : Node) → T (kind_ok b β es k l r) → KindRight b β es k l r
  unfolding kind_ok
  kind_facts hole l r h = not-T_false (alike l r) (T_not (alike l r) h)
  kind_facts (common s args) l r h =
      let g : _ = (and₃ (alike l r) (eqb s (symbol l)) (arguments_ok b β es args (arguments l) (arguments r))).0 h in
      let f : ArgumentFacts args (arguments l) (arguments r) = argument_facts args (arguments l) (arguments r) g.2 in
      record {
        alike-roots = T_true (alike l r) g.0;
        the_symbol = eqb→eq s (symbol l) g.1;
        count_left = f.count_left;
        count-right = f.count-right;
        argument = f.argument;
      }

  pub facts_kind : (k : Kind) (l r : Node) → KindRight b β es k l r → T (kind_ok b β es k l r)
  unfolding kind_ok
  facts_kind hole l r h = rw h tt
  facts_kind (common s args) l r f =
      (and₃ (alike l r) (eqb s (symbol l)) (arguments_ok b β es args (arguments l) (arguments r))).1 (
        true_T (alike l r) f.alike-roots,
        eq-T s (symbol l) f.the_symbol,
        facts_argument args (arguments l) (arguments r)
            (record { count_left = f.count_left; count-right = f.count-right; argument = f.argument }),
      )

  -- the four tests of an entry as facts: the entry passes exactly when they hold
  abbrev EntryFacts : Entry → Type 0
  EntryFacts e =
      (e.left < length b) × (e.right < length b) × KindRight b β es e.kind (root b β e.left) (root b β e.right) ×
      (e.same_as ≡ entry_of b β es e.left e.right)

  entry_facts : (e : Entry) → T (entry_ok b β es e) ↔ EntryFacts e
  unfolding entry_ok
  entry_facts e =
      let l : Node = root b β e.left in
      let r : Node = root b β e.right in
      let four : _ =
      and₄ (ltb e.left (length b)) (ltb e.right (length b)) (kind_ok b β es e.kind l r)
      (eqb e.same_as (entry_of b β es e.left e.right)) in (
        λ h. let g : _ = four.0 h in (ltb→lt _ _ g.0, ltb→lt _ _ g.1, kind_facts e.kind l r g.2, eqb→eq _ _ g.3),
        λ f. four.1 (lt→ltb _ _ f.0, lt→ltb _ _ f.1, facts_kind e.kind l r f.2, eq-T _ _ f.3),
      )

  -- a table is right exactly when its entries pass and no two hold one pair
  pub table_facts : T (all (entry_ok b β es) es) → T (distinct es) → TableRight b β es
  table_facts h d =
      record {
        left-term = λ i l. (at i l).0;
        right-term = λ i l. (at i l).1;
        kind-right = λ i l. (at i l).2;
        same_as = λ i l. (at i l).3;
        distinct-pairs = distinct_facts es d;
      }
    where
      at : (i : ℕ) → i < length es → EntryFacts (entry es i)
      at i l = (entry_facts (entry es i)).0 (all-at (entry_ok b β es) es (hole_at 0 0 0) h i l)

  pub facts_table : TableRight b β es → T (all (entry_ok b β es) es) × T (distinct es)
  facts_table f = (
    all_intro (entry_ok b β es) es (hole_at 0 0 0)
        (λ i l. (entry_facts (entry es i)).1 (f.left-term i l, f.right-term i l, f.kind-right i l, f.same_as i l)),
    facts_distinct es f.distinct-pairs,
  )
