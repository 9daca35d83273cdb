-- Values by their names: an entry holds the values of two terms where its sides have their names, and the lowest such entry is the
-- first place of the pair of names. Assumes nothing.
use Rattle.std.proofs.Common.{◌≡◌, sym, List, ◌&&◌, ℕ, ◌<◌, length, eqb, eqb→eq}
use Rattle.model.specs.Term.{Book, Bindings, eq_tree, val, name}
use Rattle.model.specs.Table.{Entry, Table, hole_at, entry, holds, entry_of}
use Rattle.pairs.specs.Pairs.{pair_at, pairs_of, is_pair, place_of}
use Rattle.soundness.specs.kinds.Sides.{SideNames}
use Rattle.theory.proofs.Lists.Laws.{same_test, first_alike}
use Rattle.theory.proofs.Soundness.Table.{eq-T}
use Rattle.theory.proofs.Values.Equations.{eq_tree-eq, eq_tree_refl, same-value-name, same-name-value}
use Rattle.pairs.proofs.Laws.{length_pairs, pairs-at}

module _ (b : Book) (β : Bindings) where
  -- terms have equal values exactly where they have one name
  pub same_tree : (t u : ℕ) → t < length b → u < length b → eq_tree (val b β t) (val b β u) ≡ eqb (name b β t) (name b β u)
  same_tree t u p q =
      same_test (eq_tree (val b β t) (val b β u)) (eqb (name b β t) (name b β u))
      (λ h. eq-T _ _ (same-value-name b β t u (eq_tree-eq _ _ h)))
      (λ h. rw (same-name-value b β t u p q (eqb→eq _ _ h)) (eq_tree_refl (val b β u)))

  pub holds-names : (l r : ℕ) (e : Entry) → l < length b → r < length b → e.left < length b → e.right < length b
      → holds b β l r e ≡ (eqb (name b β e.left) (name b β l) && eqb (name b β e.right) (name b β r))
  unfolding holds
  holds-names l r e p q s t = rw (same_tree e.left l s p, same_tree e.right r t q)

  -- the lowest entry with the values of l and r is the first place of their names
  pub entry_of-place : (es : Table) (lefts rights : List ℕ) → SideNames b β es lefts rights → (l r : ℕ) → l < length b → r < length b
      → entry_of b β es l r ≡ place_of lefts rights (length es) (name b β l) (name b β r)
  unfolding entry_of place_of pair_at is_pair
  entry_of-place es lefts rights s l r p q =
      first_alike (holds b β l r) (is_pair (name b β l) (name b β r)) es (pairs_of lefts rights (length es)) (hole_at 0 0 0) (pair_at lefts rights 0)
      (sym (length_pairs lefts rights (length es)))
      (λ i h. rw (pairs-at lefts rights (length es) i (pair_at lefts rights 0) h, s.left-name i h, s.right-name i h)
      (holds-names l r (entry es i) p q (s.left-term i h) (s.right-term i h)))
