-- The argument entries of a common entry, one by one. Assumes nothing.
use Rattle.std.proofs.Common.{◌≡◌, List, Bool, true, false, ℕ, length, get_or, T, ltb, lt→ltb}
use Rattle.model.specs.Lists.{all, from}
use Rattle.model.specs.Term.{Book, Bindings}
use Rattle.model.specs.Table.{Table, entry, holds}
use Rattle.model.specs.Area.{arguments_ok}
use Rattle.theory.proofs.Lists.Laws.{T_true, true_T, not-T_false, same_test}
use Rattle.theory.proofs.Lists.Conjunctions.{and₂}
use Rattle.theory.proofs.Soundness.Facts.{Has}
use Rattle.theory.proofs.Soundness.Terms.{all-below, below_all}
use Rattle.theory.proofs.Soundness.Table.{has_facts, argument_facts, facts_argument}
use Rattle.theory.proofs.Values.Equations.{eq-holds}
use Rattle.soundness.specs.kinds.KindTests.{argument_right}

module _ (b : Book) (β : Bindings) (es : Table) where
  -- the test of one says that the entry has the values
  argument_has : (i l r : ℕ) → argument_right b β es i l r ≡ true → Has b β es i l r
  unfolding argument_right
  argument_has i l r e =
      let g = (and₂ (ltb i (length es)) (holds b β l r (entry es i))).0 (true_T _ e) in
      has_facts b β es i l r g.0 g.1

  has_argument : (i l r : ℕ) → Has b β es i l r → T (argument_right b β es i l r)
  unfolding argument_right
  has_argument i l r h =
      (and₂ (ltb i (length es)) (holds b β l r (entry es i))).1 (
        lt→ltb i (length es) h.present,
        eq-holds b β l r (entry es i) h.left h.right,
      )

  module _ (is ls rs : List ℕ) where
    -- the test of the entry at place j
    abbrev pub argument_at : ℕ → Bool
    argument_at j = argument_right b β es (get_or is j 0) (get_or ls j 0) (get_or rs j 0)

    -- the counts differ, or each entry is tested
    pub other_left : (length is ≡ length ls → ⊥) → arguments_ok b β es is ls rs ≡ false
    other_left d = not-T_false _ (λ h. d (argument_facts b β es is ls rs h).count_left)

    pub other_right : (length is ≡ length rs → ⊥) → arguments_ok b β es is ls rs ≡ false
    other_right d = not-T_false _ (λ h. d (argument_facts b β es is ls rs h).count-right)

    pub arguments_all : length is ≡ length ls → length is ≡ length rs → arguments_ok b β es is ls rs ≡ all argument_at (from 0 (length is))
    arguments_all p q =
        same_test (arguments_ok b β es is ls rs) (all argument_at (from 0 (length is)))
        (λ h. below_all argument_at (length is) (λ j l. has_argument _ _ _ ((argument_facts b β es is ls rs h).argument j l)))
        (λ h. facts_argument b β es is ls rs
        (record { count_left = p; count-right = q; argument = λ j l. argument_has _ _ _ (T_true _ (all-below argument_at (length is) h j l)) }))
