-- A test of each element, or of each number below n, that stops at the first that does not pass. Assumes nothing.
use Rattle.std.proofs.Common.{◌≡◌, refl, ap, sym, subst, ◌∙◌, List, [], ◌∷◌, Bool, true, false, ◌&&◌, ℕ, ◌<◌, ◌≤◌, arith, length, get_or, T, Option, Some, None, option_map, IfSome, IsSomeAnd, IsTrue, MatchBool}
use denote.Param.Members.{Mut, Called}
use Rattle.std.specs.Iterator.Runs.{SomeRun, AllItemsGive, AnyItemGives}
use Rattle.std.specs.List.{list_all}
use Rattle.std.specs.declared.ops.Range.{Range}
use Rattle.std.proofs.iter.Yields.{nat_range_steps}
use Rattle.std.proofs.iter.runs.Sources.{range_runs}
use Rattle.model.specs.Lists.{all, from}
use Rattle.theory.proofs.Lists.Laws.{T_true, true_T, not-T_false, same_test, all-at, all_intro}
use Rattle.theory.proofs.Soundness.Terms.{all-below, below_all}

-- whether every element passes, as std has it
pub all-list : {A : Type 0} (p : A → Bool) (xs : List A) → all p xs ≡ list_all p xs
unfolding all
all-list p [] = refl
all-list p (x ∷ xs) = ap (λ b. p x && b) (all-list p xs)

-- a test that holds does not fail
pub not_both : (b : Bool) → b ≡ false → T b → ⊥
not_both b e h = rw e at h

-- the loop's invariant: the test holds of every number below i
abbrev pub Passed : (ℕ → Bool) → ℕ → Type 0
Passed p i = (j : ℕ) → j < i → p j ≡ true

-- the elements of a list: all passed, or the one at i did not
module _ {A : Type 0} (p : A → Bool) (xs : List A) (d : A) where
  pub each_passed : (i : ℕ) → length xs ≤ i → Passed (λ j. p (get_or xs j d)) i → all p xs ≡ true
  each_passed i l h = T_true (all p xs) (all_intro p xs d (λ j k. true_T _ (h j (omega arith))))

  pub one_failed : (i : ℕ) → i < length xs → p (get_or xs i d) ≡ false → all p xs ≡ false
  one_failed i l e = not-T_false (all p xs) (λ h. not_both _ e (all-at p xs d h i l))

-- the elements of a list, by their places
pub all-places : {A : Type 0} (p : A → Bool) (xs : List A) (d : A) → all p xs ≡ all (λ i. p (get_or xs i d)) (from 0 (length xs))
all-places p xs d =
    same_test (all p xs) (all (λ i. p (get_or xs i d)) (from 0 (length xs)))
    (λ h. below_all (λ i. p (get_or xs i d)) (length xs) (all-at p xs d h))
    (λ h. all_intro p xs d (all-below (λ i. p (get_or xs i d)) (length xs) h))

-- an item at a place that is known to have one, and an item of which two facts are known
item-at : (o : Option ℕ) (j : ℕ) (P : ℕ → Type 0) → option_map (λ y. y) o ≡ Some j → IfSome o P → P j
item-at None j P e h = cc
item-at (Some x) j P e h = let same : x ≡ j = cc in subst P same h

item-known : (o : Option ℕ) (P Q : ℕ → Type 0) {R : Type 0} → IsSomeAnd o P → IfSome o Q → ((x : ℕ) → P x → Q x → R) → R
item-known None P Q h k to = absurd h
item-known (Some x) P Q h k to = to x h k

-- what `all` answers over the numbers below n, where the closure answers p at each of them
pub all-range : {F : Type 0} {g : Mut F (ℕ × Unit {0}) Bool} {s : Range ℕ} (p : ℕ → Bool) (n : ℕ) {f : F} (r : Bool)
    → SomeRun nat_range_steps s (λ k. MatchBool r (IsTrue k.whole × AllItemsGive k g f true) (AnyItemGives k g f false))
    → s ≡ record { start = 0; end = n } → ((x : ℕ) (b : Bool) (q : F) → Called g f (x, tt) b q → (q ≡ f) × (x < n → b ≡ p x))
    → r ≡ all p (from 0 n)
all-range p n {f} true ran e called =
    let k = ran.0 in
    let up = range_runs k k.seen in
    let start : k.from.start ≡ 0 = ap (λ (t : Range ℕ). t.start) (ran.1 ∙ e) in
    let end : k.from.end ≡ n = ap (λ (t : Range ℕ). t.end) (ran.1 ∙ e) in
    let long : k.len ≡ n = omega (arith, up.1 ran.2.0) in
    let gives = ran.2.1 (λ a b q h. (called a.0 b q h).0) in
    sym (T_true _ (below_all p n (λ j l.
    let there : option_map (λ y. y) (k.at j) ≡ Some j = up.3 j (omega arith) ∙ ap Some (omega arith) in
    true_T _ (sym ((called j true f (item-at (k.at j) j _ there (gives j))).1 l)))))
all-range p n {f} false ran e called =
    let k = ran.0 in
    let up = range_runs k k.seen in
    let end : k.from.end ≡ n = ap (λ (t : Range ℕ). t.end) (ran.1 ∙ e) in
    let gives = ran.2 (λ a b q h. (called a.0 b q h).0) in
    item-known (k.at gives.0) _ _ gives.2 (up.2 gives.0) (λ x h k.
    sym (not-T_false _ (λ t. not_both _ (sym ((called x false f h).1 (omega (arith, k.1)))) (all-below p n t x (omega (arith, k.1))))))
