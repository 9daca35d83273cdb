-- On a sound state, the reading of an entry is filled to its two values, and is their least general generalization. Assumes
-- nothing.
use mathlib.Core.Path.{◌≡◌, refl, ap, ap₂, sym, ◌∙◌}
use mathlib.Core.List.{List, [], ◌∷◌}
use mathlib.Core.Bool.{Bool, false, ◌&&◌}
use Prim.Native.Nat.{ℕ, zero, suc, ◌≤◌, ◌<◌, zero-le, suc-le-suc}
use native.Mathlib.Omega.{arith}
use lib.Dec.{eqb, eqb→eq}
use lib.ListN.{length, get_or}
use Rattle.model.specs.Limits.{Limits}
use Rattle.model.specs.Lists.{first}
use Rattle.model.specs.Term.{Node, var, app, symbol, arguments, alike, Book, Bindings, Tree, free, node, Trees, more, count, trees, eq_tree, val, root}
use Rattle.model.specs.Table.{Kind, hole, common, Entry, Table, hole_at, entry, holds, entry_of}
use Rattle.model.specs.Step.{State}
use Rattle.model.specs.Pattern.{Pattern, variable, apply, Patterns, then, fill, fill_all, patterns, reading_step, reading, left_value, right_value}
use Rattle.theory.proofs.Lists.Laws.{and_left, true_T, first_holds, first-least}
use Rattle.theory.proofs.Soundness.Facts.{Has, CommonRight, KindRight, SoundFacts}
use Rattle.theory.proofs.Values.Equations.{holds-eq, eq-holds, alike_trees, alike-values, root-app, count-trees}
use Rattle.theory.proofs.Patterns.Lgg.{lgg, lgg_all, lgg_variable, lgg_apply}
use Rattle.theory.proofs.Values.Heights.{height, height_at}

-- a value of height 0 has no root symbol
low_alike : (x y : Tree) → height x ≤ 0 → alike_trees x y ≡ false
unfolding height alike_trees
low_alike (free x) y h = refl
low_alike (node s ts) y h = absurd (omega arith)

-- a pattern p is filled by σ and τ to x and y, and generalizes them; so do patterns
module _ (class : Tree → Tree → ℕ) (σ τ : ℕ → Tree) where
  pub record Reads (p : Pattern) (x y : Tree) : Type 0 where
    pub left : fill σ p ≡ x
    pub right : fill τ p ≡ y
    pub least : p ≡ lgg class x y

  record ReadsAll (ps : Patterns) (ts us : Trees) : Type 0 where
    left : fill_all σ ps ≡ ts
    right : fill_all τ ps ≡ us
    least : ps ≡ lgg_all class ts us

  -- the patterns of a list's arguments, where each reads its two values
  reads_all : (f : ℕ → Pattern) (g : ℕ → Tree) (is ls rs : List ℕ) → length is ≡ length ls → length is ≡ length rs
      → ((j : ℕ) → j < length is → Reads (f (get_or is j 0)) (g (get_or ls j 0)) (g (get_or rs j 0)))
      → ReadsAll (patterns f is) (trees g ls) (trees g rs)
  unfolding patterns trees fill_all lgg_all
  reads_all f g [] [] [] p q h = record { left = refl; right = refl; least = refl }
  reads_all f g [] [] (r ∷ rs) p q h = absurd (omega arith)
  reads_all f g [] (l ∷ ls) rs p q h = absurd (omega arith)
  reads_all f g (i ∷ is) [] rs p q h = absurd (omega arith)
  reads_all f g (i ∷ is) (l ∷ ls) [] p q h = absurd (omega arith)
  reads_all f g (i ∷ is) (l ∷ ls) (r ∷ rs) p q h =
      let one : Reads (f i) (g l) (g r) = h 0 (suc-le-suc zero-le) in
      let rest : ReadsAll (patterns f is) (trees g ls) (trees g rs) =
      reads_all f g is ls rs (omega arith) (omega arith) (λ j k. h (suc j) (suc-le-suc k)) in
      record {
        left = ap₂ more one.left rest.left;
        right = ap₂ more one.right rest.right;
        least = ap₂ then one.least rest.least;
      }

  -- a symbol over them
  reads_over : (s : ℕ) (ps : Patterns) (ts us : Trees) → count ts ≡ count us → ReadsAll ps ts us → Reads (apply s ps) (node s ts) (node s us)
  unfolding fill
  reads_over s ps ts us e h =
      record {
        left = ap (node s) h.left;
        right = ap (node s) h.right;
        least = ap (apply s) h.least ∙ sym (lgg_apply class s ts us e);
      }

-- the lowest entry with the values of entry i has them
first_has : (b : Book) (β : Bindings) (es : Table) (i : ℕ) → i < length es
    → Has b β es (entry_of b β es (entry es i).left (entry es i).right) (entry es i).left (entry es i).right
unfolding entry_of
first_has b β es i here =
    let p : Entry → Bool = holds b β (entry es i).left (entry es i).right in
    let lower : first p es ≤ i =
    first-least p es (hole_at 0 0 0) i here (eq-holds b β (entry es i).left (entry es i).right (entry es i) refl refl) in
    let same : _ =
    holds-eq b β (entry es i).left (entry es i).right (entry es (first p es)) (first_holds p es (hole_at 0 0 0) (omega arith)) in
    record { present = omega arith; left = same.0; right = same.1 }

module _ (s : State) where
  -- the open place of a pair of values: the lowest entry that has them
  unfoldable pub class : Tree → Tree → ℕ
  class x y =
      first (λ (e : Entry). eq_tree (val s.book s.bound e.left) x && eq_tree (val s.book s.bound e.right) y) s.entries

  -- the pattern p reads entry i
  abbrev pub ReadsEntry : Pattern → ℕ → Type 0
  ReadsEntry p i = Reads class (left_value s) (right_value s) p (left_value s i) (right_value s i)

module _ (lim : Limits) (s : State) (sound : SoundFacts lim s) where
  module _ (i : ℕ) (here : i < length s.entries) where
    -- an entry whose values have no common root is read as its open place
    reads-variable : alike_trees (left_value s i) (right_value s i) ≡ false → ReadsEntry s (variable (entry s.entries i).same_as) i
    unfolding fill class left_value right_value entry_of holds
    reads-variable h =
        let e : Entry = entry s.entries i in
        let same : Has s.book s.bound s.entries e.same_as e.left e.right =
        rw (sound.table.same_as i here) (first_has s.book s.bound s.entries i here) in
        record {
          left = same.left;
          right = same.right;
          least = ap variable (sound.table.same_as i here) ∙ sym (lgg_variable (class s) (left_value s i) (right_value s i) h);
        }

    -- f reads the entries whose left value is less high
    module _ (f : ℕ → Pattern) (below : (j : ℕ) → j < length s.entries → height (left_value s j) < height (left_value s i) → ReadsEntry s (f j) j) where
      -- a common entry is read as its symbol over its arguments' readings
      reads-common : (c : ℕ) (args : List ℕ) (l r : Node) → root s.book s.bound (entry s.entries i).left ≡ l
          → root s.book s.bound (entry s.entries i).right ≡ r → CommonRight s.book s.bound s.entries c args l r
          → ReadsEntry s (apply c (patterns f args)) i
      unfolding alike symbol arguments left_value right_value height
      reads-common c args var r p q g = let z : ◌≡◌ {A = ℕ} 0 1 = cc g.alike-roots in absurd (omega arith)
      reads-common c args (app a ls) var p q g = let z : ◌≡◌ {A = ℕ} 0 1 = cc g.alike-roots in absurd (omega arith)
      reads-common c args (app a ls) (app a' rs) p q g =
          let e : a ≡ c = sym g.the_symbol in
          let e' : a' ≡ c = sym (eqb→eq a a' (and_left (eqb a a') _ (true_T _ g.alike-roots))) ∙ e in
          let x : left_value s i ≡ node c (trees v ls) = val-root (entry s.entries i).left a ls (sound.table.left-term i here) p ∙ rw e in
          let y : right_value s i ≡ node c (trees v rs) = val-root (entry s.entries i).right a' rs (sound.table.right-term i here) q ∙ rw e' in
          rw (x, y)
          (reads_over (class s) (left_value s) (right_value s) c (patterns f args) (trees v ls) (trees v rs)
          (count-trees v ls ∙ sym g.count_left ∙ g.count-right ∙ sym (count-trees v rs))
          (reads_all (class s) (left_value s) (right_value s) f v args ls rs g.count_left g.count-right (argument x)))
        where
          v : ℕ → Tree
          v = val s.book s.bound

          val-root : (t a : ℕ) (ts : List ℕ) → t < length s.book → root s.book s.bound t ≡ app a ts → v t ≡ node a (trees v ts)
          val-root = root-app s.book s.bound sound.formed sound.acyclic

          argument : left_value s i ≡ node c (trees v ls) → (j : ℕ) → j < length args
              → Reads (class s) (left_value s) (right_value s) (f (get_or args j 0)) (v (get_or ls j 0)) (v (get_or rs j 0))
          argument x j k =
              let h : Has s.book s.bound s.entries (get_or args j 0) (get_or ls j 0) (get_or rs j 0) = g.argument j k in
              rw (← h.left, ← h.right)
              (below (get_or args j 0) h.present (rw (h.left, x) (suc-le-suc (height_at v ls j (omega (arith, g.count_left))))))

      -- an entry of a right kind is read one step deeper
      reads-step : (k : Kind) → KindRight s.book s.bound s.entries k (root s.book s.bound (entry s.entries i).left)
          (root s.book s.bound (entry s.entries i).right) → ReadsEntry s (reading_step f (entry s.entries i) k) i
      unfolding reading_step left_value right_value
      reads-step hole g =
          reads-variable
          (sym
          (alike-values s.book s.bound sound.formed sound.acyclic (entry s.entries i).left (entry s.entries i).right
          (sound.table.left-term i here) (sound.table.right-term i here)) ∙
          g)
      reads-step (common c args) g = reads-common c args _ _ refl refl g

  -- every entry is read by its reading, at as many steps as its left value is high
  pub reads-entry : (k i : ℕ) → i < length s.entries → height (left_value s i) ≤ k → ReadsEntry s (reading s.entries k i) i
  unfolding reading
  reads-entry zero i here h = reads-variable i here (low_alike (left_value s i) (right_value s i) h)
  reads-entry (suc k) i here h =
      reads-step i here (reading s.entries k) (λ j l q. reads-entry k j l (omega arith)) (entry s.entries i).kind
      (sound.table.kind-right i here)
