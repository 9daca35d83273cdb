-- Lines as terms on a sound state: the two fillings rebuild both sides, and the lines are the least. Assumes nothing.
use mathlib.Core.Path.{◌≡◌, refl, sym, ap, ap₂, ◌∙◌}
use mathlib.Core.List.{List, [], ◌∷◌, map}
use Prim.Native.Nat.{ℕ, suc, ◌<◌, zero-le, suc-le-suc}
use lib.ListN.{length, get_or}
use Rattle.model.specs.Limits.{Limits}
use Rattle.model.specs.Term.{Tree}
use Rattle.model.specs.Table.{entry}
use Rattle.model.specs.Step.{State}
use Rattle.model.specs.Pattern.{Pattern, fill, refine, entry_reading, left_value, right_value, line_readings}
use Rattle.theory.proofs.Soundness.Facts.{SoundFacts}
use Rattle.theory.proofs.Values.Heights.{height_value}
use Rattle.theory.proofs.Patterns.Lgg.{lgg, least-list}
use Rattle.theory.proofs.Patterns.Entry.{class, ReadsEntry, reads-entry}

-- functions that agree on a list's elements have one map
map_agree : {A : Type 0} (f g : ℕ → A) (is : List ℕ) → ((k : ℕ) → k < length is → f (get_or is k 0) ≡ g (get_or is k 0)) → map f is ≡ map g is
map_agree f g [] h = refl
map_agree f g (i ∷ is) h = ap₂ ◌∷◌ (h 0 (suc-le-suc zero-le)) (map_agree f g is (λ k l. h (suc k) (suc-le-suc l)))

-- one map after another
map-map : {A B : Type 0} (f : A → B) (g : ℕ → A) (is : List ℕ) → map f (map g is) ≡ map (λ i. f (g i)) is
map-map f g [] = refl
map-map f g (i ∷ is) = ap (λ xs. f (g i) ∷ xs) (map-map f g is)

module _ (lim : Limits) (s : State) (sound : SoundFacts lim s) where
  -- every entry is read by its reading
  reads : (i : ℕ) → i < length s.entries → ReadsEntry s (entry_reading s i) i
  unfolding entry_reading left_value
  reads i h = reads-entry lim s sound (length s.book) i h (height_value s.book s.bound (length s.book) (entry s.entries i).left)

  pub fill-left : (i : ℕ) → i < length s.entries → fill (left_value s) (entry_reading s i) ≡ left_value s i
  fill-left i h = (reads i h).left

  pub fill-right : (i : ℕ) → i < length s.entries → fill (right_value s) (entry_reading s i) ≡ right_value s i
  fill-right i h = (reads i h).right

  -- so the fillings of the lines are the lines' values
  pub fill-lines-left : map (fill (left_value s)) (line_readings s) ≡ map (left_value s) s.lines
  unfolding line_readings
  fill-lines-left = map-map (fill (left_value s)) (entry_reading s) s.lines
      ∙ map_agree (λ i. fill (left_value s) (entry_reading s i)) (left_value s) s.lines (λ k l. fill-left (get_or s.lines k 0) (sound.line-entries k l))

  pub fill-lines-right : map (fill (right_value s)) (line_readings s) ≡ map (right_value s) s.lines
  unfolding line_readings
  fill-lines-right = map-map (fill (right_value s)) (entry_reading s) s.lines
      ∙ map_agree (λ i. fill (right_value s) (entry_reading s i)) (right_value s) s.lines (λ k l. fill-right (get_or s.lines k 0) (sound.line-entries k l))

  pub least-lines : (others : List Pattern) (σ τ : ℕ → Tree) → map (fill σ) others ≡ map (left_value s) s.lines
      → map (fill τ) others ≡ map (right_value s) s.lines → (θ : ℕ → Pattern) × (map (refine θ) others ≡ line_readings s)
  unfolding line_readings
  least-lines others σ τ h g = (
    λ x. lgg (class s) (σ x) (τ x),
    least-list (class s) σ τ (left_value s) (right_value s) others s.lines h g ∙
        map_agree (λ i. lgg (class s) (left_value s i) (right_value s i)) (entry_reading s) s.lines
        (λ k l. sym (reads (get_or s.lines k 0) (sound.line-entries k l)).least),
  )
