-- Keys of terms: the symbol of an application and the classes of its arguments, and a hash of them. Assumes nothing: these are
-- definitions.
use Rattle.std.specs.Prelude.{◌≡◌, List, [], ◌∷◌, map, ℕ, suc, ◌+◌, ◌*◌, ◌/◌, ◌%◌, ◌≤◌, ◌<◌, length, Option, MatchOption}
use Rattle.model.specs.Term.{Node, var, app}
use Rattle.layout.specs.limits.Rows.{at, node_of}

-- The key of a node, where `below` gives the classes of its arguments. All variables have the empty one.
unfoldable pub key_of : (ℕ → ℕ) → Node → List ℕ
key_of below var = []
key_of below (app s args) = suc s ∷ map below args

abbrev pub key_at : List ℕ → List ℕ → ℕ → List ℕ
key_at rows classes t = key_of (at classes) (node_of rows t)

-- A number below 2 ^ 64 from such a number and one more below 2 ^ 32, and from several more.
unfoldable pub mixed : ℕ → ℕ → ℕ
mixed h c = h % 4294967296 * (2654435843 + c % 1073741824) + h / 4294967296 + c

unfoldable pub hash_from : ℕ → List ℕ → ℕ
hash_from h [] = h
hash_from h (c ∷ cs) = hash_from (mixed h c) cs

-- The numbers at the first k places of the list are among n terms.
pub record FirstTerms (list : List ℕ) (n k : ℕ) : Type 0 where
  pub list-fits : k ≤ length list
  pub term : (j : ℕ) → j < k → at list j < n

-- A place of the key of term t among the first k of the list, or none where there is none.
abbrev pub Earlier : List ℕ → List ℕ → List ℕ → ℕ → ℕ → Option ℕ → Type 0
Earlier rows classes list k t r =
    MatchOption r ((j : ℕ) → j < k → key_at rows classes t ≡ key_at rows classes (at list j) → ⊥)
    (λ j. (j < k) × (key_at rows classes t ≡ key_at rows classes (at list j)))
