-- A list of pairs of numbers, held as two lists, and the first place of a pair in it. Assumes nothing: these are definitions.
use Rattle.std.specs.Prelude.{List, map, Bool, ◌&&◌, ℕ, get_or, eqb}
use Rattle.model.specs.Lists.{first, from}

-- A pair of numbers.
pub record Pair : Type 0 where
  pub left : ℕ
  pub right : ℕ

-- The pair at place i of two lists, and the first n pairs, place by place.
unfoldable pub pair_at : List ℕ → List ℕ → ℕ → Pair
pair_at lefts rights i = record { left = get_or lefts i 0; right = get_or rights i 0 }

unfoldable pub pairs_of : List ℕ → List ℕ → ℕ → List Pair
pairs_of lefts rights n = map (pair_at lefts rights) (from 0 n)

-- Whether a pair is (a, b).
unfoldable pub is_pair : ℕ → ℕ → Pair → Bool
is_pair a b p = eqb p.left a && eqb p.right b

-- The first place of (a, b) among the first n pairs, or n where none of them is (a, b).
unfoldable pub place_of : List ℕ → List ℕ → ℕ → ℕ → ℕ → ℕ
place_of lefts rights n a b = first (is_pair a b) (pairs_of lefts rights n)
