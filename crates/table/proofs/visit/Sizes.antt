-- The slices of a table keep their lengths. Assumes nothing.
use Rattle.std.proofs.Common.{◌≡◌, refl, ◌∙◌, List, ℕ, length}
use Rattle.pairs.specs.Lent.{SameSlices}
use Rattle.pairs.specs.declared.Index.{Index}

pub record SameSizes (entries lefts rights cells entries' lefts' rights' cells' : List ℕ) : Type 0 where
  pub entries_size : length entries' ≡ length entries
  pub left_size : length lefts' ≡ length lefts
  pub right_size : length rights' ≡ length rights
  pub cells_size : length cells' ≡ length cells

-- an index that lends the same slices, beside the rows of the entries
pub index_sizes : {entries entries' : List ℕ} {x y : Index} → length entries' ≡ length entries → SameSlices x y
    → SameSizes entries x.lefts.now x.rights.now x.cells.now entries' y.lefts.now y.rights.now y.cells.now
index_sizes e s =
    record { entries_size = e; left_size = s.lefts_long; right_size = s.rights_long; cells_size = s.cells_long }

pub same-sizes : (entries lefts rights cells : List ℕ) → SameSizes entries lefts rights cells entries lefts rights cells
same-sizes entries lefts rights cells =
    record { entries_size = refl; left_size = refl; right_size = refl; cells_size = refl }

pub sizes_trans : {e l r c e' l' r' c' e'' l'' r'' c'' : List ℕ} → SameSizes e l r c e' l' r' c'
    → SameSizes e' l' r' c' e'' l'' r'' c'' → SameSizes e l r c e'' l'' r'' c''
sizes_trans a b =
    record {
      entries_size = b.entries_size ∙ a.entries_size;
      left_size = b.left_size ∙ a.left_size;
      right_size = b.right_size ∙ a.right_size;
      cells_size = b.cells_size ∙ a.cells_size;
    }
