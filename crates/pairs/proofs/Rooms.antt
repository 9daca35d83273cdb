-- Room for a list of pairs depends on lengths alone, and is room for fewer. Assumes nothing.
use Rattle.std.proofs.Common.{◌≡◌, List, ℕ, ◌≤◌, arith, length}
use Rattle.pairs.specs.Index.{Room}

-- slices of the same lengths have the same room
pub room_kept : {lefts rights cells lefts' rights' cells' : List ℕ} {n : ℕ} → Room lefts rights cells n
    → length lefts' ≡ length lefts → length rights' ≡ length rights → length cells' ≡ length cells → Room lefts' rights' cells' n
room_kept r l h k =
    record {
      lefts_fit = rw l r.lefts_fit;
      rights_fit = rw h r.rights_fit;
      cells_fit = rw k r.cells_fit;
      words = rw l r.words;
    }

-- room for more pairs is room for fewer
pub room_fewer : {lefts rights cells : List ℕ} {n m : ℕ} → m ≤ n → Room lefts rights cells n → Room lefts rights cells m
room_fewer l r =
    record {
      lefts_fit = omega arith;
      rights_fit = omega arith;
      cells_fit = omega arith;
      words = r.words;
    }
