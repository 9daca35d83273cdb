-- Room for the values of a book's terms is room for those of fewer. Assumes nothing.
use Rattle.std.proofs.Common.{List, ℕ, ◌≤◌, arith}
use Rattle.pairs.proofs.Rooms.{room_fewer}
use Rattle.values.specs.evaluate.Valued.{ValueRoom}

-- room for more terms is room for fewer
pub fewer_terms : {list roots names lefts rights cells : List ℕ} {n m : ℕ} → m ≤ n → ValueRoom list roots names lefts rights cells n
    → ValueRoom list roots names lefts rights cells m
fewer_terms l r =
    record {
      list-fits = omega (arith, r.list-fits);
      names_fit = omega (arith, r.names_fit);
      scratch = record { room = room_fewer l r.scratch.room; classes_fit = omega (arith, r.scratch.classes_fit) };
    }
