-- The index as a struct of lent slices. Assumes nothing: these are definitions.
use Rattle.std.specs.Prelude.{◌≡◌, ℕ, length}
use Rattle.pairs.specs.Index.{Room, Indexed, Pushed}
use Rattle.pairs.specs.declared.Index.{Index}

-- Room, indexed pairs and one pair more (specs/Index.antt), of what the struct lends.
abbrev pub RoomIn : Index → ℕ → Type 0
RoomIn x n = Room x.lefts.now x.rights.now x.cells.now n

abbrev pub IndexedIn : Index → ℕ → Type 0
IndexedIn x n = Indexed x.lefts.now x.rights.now x.cells.now n

abbrev pub PushedIn : Index → Index → ℕ → ℕ → ℕ → ℕ → Type 0
PushedIn x y n a b r = Pushed x.lefts.now x.rights.now y.lefts.now y.rights.now y.cells.now n a b r

-- The struct still lends the same slices, which keep their lengths.
pub record SameSlices (old new : Index) : Type 0 where
  pub lefts : new.lefts.ghost_name ≡ old.lefts.ghost_name
  pub rights : new.rights.ghost_name ≡ old.rights.ghost_name
  pub cells : new.cells.ghost_name ≡ old.cells.ghost_name
  pub lefts_long : length new.lefts.now ≡ length old.lefts.now
  pub rights_long : length new.rights.now ≡ length old.rights.now
  pub cells_long : length new.cells.now ≡ length old.cells.now
