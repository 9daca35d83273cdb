-- The header that reading an area gives. Assumes nothing.
use Rattle.std.proofs.Common.{◌≡◌, refl, List, ℕ}
use Rattle.layout.specs.declared.header.Header.{Header}
use Rattle.area.specs.load.Loading.{header_of}
use Rattle.area.proofs.test.Whole.{HeaderOf}

-- its numbers are the first words of the area
pub headed : (area : List ℕ) (h : Header) → h ≡ header_of area → HeaderOf area h
unfolding header_of
headed area h e = rw e (refl, refl, refl, refl)
