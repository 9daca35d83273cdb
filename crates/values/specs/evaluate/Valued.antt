-- The values of the terms of a book in slices of words: the list of the terms, what each stands for, and its name; and the room
-- that they need. Assumes nothing: these are definitions.
use Rattle.std.specs.Prelude.{◌≡◌, List, map, ℕ, ◌≤◌, length, take}
use Rattle.model.specs.Lists.{from}
use Rattle.model.specs.Term.{deref, name}
use Rattle.layout.specs.limits.Rows.{book_of, bound_of}
use Rattle.values.specs.roots.Reading.{Listed}
use Rattle.values.specs.names.Classes.{Scratch}

-- The list has the n terms, each behind what its value is made of; then what each term stands for, and its name.
pub record Valued (rows bindings list roots names : List ℕ) (n : ℕ) : Type 0 where
  pub listed : Listed rows bindings list n
  pub is-roots : take n roots ≡ map (deref (book_of rows n) (bound_of bindings n) n) (from 0 n)
  pub is-names : take n names ≡ map (name (book_of rows n) (bound_of bindings n)) (from 0 n)

-- The slices have room for the values of n terms; those behind `names` are scratch, and so is `roots` at first.
pub record ValueRoom (list roots names lefts rights cells : List ℕ) (n : ℕ) : Type 0 where
  pub list-fits : n ≤ length list
  pub names_fit : n ≤ length names
  pub scratch : Scratch roots lefts rights cells n
