-- What storing and restoring are lent to work in. Assumes nothing: these are definitions.
use Rattle.std.specs.Prelude.{◌≡◌, List, ℕ, ◌*◌, replicate}
use Rattle.model.specs.Limits.{Limits}
use Rattle.model.specs.Area.{term_words}

-- Rows, a list, its places and rows for the book moved, for as many terms as the limit, all zero.
pub record Lent (lim : Limits) (rows listed places moved : List ℕ) : Type 0 where
  pub rows_zero : rows ≡ replicate (term_words * lim.max_terms) 0
  pub listed_zero : listed ≡ replicate lim.max_terms 0
  pub places_zero : places ≡ replicate lim.max_terms 0
  pub moved_zero : moved ≡ replicate (term_words * lim.max_terms) 0
