-- Limits up to the office's. Assumes nothing: these are definitions.
use Rattle.std.specs.Prelude.{◌≤◌}
use Rattle.model.specs.Limits.{Limits, office}

pub record Modest (lim : Limits) : Type 0 where
  pub terms : lim.max_terms ≤ office.max_terms
  pub capacity : lim.max_capacity ≤ office.max_capacity
  pub lines : lim.max_lines ≤ office.max_lines
