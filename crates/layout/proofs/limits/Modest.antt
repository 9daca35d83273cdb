-- The limits that functions take are at most the office's, as their type says. Assumes nothing.
use Rattle.theory.specs.Modest.{Modest}
use Rattle.layout.specs.limits.Limits.{limits_of}
use Rattle.layout.specs.declared.limits.Limits.{Limits}

pub modest : (l : Limits) → Modest (limits_of l)
modest l = record { terms = l.modest.0; capacity = l.modest.1; lines = l.modest.2 }
