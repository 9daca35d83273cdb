-- The limits that functions take, as the limits of the model. Assumes nothing: these are definitions.
use Rattle.model.specs.Limits.{Limits}
use Rattle.layout.specs.declared.limits.Limits.{Limits as LimitsStruct}

abbrev pub limits_of : LimitsStruct → Limits
limits_of l = record { max_terms = l.terms; max_capacity = l.capacity; max_lines = l.lines }
