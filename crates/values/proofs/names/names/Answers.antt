-- The classes are those of the values, so the lowest term of a class is the name.
use Rattle.values.proofs.names.Lowest.{names_found}
use Rattle.values.proofs.names.names.Goals as goal

pub returns-clause-names : goal.returns-clause-names
returns-clause-names c = names_found _ _ _ _ _ _ c.classify.ensures.classes c.lowest_of_class.ensures
