-- The test of an entry's same-as (document 01, "Areas"). Assumes nothing: these are definitions.
use Rattle.std.specs.Prelude.{Bool, true, false, eqb}
use Rattle.model.specs.Term.{Book, Bindings}
use Rattle.model.specs.Table.{Entry, Table, entry_of}
use Rattle.soundness.specs.declared.entries.SameAs.{SameAs}
use Rattle.soundness.specs.declared.entries.SameAs.TheVariants.{Wrong, Apart, Shared}

-- Same-as is the lowest entry with its values.
unfoldable pub same_as_right : Book → Bindings → Table → Entry → Bool
same_as_right b β es e = eqb e.same_as (entry_of b β es e.left e.right)

-- What the test of all entries finds says whether all are right.
abbrev pub all_right : SameAs → Bool
all_right Wrong = false
all_right Apart = true
all_right Shared = true
