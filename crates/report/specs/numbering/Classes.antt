-- Classes that are met, as the code holds them. Assumes nothing: these are definitions.
use Rattle.std.specs.Prelude.{◌≡◌, List, ℕ}
use Rattle.report.specs.declared.numbering.Classes.{Classes}
use Rattle.report.specs.numbering.Numbering.{MetAll}

-- From a to b by meeting the classes xs, in the same table and the same slices.
abbrev pub Meets : Classes → List ℕ → Classes → Type 0
Meets a xs b =
    MetAll a.m a.met.now a.count xs b.met.now b.numbers.now b.count × (b.m ≡ a.m) × (b.entries ≡ a.entries)
    × (b.met.ghost_name ≡ a.met.ghost_name) × (b.numbers.ghost_name ≡ a.numbers.ghost_name)
