-- The state that a header and slices hold, as one value. Assumes nothing: this is a definition.
use Rattle.layout.specs.limits.Rows.{Loaded}
use Rattle.layout.specs.header.Held.{held}
use Rattle.area.specs.declared.load.Held.{Held}

abbrev pub state_in : Held → Loaded
state_in s = held s.header s.rows.now s.bindings.now s.lines.now s.entries.now
