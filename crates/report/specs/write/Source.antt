-- The state that a report's source shows. Assumes nothing: these are definitions.
use Rattle.std.specs.Prelude.{◌≡◌}
use Rattle.model.specs.Step.{State}
use Rattle.report.specs.write.Shown.{head_numbers, Shown}
use Rattle.report.specs.declared.write.Source.{Source}

-- The source shows state s, and has its numbers before the entries.
abbrev pub Shows : State → Source → Type 0
Shows s r = Shown s r.names.now r.entries.now r.met.now r.numbers.now × (r.head.now ≡ head_numbers s)
