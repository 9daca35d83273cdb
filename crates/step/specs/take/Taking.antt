-- A step on a loaded state, whichever it is, and the bytes that it leaves (document 01, "Add a line", "Fix a choice", "Turned
-- down"). Assumes nothing: these are definitions.
use Rattle.std.specs.Prelude.{List, cond, ℕ, eqb, Result}
use Rattle.model.specs.Limits.{Limits}
use Rattle.model.specs.Lists.{concat_map}
use Rattle.model.specs.Step.{State, Answer, add_line, bind}
use Rattle.model.specs.Area.{word_size, to_bytes}
use Rattle.model.specs.Call.{over}
use Rattle.layout.specs.limits.Rows.{Loaded, loaded_words}
use Rattle.layout.specs.header.Held.{held}
use Rattle.area.specs.declared.load.Held.{Held}
use Rattle.step.specs.declared.answer.Step.{Step}
use Rattle.step.specs.declared.answer.Step.TheVariants.{Add, Bind}
use Rattle.step.specs.declared.answer.Stepped.{Stepped}
use Rattle.step.specs.answer.Stepped.{header_after}

-- A line is added, a choice is fixed.
unfoldable pub step_of : Limits → Step → State → Answer
step_of lim (Add l r) s = add_line lim s l r
step_of lim (Bind v t) s = bind s v t

-- The state after a step: what these slices hold, with the header after the step in place of theirs.
abbrev pub state_after : {E : Type 0} → Result Stepped E → Held → Loaded
state_after s w = held (header_after w.header s) w.rows.now w.bindings.now w.lines.now w.entries.now

-- An area after a step: with the words that it leaves, or as it was where it is refused.
unfoldable pub stored_bytes : ℕ → Loaded → List ℕ → List ℕ
stored_bytes refusal w area = cond (eqb refusal 0) (over (concat_map (to_bytes word_size) (loaded_words w)) area) area
