-- A turn of a session: a step and the text that it prints, where the text of a report is kept for the next report (document 01,
-- "Sessions"). Assumes nothing: these are definitions.
use Rattle.std.specs.Prelude.{◌≡◌, List, ℕ, ◌≤◌, length, take, Option, None, Some, Ok}
use Rattle.session.specs.declared.command.Command.TheVariants.{Report as AskReport}
use Rattle.session.specs.text.Text.{lines_text}
use Rattle.session.specs.steps.Effects.{Effect, perform}
use Rattle.session.specs.steps.Lines.{lines}
use Rattle.printing.specs.declared.turns.Shown.{Shown}
use Rattle.printing.specs.declared.turns.Shown.TheVariants.{Line, Report}

-- The text that a step prints.
unfoldable pub printed : Effect → List ℕ
printed s = lines_text (lines s.answer s.output)

-- A text that stands in the first n bytes of a buffer.
abbrev pub Front : List ℕ → ℕ → List ℕ → Type 0
Front buffer n bytes = (n ≤ length buffer) × (take n buffer ≡ bytes)

-- The buffer that a turn shows, of that of reports and that of lines, and how much of it.
abbrev pub buffer_of : List ℕ → List ℕ → Shown → List ℕ
buffer_of report text (Line n) = text
buffer_of report text (Report n) = report

abbrev pub size_of : Shown → ℕ
size_of (Line n) = n
size_of (Report n) = n

-- What is kept: nothing; or a report asked for now, wherever it is asked for, leaves the output as it is, and prints the first n bytes
-- of the buffer.
abbrev pub KeptReport : List ℕ → List ℕ → List ℕ → Option ℕ → Type 0
KeptReport area out kept None = Unit {0}
KeptReport area out kept (Some n) = (next : ℕ) → let s = perform area out (Ok (AskReport next)) in (s.output ≡ out) × Front kept n (printed s)
