-- What a report depends on, and what it tells. Statements only.
use Rattle.std.specs.Prelude.{◌≡◌, map, T}
use Rattle.model.specs.Limits.{Limits}
use Rattle.model.specs.Step.{State}
use Rattle.model.specs.Pattern.{left_value, right_value}
use Rattle.model.specs.Report.{report, report_bytes}
use Rattle.model.specs.Area.{sound_state}
use Rattle.theory.specs.Modest.{Modest}

-- On sound states the report is a function of the book, the bindings and the value pairs of the lines alone: two states that
-- agree on these, also of other limits, other capacities and other entries, have one report.
abbrev pub ReportOfValues : Type 0
ReportOfValues = (lim₁ lim₂ : Limits) (s₁ s₂ : State) → T (sound_state lim₁ s₁) → T (sound_state lim₂ s₂) → s₁.book ≡ s₂.book
    → s₁.bound ≡ s₂.bound → map (left_value s₁) s₁.lines ≡ map (left_value s₂) s₂.lines
    → map (right_value s₁) s₁.lines ≡ map (right_value s₂) s₂.lines → report s₁ ≡ report s₂

-- And its bytes tell them: where two such states have one book, the same bindings and the same bytes of the report, their lines
-- have the same value pairs, in their order.
abbrev pub ReportTells : Type 0
ReportTells = (lim₁ lim₂ : Limits) → Modest lim₁ → Modest lim₂ → (s₁ s₂ : State) → T (sound_state lim₁ s₁) → T (sound_state lim₂ s₂)
    → s₁.book ≡ s₂.book → s₁.bound ≡ s₂.bound → report_bytes s₁ ≡ report_bytes s₂
    → (map (left_value s₁) s₁.lines ≡ map (left_value s₂) s₂.lines)
    × (map (right_value s₁) s₁.lines ≡ map (right_value s₂) s₂.lines)
