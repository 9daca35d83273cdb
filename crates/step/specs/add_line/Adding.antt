-- Adding a line to a loaded state: what it asks, and what its answer and the words are after it (document 01, "Add a line").
-- Assumes nothing: these are definitions.
use Rattle.std.specs.Prelude.{List, ℕ, Result}
use Rattle.model.specs.Limits.{Limits}
use Rattle.model.specs.Step.{add_line}
use Rattle.layout.specs.limits.Rows.{loaded_state}
use Rattle.layout.specs.declared.header.Header.{Header}
use Rattle.layout.specs.header.Held.{held}
use Rattle.area.specs.load.Ready.{Ready}
use Rattle.refusal.specs.declared.Refusal.{Refusal}
use Rattle.step.specs.declared.answer.Step.TheVariants.{Add}
use Rattle.step.specs.declared.answer.Stepped.{Stepped}
use Rattle.step.specs.answer.Stepped.{answer_of, header_after, Gives}

-- The words are those of a sound state for some bindings, which adding does not read, and the values of its terms are known.
pub record GivenBindings (lim : Limits) (h : Header) (rows roots names lines entries : List ℕ) : Type 0 where
  pub bindings : List ℕ
  pub list : List ℕ
  pub ready : Ready lim (held h rows bindings lines entries) list roots names

-- Whatever the bindings are, the line (l, r) is added: its answer, and the words after it.
abbrev pub AddsLine : Limits → Header → List ℕ → List ℕ → List ℕ → List ℕ → List ℕ → ℕ → ℕ → Result Stepped Refusal → List ℕ → List ℕ → Type 0
AddsLine lim h rows roots names lines entries l r s lines' entries' =
    (bindings list : List ℕ) → let w = held h rows bindings lines entries in
    Ready lim w list roots names
    → Gives lim (Add l r) (add_line lim (loaded_state w) l r) (answer_of s) (held (header_after h s) rows bindings lines' entries')
