-- A step on a loaded state: what its answer and the words after it are (document 01, "Add a line", "Fix a choice", "Turned
-- down"). Assumes nothing: these are definitions.
use Rattle.std.specs.Prelude.{◌≡◌, List, [], ◌∷◌, ℕ, get_or, Result, Ok, Err}
use Rattle.model.specs.Limits.{Limits}
use Rattle.model.specs.Step.{State, Answer, refused, accepted}
use Rattle.model.specs.Area.{area_words}
use Rattle.layout.specs.limits.Rows.{Loaded, Sized, loaded_words}
use Rattle.layout.specs.declared.header.Header.{Header}
use Rattle.step.specs.declared.answer.Step.{Step}
use Rattle.step.specs.declared.answer.Step.TheVariants.{Add, Bind}
use Rattle.refusal.specs.declared.Refusal.{Refusal}
use Rattle.refusal.specs.Numbers.{refusal_of, number}
use Rattle.step.specs.declared.answer.Accepted.{Accepted}
use Rattle.step.specs.declared.answer.Accepted.TheVariants.{Added, Bound}
use Rattle.step.specs.declared.answer.Stepped.{Stepped}

-- DOCUMENT 01'S NUMBERS FOR EACH ANSWER, beside its refusal's. A line's entry, and a choice's counts of entries turned and appended;
-- 0 where the answer has none.
abbrev pub entry_number : Result Accepted Refusal → ℕ
entry_number (Ok (Added i)) = i
entry_number (Ok (Bound m n)) = 0
entry_number (Err e) = 0

abbrev pub turned_number : Result Accepted Refusal → ℕ
turned_number (Ok (Added i)) = 0
turned_number (Ok (Bound m n)) = m
turned_number (Err e) = 0

abbrev pub appended_number : Result Accepted Refusal → ℕ
appended_number (Ok (Added i)) = 0
appended_number (Ok (Bound m n)) = n
appended_number (Err e) = 0

-- The numbers that a step answers beside its refusal: one of a line, two of a choice.
unfoldable pub step_numbers : Step → Result Accepted Refusal → List ℕ
step_numbers (Add l r) a = entry_number a ∷ []
step_numbers (Bind v t) a = turned_number a ∷ appended_number a ∷ []

-- The answer of an accepted step with these numbers.
unfoldable pub accepted_as : Step → List ℕ → Accepted
accepted_as (Add l r) ns = Added (get_or ns 0 0)
accepted_as (Bind v t) ns = Bound (get_or ns 0 0) (get_or ns 1 0)

-- WHAT IS LEFT. The answer and the header after a step; a refused one leaves the header as it was.
abbrev pub answer_of : Result Stepped Refusal → Result Accepted Refusal
answer_of (Ok s) = Ok s.accepted
answer_of (Err e) = Err e

abbrev pub header_after : {E : Type 0} → Header → Result Stepped E → Header
header_after h (Ok s) = record { capacity = h.capacity; terms = h.terms; entries = s.entries; lines = s.lines }
header_after h (Err e) = h

-- Loaded words are those of a state, each part with its length.
pub record Leaves (lim : Limits) (s : State) (w : Loaded) : Type 0 where
  pub sized : Sized lim w
  pub words : loaded_words w ≡ area_words lim s

-- A step gives its answer: a refusal, which is not 0, whatever the words are; or its numbers, and the words of the state after it.
unfoldable pub Gives : Limits → Step → Answer → Result Accepted Refusal → Loaded → Type 0
Gives lim step (refused n) a w = (a ≡ Err (refusal_of n)) × (number a ≡ n) × (n ≡ 0 → ⊥)
Gives lim step (accepted ns s) a w = (a ≡ Ok (accepted_as step ns)) × (step_numbers step a ≡ ns) × Leaves lim s w
