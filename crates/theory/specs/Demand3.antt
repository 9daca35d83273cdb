-- Demand 3: one theorem about a whole list of calls (document 01, "Agreed between us"). Statements only.
use Rattle.std.specs.Prelude.{◌≡◌, List, [], ◌∷◌, ◌++◌, ℕ, length, take, T}
use Rattle.model.specs.Limits.{Limits}
use Rattle.model.specs.Term.{Book}
use Rattle.model.specs.Step.{opened}
use Rattle.model.specs.Report.{report_bytes}
use Rattle.model.specs.BookBytes.{parsed, parse_book}
use Rattle.model.specs.Area.{sound, state_of}
use Rattle.model.specs.Call.{emit, call_open, call_bind, call_report}
use Rattle.theory.specs.Modest.{Modest}
use Rattle.theory.specs.Choice.{Chosen}
use Rattle.theory.specs.Run.{Request, fix, is_line, is_choice, is_step, run, accepted_of, NoneRefused, state_run, AllAccepted}

-- Two reports give the same answer and write the same bytes.
pub record SameReport (lim : Limits) (area₁ area₂ out₁ out₂ : List ℕ) : Type 0 where
  pub refusal : (call_report lim area₁ out₁).refusal ≡ (call_report lim area₂ out₂).refusal
  pub numbers : (call_report lim area₁ out₁).numbers ≡ (call_report lim area₂ out₂).numbers
  pub bytes : (n : ℕ) → (call_report lim area₁ out₁).numbers ≡ n ∷ []
      → take n (call_report lim area₁ out₁).output ≡ take n (call_report lim area₂ out₂).output

-- After the list of calls on the first area, just opened with book b; the second area was opened with the same book and capacity.
pub record WholeList (lim : Limits) (b : Book) (capacity : ℕ) (opened₁ opened₂ : List ℕ) (calls : List Request) : Type 0 where
  -- the first area is sound, and is the one that the accepted steps alone give, none of which is then refused
  pub stays-sound : T (sound lim (run lim opened₁ calls))
  pub steps_alone : run lim opened₁ calls ≡ run lim opened₁ (accepted_of lim is_step opened₁ calls)
  pub steps-accepted : NoneRefused lim opened₁ (accepted_of lim is_step opened₁ calls)
  -- the rules accept these steps too, one after the other from the book just opened; the area's state is the one that they give,
  -- and a report is that state's
  pub rules-accept : AllAccepted lim (opened b capacity) (accepted_of lim is_step opened₁ calls)
  pub by_the_rules : state_of (run lim opened₁ calls) lim ≡ state_run lim (opened b capacity) (accepted_of lim is_step opened₁ calls)
  pub rules-report : (out : List ℕ)
      → call_report lim (run lim opened₁ calls) out ≡
      emit (report_bytes (state_run lim (opened b capacity) (accepted_of lim is_step opened₁ calls))) (run lim opened₁ calls) out
  -- the second area takes the accepted choices, then the accepted lines, and refuses none
  pub again_accepted : NoneRefused lim opened₂ (accepted_of lim is_choice opened₁ calls ++ accepted_of lim is_line opened₁ calls)
  -- the two reports are the same, 13 included
  pub same-report : (out₁ out₂ : List ℕ) → length out₁ ≡ length out₂
      → SameReport lim (run lim opened₁ calls)
      (run lim opened₂ (accepted_of lim is_choice opened₁ calls ++ accepted_of lim is_line opened₁ calls)) out₁ out₂
  -- each accepted choice of the list turns and keeps the old entries as it should
  pub choices : (before after : List Request) (v t : ℕ) → calls ≡ before ++ fix v t ∷ after
      → let area = run lim opened₁ before in
      (call_bind lim area v t).refusal ≡ 0
      → Chosen (state_of area lim) (state_of (call_bind lim area v t).area lim) v (call_bind lim area v t).numbers

abbrev pub Demand3 : Type 0
Demand3 = (lim : Limits) → Modest lim → (capacity : ℕ) (book area₁ area₂ : List ℕ)
    → (call_open lim capacity book area₁).refusal ≡ 0 → (call_open lim capacity book area₂).refusal ≡ 0 → (calls : List Request)
    → (b : Book) × (parse_book lim book ≡ parsed b [])
    × WholeList lim b capacity (call_open lim capacity book area₁).area (call_open lim capacity book area₂).area calls

-- What is said of a choice holds on any sound area.
abbrev pub ChoiceOnAreas : Type 0
ChoiceOnAreas = (lim : Limits) → Modest lim → (area : List ℕ) (v t : ℕ) → T (sound lim area) → (call_bind lim area v t).refusal ≡ 0
    → Chosen (state_of area lim) (state_of (call_bind lim area v t).area lim) v (call_bind lim area v t).numbers
