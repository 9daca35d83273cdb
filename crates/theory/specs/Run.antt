-- Lists of calls on one area (document 01, "Agreed between us"). Assumes nothing: these are definitions.
use Rattle.std.specs.Prelude.{◌≡◌, List, [], ◌∷◌, Bool, true, false, cond, ◌&&◌, ℕ, length, eqb, leb}
use Rattle.model.specs.Limits.{Limits}
use Rattle.model.specs.Step.{State, Answer, refused, accepted, add_line, bind}
use Rattle.model.specs.Report.{report_bytes}
use Rattle.model.specs.Call.{Outcome, call_add, call_bind, call_report}

-- A call of the list: add a line, fix a choice, or report into an output.
pub data Request : Type 0 where
  add : ℕ → ℕ → Request
  fix : ℕ → ℕ → Request
  ask : List ℕ → Request

unfoldable pub is_line : Request → Bool
is_line (add l r) = true
is_line (fix v t) = false
is_line (ask out) = false

unfoldable pub is_choice : Request → Bool
is_choice (add l r) = false
is_choice (fix v t) = true
is_choice (ask out) = false

-- a line or a choice: what alters an area
unfoldable pub is_step : Request → Bool
is_step (add l r) = true
is_step (fix v t) = true
is_step (ask out) = false

-- The two terms of a line.
unfoldable pub left_term : Request → ℕ
left_term (add l r) = l
left_term (fix v t) = 0
left_term (ask out) = 0

unfoldable pub right_term : Request → ℕ
right_term (add l r) = r
right_term (fix v t) = 0
right_term (ask out) = 0

module _ (lim : Limits) where
  unfoldable pub call : List ℕ → Request → Outcome
  call area (add l r) = call_add lim area l r
  call area (fix v t) = call_bind lim area v t
  call area (ask out) = call_report lim area out

  -- The area after the list: each call gets it as the last one left it.
  unfoldable pub run : List ℕ → List Request → List ℕ
  run area [] = area
  run area (q ∷ qs) = run (call area q).area qs

  -- The accepted calls of the list that pass, in their order. A call is accepted when it answers no refusal.
  unfoldable pub accepted_of : (Request → Bool) → List ℕ → List Request → List Request
  accepted_of p area [] = []
  accepted_of p area (q ∷ qs) =
      let rest = accepted_of p (call area q).area qs in cond (p q && eqb (call area q).refusal 0) (q ∷ rest) rest

  -- No call of the list is refused.
  abbrev pub NoneRefused : List ℕ → List Request → Type 0
  NoneRefused area [] = Unit {0}
  NoneRefused area (q ∷ qs) = ((call area q).refusal ≡ 0) × NoneRefused (call area q).area qs

-- THE SAME BY THE RULES, on states: a line is `add_line`, a choice is `bind`, a report leaves the state.
abbrev pub is_accepted : Answer → Bool
is_accepted (refused n) = false
is_accepted (accepted ns s) = true

-- The state after an answer: a refusal leaves it.
abbrev pub after : State → Answer → State
after s (refused n) = s
after s (accepted ns s') = s'

-- A report's answer, by whether its bytes fit.
abbrev pub reported : State → List ℕ → Bool → Answer
reported s new true = accepted (length new ∷ []) s
reported s new false = refused 13

module _ (lim : Limits) where
  abbrev pub answer : State → Request → Answer
  answer s (add l r) = add_line lim s l r
  answer s (fix v t) = bind s v t
  answer s (ask out) = reported s (report_bytes s) (leb (length (report_bytes s)) (length out))

  abbrev pub next : State → Request → State
  next s q = after s (answer s q)

  -- The state after the list, one call after the other.
  abbrev pub state_run : State → List Request → State
  state_run s [] = s
  state_run s (q ∷ qs) = state_run (next s q) qs

  -- Every call of the list is accepted.
  abbrev pub AllAccepted : State → List Request → Type 0
  AllAccepted s [] = Unit {0}
  AllAccepted s (q ∷ qs) = (is_accepted (answer s q) ≡ true) × AllAccepted (next s q) qs
