-- The loop of the session program: what it goes through and the whole text that it prints, against the session of crate model.
-- Definitions, and statements of what is proved in proofs/.
use Rattle.std.specs.Prelude.{◌≡◌, List, [], ◌++◌, cond, ℕ, zero, suc, ◌<◌, ◌≤◌, length, ltb}
use Rattle.model.specs.Limits.{office, session_capacity}
use Rattle.model.specs.Area.{area_length}
use Rattle.model.specs.Session.{session}
use Rattle.theory.specs.Lengths.{longest_session_report}
use Rattle.session.specs.text.Text.{line_text, lines_text}
use Rattle.session.specs.steps.Effects.{Effect, start, step_at, next_or, first_or}
use Rattle.session.specs.steps.Lines.{opening_line}
use Rattle.printing.specs.turns.Turns.{printed}

-- Where a session stands between two steps: its position in the input, the area and the output.
pub record Standing : Type 0 where
  pub at : ℕ
  pub area : List ℕ
  pub output : List ℕ

abbrev pub standing : ℕ → List ℕ → List ℕ → Standing
standing at area out = record { at = at; area = area; output = out }

module _ (input : List ℕ) where
  -- The step that is taken from there.
  unfoldable pub step_from : Standing → Effect
  step_from s = step_at input s.area s.output s.at

  -- Where it leads: to the position after the step, and to the end of the input where the session is over.
  unfoldable pub turn : Standing → Standing
  turn s = let e = step_from s in standing (next_or (length input) e.answer) e.area e.output

  -- Where at most k turns lead, each of them taken while there is input left; and what they print.
  unfoldable pub turns : ℕ → Standing → Standing
  turns zero s = s
  turns (suc k) s = cond (ltb s.at (length input)) (turns k (turn s)) s

  unfoldable pub turns_text : ℕ → Standing → List ℕ
  turns_text zero s = []
  turns_text (suc k) s = cond (ltb s.at (length input)) (printed (step_from s) ++ turns_text k (turn s)) []

  -- All turns: each takes a byte at least, so there are at most as many as the input has bytes.
  unfoldable pub end_from : Standing → Standing
  end_from s = turns (length input) s

  unfoldable pub text_from : Standing → List ℕ
  text_from s = turns_text (length input) s

  -- Where the opening leads: to the first step, and to the end of the input where it is refused.
  unfoldable pub after_start : List ℕ → List ℕ → Standing
  after_start area out = let s = start input area in standing (first_or (length input) s.answer) s.area out

  -- The whole session on an area and an output: where it ends, and its text, the opening's line and all that the turns print.
  unfoldable pub session_end : List ℕ → List ℕ → Standing
  session_end area out = end_from (after_start area out)

  unfoldable pub session_text : List ℕ → List ℕ → List ℕ
  session_text area out = line_text (opening_line (start input area).answer) ++ text_from (after_start area out)

-- STATEMENTS. All turns with no count of them: none at the end of the input, and before it one turn and then all others. At the end
-- no input is left.
pub record TurnByTurn : Type 0 where
  pub none : (input : List ℕ) (s : Standing) → length input ≤ s.at → (end_from input s ≡ s) × (text_from input s ≡ [])
  pub one : (input : List ℕ) (s : Standing) → s.at < length input
      → (end_from input s ≡ end_from input (turn input s)) × (text_from input s ≡ printed (step_from input s) ++ text_from input (turn input s))
  pub at_the_end : (input : List ℕ) (s : Standing) → length input ≤ (end_from input s).at

-- The text is that of the session, for every input, whatever the area and the output held before, where the area has the length
-- that the session's capacity needs, and the output that of the longest report.
abbrev pub TextOfSession : Type 0
TextOfSession = (input area out : List ℕ) → area_length office session_capacity ≤ length area → longest_session_report ≤ length out
    → session_text input area out ≡ lines_text (session input)
