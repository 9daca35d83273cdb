-- The statements of specs/whole/Loop.antt, proved: all turns are taken, and what they print is the text of the session. Assumes
-- nothing.
use mathlib.Core.Path.{◌≡◌, refl, ap, sym, ◌∙◌}
use mathlib.Core.List.{List, [], ◌++◌}
use mathlib.Core.Bool.{Bool, true, false, cond}
use Prim.Native.Nat.{ℕ, zero, suc, ◌+◌, ◌≤◌, ◌<◌}
use native.Mathlib.Omega.{arith}
use lib.ListN.{length}
use lib.Dec.{ltb}
use borrow.Author.Tests.{ltb-true, ltb-false, le-ltb, lt-ltb}
use Rattle.model.specs.Lists.{concat_map}
use Rattle.model.specs.Session.{Printed}
use Rattle.theory.proofs.Lists.Laws.{concat_map-append}
use Rattle.std.specs.Prelude.{Result, Ok, Err}
use Rattle.refusal.specs.declared.Refusal.{Refusal}
use Rattle.session.specs.declared.steps.Reply.{Reply}
use Rattle.session.specs.declared.steps.Reply.TheVariants.{Ended, Stopped, Answered, NotReported, Reported}
use Rattle.session.specs.text.Text.{line_text, lines_text}
use Rattle.session.specs.steps.Effects.{Start, Effect, start, next_or, first_or}
use Rattle.session.specs.steps.Lines.{opening_line, lines}
use Rattle.printing.specs.turns.Turns.{printed}
use Rattle.printing.specs.whole.Whole.{onward, after_opening, steps_from, all_steps, session_on_bytes}
use Rattle.printing.specs.whole.Loop.{Standing, step_from, turn, turns, turns_text, end_from, text_from, after_start, session_text, TurnByTurn, TextOfSession}
use Rattle.printing.proofs.whole.Progress.{steps_go_on, goes_behind, past_end}
use Rattle.printing.proofs.whole.Theorems.{session_on_bytes_lem}

-- ---- all turns

-- two ends and two texts are the same
abbrev Same : Standing → Standing → List ℕ → List ℕ → Type 0
Same s t x y = (s ≡ t) × (x ≡ y)

module _ (input : List ℕ) where
  -- at the end of the input there is none
  none_left : (k : ℕ) (s : Standing) → length input ≤ s.at → Same (turns input k s) s (turns_text input k s) []
  unfolding turns turns_text
  none_left zero s l = (refl, refl)
  none_left (suc k) s l = rw (le-ltb s.at (length input) l) (refl, refl)

  -- before it a turn leads behind
  behind : (s : Standing) → s.at < length input → s.at < (turn input s).at
  unfolding turn step_from
  behind s l = (goes_behind s.at (length input) _ (steps_go_on input s.at s.area s.output) l).0

  -- as many turns as there are bytes left are all
  enough : (j k : ℕ) (s : Standing) → length input ≤ s.at + j → length input ≤ s.at + k
      → Same (turns input j s) (turns input k s) (turns_text input j s) (turns_text input k s)
  unfolding turns turns_text
  enough zero k s h g = let n = none_left k s (omega (arith, h)) in (sym n.0, sym n.1)
  enough (suc j) zero s h g = none_left (suc j) s (omega (arith, g))
  enough (suc j) (suc k) s h g =
      go (ltb s.at (length input)) refl (λ b. enough j k (turn input s) (omega (arith, h, b)) (omega (arith, g, b)))
    where
      go : (t : Bool) → ltb s.at (length input) ≡ t
          → (s.at < (turn input s).at → Same (turns input j (turn input s)) (turns input k (turn input s)) (turns_text input j (turn input s)) (turns_text input k (turn input s)))
          → let end : ℕ → Standing = λ n. cond t (turns input n (turn input s)) s in
          let text : ℕ → List ℕ = λ n. cond t (printed (step_from input s) ++ turns_text input n (turn input s)) [] in
          Same (end j) (end k) (text j) (text k)
      go true e ih =
          let i = ih (behind s (ltb-true s.at (length input) e)) in
          (i.0, ap (λ x. printed (step_from input s) ++ x) i.1)
      go false e ih = (refl, refl)

  -- where they end there is no input left
  ended : (k : ℕ) (s : Standing) → length input ≤ s.at + k → length input ≤ (turns input k s).at
  unfolding turns
  ended zero s h = omega (arith, h)
  ended (suc k) s h = go (ltb s.at (length input)) refl (λ b. ended k (turn input s) (omega (arith, h, b)))
    where
      go : (t : Bool) → ltb s.at (length input) ≡ t → (s.at < (turn input s).at → length input ≤ (turns input k (turn input s)).at)
          → length input ≤ (cond t (turns input k (turn input s)) s).at
      go true e ih = ih (behind s (ltb-true s.at (length input) e))
      go false e ih = ltb-false s.at (length input) e

  -- before the end one turn, and then all others
  one-turn : (s : Standing) → s.at < length input
      → Same (end_from input s) (end_from input (turn input s)) (text_from input s) (printed (step_from input s) ++ text_from input (turn input s))
  unfolding end_from text_from turns turns_text
  one-turn s l =
      let more = enough (length input) (suc (length input)) s (omega arith) (omega arith) in
      rw (lt-ltb s.at (length input) l) at more

pub turn_by_turn : TurnByTurn
unfolding end_from text_from
turn_by_turn =
    record {
      none = λ input s l. none_left input (length input) s l;
      one = one-turn;
      at_the_end = λ input s. ended input (length input) s (omega arith);
    }

-- ---- what they print

module _ (input : List ℕ) where
  -- a session that is over stands at the end of the input, where nothing follows
  over-after : (a : Reply Refusal) (f : ℕ → Printed) → f (length input) ≡ [] → onward a f ≡ f (next_or (length input) a)
  unfolding onward next_or
  over-after Ended f e = sym e
  over-after (Stopped n) f e = sym e
  over-after (Answered a next) f e = refl
  over-after (NotReported n next) f e = refl
  over-after (Reported n next) f e = refl

  over-at-first : (a : Result ℕ Refusal) (f : ℕ → Printed) → f (length input) ≡ [] → after_opening a f ≡ f (first_or (length input) a)
  unfolding after_opening first_or
  over-at-first (Err x) f e = sym e
  over-at-first (Ok at) f e = refl

  -- the turns print the lines of the steps
  same_text : (k : ℕ) (s : Standing) → turns_text input k s ≡ lines_text (steps_from input k s.at s.area s.output)
  unfolding turns_text steps_from lines_text concat_map turn step_from printed
  same_text zero s = refl
  same_text (suc k) s = go (ltb s.at (length input)) refl (same_text k (turn input s))
    where
      -- what follows the step, by where it leads
      follows : turns_text input k (turn input s) ≡ lines_text (steps_from input k (turn input s).at (turn input s).area (turn input s).output)
          → let e = step_from input s in
          turns_text input k (turn input s) ≡ lines_text (onward e.answer (λ next. steps_from input k next e.area e.output))
      follows ih =
          let e : Effect = step_from input s in
          ih ∙ sym (ap lines_text (over-after e.answer (λ next. steps_from input k next e.area e.output) (past_end input k (length input) e.area e.output (omega arith))))

      go : (t : Bool) → ltb s.at (length input) ≡ t
          → turns_text input k (turn input s) ≡ lines_text (steps_from input k (turn input s).at (turn input s).area (turn input s).output)
          → cond t (printed (step_from input s) ++ turns_text input k (turn input s)) [] ≡ lines_text (steps_from input (suc k) s.at s.area s.output)
      go true t ih =
          let e : Effect = step_from input s in
          ap (λ x. printed e ++ x) (follows ih) ∙
          sym (concat_map-append line_text (lines e.answer e.output) (onward e.answer (λ next. steps_from input k next e.area e.output)))
      go false t ih = sym (ap lines_text (past_end input (suc k) s.at s.area s.output (ltb-false s.at (length input) t)))

pub text_of_session : TextOfSession
unfolding session_text session_on_bytes text_from after_start all_steps lines_text concat_map
text_of_session input area out long room =
    let s : Start = start input area in
    ap (λ x. line_text (opening_line s.answer) ++ x)
    (same_text input (length input) (after_start input area out) ∙
    sym (ap lines_text (over-at-first input s.answer (λ at. all_steps input at s.area out) (past_end input (length input) (length input) s.area out (omega arith))))) ∙
    ap lines_text (session_on_bytes_lem input area out long room)
