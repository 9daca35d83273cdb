-- From a step's answer to the outcome of its call. Assumes nothing.
use Rattle.std.proofs.Common.{◌≡◌, refl, ap, ◌∙◌, List, true, false, ℕ, ◌≤◌, Result, Ok, Err, length, replicate, ne_eqb}
use Rattle.model.specs.Limits.{Limits}
use Rattle.model.specs.Lists.{concat_map}
use Rattle.model.specs.Step.{State, Answer, refused, accepted}
use Rattle.model.specs.Area.{word_size, to_bytes, area_bytes, area_length, sound, state_of}
use Rattle.model.specs.Call.{refuse, accept, guard, over, stepped, call_add, call_bind}
use Rattle.theory.proofs.Area.Bytes.{sound_carries}
use Rattle.theory.proofs.Lists.Laws.{true_T}
use Rattle.layout.specs.limits.Rows.{Loaded, Sized, loaded_words, loaded_state}
use Rattle.step.specs.declared.answer.Step.{Step}
use Rattle.step.specs.declared.answer.Step.TheVariants.{Add, Bind}
use Rattle.step.specs.declared.answer.Accepted.{Accepted}
use Rattle.refusal.specs.declared.Refusal.{Refusal}
use Rattle.refusal.specs.declared.Refusal.TheVariants.{NotSound}
use Rattle.refusal.specs.Numbers.{number_of, number, refusal_of}
use Rattle.refusal.proofs.Numbers.{none_is_zero}
use Rattle.step.specs.declared.answer.Stepped.{Stepped}
use Rattle.step.specs.answer.Stepped.{answer_of, step_numbers, Gives}
use Rattle.step.specs.take.Taking.{step_of, stored_bytes}
use Rattle.calls.specs.Called.{call_step, answer_to, Called}

-- how many numbers a step answers
unfoldable count : Step → ℕ
count (Add l r) = 1
count (Bind v t) = 2

-- a refusal has as many zeros
refused-numbers : (step : Step) (e : Refusal) → step_numbers step (Err e) ≡ replicate (count step) 0
unfolding count step_numbers
refused-numbers (Add l r) e = refl
refused-numbers (Bind v t) e = refl

module _ (lim : Limits) (w : Loaded) (step : Step) where
  -- what a step gives is the outcome of its answer: a refused one leaves the area
  answered_refused : (area : List ℕ) (answer : Answer) (e : Refusal) → Gives lim step answer (Err e) w
      → Called (stepped lim (count step) area answer) step (Err e) area
  unfolding Gives stepped refuse answer_to
  answered_refused area (refused n) e g =
      record { answer = g.0 ∙ rw (ne_eqb n 0 g.2); refusal = g.1; numbers = refused-numbers step e; bytes = refl }
  answered_refused area (accepted ns s) e g = absurd (let no = g.0 in cc)

  answered_accepted : (area : List ℕ) (answer : Answer) (a : Accepted) → Gives lim step answer (Ok a) w
      → Called (stepped lim (count step) area answer) step (Ok a) (over (concat_map (to_bytes word_size) (loaded_words w)) area)
  unfolding Gives stepped accept area_bytes answer_to
  answered_accepted area (refused n) a g = absurd (let no = g.0 in cc)
  answered_accepted area (accepted ns s) a g =
      record { answer = g.0; refusal = refl; numbers = g.1; bytes = ap (λ ws. over (concat_map (to_bytes word_size) ws) area) g.2.words }

  -- what is kept of it
  answered : (area : List ℕ) (answer : Answer) (s : Result Stepped Refusal) → Gives lim step answer (answer_of s) w
      → Called (stepped lim (count step) area answer) step (answer_of s) (stored_bytes (number s) w area)
  unfolding stored_bytes
  answered area answer (Ok s) g = answered_accepted area answer s.accepted g
  answered area answer (Err e) g = rw (ne_eqb (number_of e) 0 (none_is_zero e)) (answered_refused area answer e g)

  -- where it is accepted, its parts have their lengths
  sized-accepted : (answer : Answer) (a : Accepted) → Gives lim step answer (Ok a) w → Sized lim w
  unfolding Gives
  sized-accepted (refused n) a g = absurd (let no = g.0 in cc)
  sized-accepted (accepted ns s) a g = g.2.sized

  pub answer-sized : (answer : Answer) (s : Result Stepped Refusal) → Gives lim step answer (answer_of s) w → number s ≡ 0 → Sized lim w
  answer-sized answer (Ok s) g z = sized-accepted answer s.accepted g
  answer-sized answer (Err e) g z = absurd (none_is_zero e z)

module _ (lim : Limits) (area : List ℕ) where
  -- an area that is not sound
  pub called_seven : (step : Step) → sound lim area ≡ false → Called (call_step lim step area) step (Err NotSound) area
  unfolding call_step call_add call_bind guard refuse answer_to step_numbers refusal_of
  called_seven (Add l r) h = rw h (record { answer = refl; refusal = refl; numbers = refl; bytes = refl })
  called_seven (Bind v t) h = rw h (record { answer = refl; refusal = refl; numbers = refl; bytes = refl })

  -- the outcome on a sound area is that of the step on its state
  of_step : (step : Step) → sound lim area ≡ true → call_step lim step area ≡ stepped lim (count step) area (step_of lim step (state_of area lim))
  unfolding call_step step_of call_add call_bind guard count
  of_step (Add l r) h = rw h
  of_step (Bind v t) h = rw h

  module _ (w w' : Loaded) (step : Step) (t : sound lim area ≡ true) (same : loaded_state w ≡ state_of area lim) where
    pub called : (s : Result Stepped Refusal) {area' : List ℕ} → Gives lim step (step_of lim step (loaded_state w)) (answer_of s) w'
        → area' ≡ stored_bytes (number s) w' area → Called (call_step lim step area) step (answer_of s) area'
    called s g e = rw (of_step step t, e) (answered lim w' step area (step_of lim step (state_of area lim)) s (rw same at g))

-- a sound area has room for what is stored
pub stored_fits : (lim : Limits) (area : List ℕ) (w : Loaded) → sound lim area ≡ true → loaded_state w ≡ state_of area lim
    → area_length lim w.capacity ≤ length area
unfolding loaded_state
stored_fits lim area w t same = rw (ap (λ (s : State). s.capacity) same) (sound_carries lim area (true_T _ t)).1.fits
