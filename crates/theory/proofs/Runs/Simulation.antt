-- Calls on bytes are steps on states: on an area that carries a sound state a call answers as that state does and leaves an
-- area of the same length that carries the state after it; so do lists of calls. Assumes nothing.
use mathlib.Core.Path.{◌≡◌, refl, sym, ◌∙◌}
use mathlib.Core.List.{List, [], ◌∷◌, ◌++◌}
use mathlib.Core.Bool.{Bool, true, false, cond, ◌&&◌}
use Prim.Native.Nat.{ℕ, ◌≤◌}
use lib.ListN.{length}
use lib.Dec.{T, eqb, leb}
use borrow.Author.Tests.{eqb-true, eq-eqb}
use Rattle.model.specs.Limits.{Limits}
use Rattle.model.specs.Step.{State, Answer, refused, accepted, add_line, bind}
use Rattle.model.specs.Report.{report_bytes}
use Rattle.model.specs.Area.{area_length, area_bytes, sound, state_of}
use Rattle.model.specs.Call.{Outcome, refuse, accept, guard, over, emit, stepped, call_add, call_bind, call_report}
use Rattle.theory.specs.Modest.{Modest}
use Rattle.theory.specs.Run.{Request, add, fix, ask, call, run, accepted_of, NoneRefused, is_accepted, after, reported, answer, next, state_run, AllAccepted}
use Rattle.theory.proofs.Soundness.Facts.{SoundFacts}
use Rattle.theory.proofs.Lists.Laws.{T_true}
use Rattle.theory.proofs.Area.Bytes.{Carries, carried_state, carried_sound, sound_carries, over_carries, over-length}
use Rattle.theory.proofs.Runs.States.{refusal_of, picked, refusal_zero, refusal-not_seven, accepted_in, answer_numbered, next-sound, next-capacity}

-- The area carries the sound state s.
pub record Lives (lim : Limits) (s : State) (area : List ℕ) : Type 0 where
  pub facts : SoundFacts lim s
  pub carries : Carries lim s area

module _ (lim : Limits) where
  -- the outcome of a call on an area that holds the state s
  abbrev pub call_on : State → List ℕ → Request → Outcome
  call_on s area (add l r) = stepped lim 1 area (add_line lim s l r)
  call_on s area (fix v t) = stepped lim 2 area (bind s v t)
  call_on s area (ask out) = emit (report_bytes s) area out

  -- a call on a sound area has that outcome, by the area's state
  pub call_on_lem : (area : List ℕ) (q : Request) → sound lim area ≡ true → call lim area q ≡ call_on (state_of area lim) area q
  unfolding call call_add call_bind call_report guard
  call_on_lem area (add l r) h = rw h
  call_on_lem area (fix v t) h = rw h
  call_on_lem area (ask out) h = rw h

  -- its refusal is the answer's
  pub stepped-refusal : (count : ℕ) (area : List ℕ) (a : Answer) → (stepped lim count area a).refusal ≡ refusal_of a
  unfolding stepped refuse accept
  stepped-refusal count area (refused n) = refl
  stepped-refusal count area (accepted ns s) = refl

  -- the same of a report, then of any call
  guard-refusal : (s : State) (new area out : List ℕ) (t : Bool)
      → (guard t (refuse 1 13 area out) (accept (length new ∷ []) area (over new out))).refusal ≡ refusal_of (reported s new t)
  unfolding guard refuse accept
  guard-refusal s new area out true = refl
  guard-refusal s new area out false = refl

  pub refusal_on : (s : State) (area : List ℕ) (q : Request) → (call_on s area q).refusal ≡ refusal_of (answer lim s q)
  unfolding emit
  refusal_on s area (add l r) = stepped-refusal 1 area (add_line lim s l r)
  refusal_on s area (fix v t) = stepped-refusal 2 area (bind s v t)
  refusal_on s area (ask out) = guard-refusal s (report_bytes s) area out (leb (length (report_bytes s)) (length out))

  -- A call on a sound area does not answer 7.
  pub not_seven : (area : List ℕ) (q : Request) → T (sound lim area) → eqb (call lim area q).refusal 7 ≡ false
  not_seven area q h =
      rw (call_on_lem area q (T_true (sound lim area) h), refusal_on (state_of area lim) area q)
      (refusal-not_seven (answer lim (state_of area lim) q) (answer_numbered lim (state_of area lim) q))

  -- the area that an answer leaves
  area_after : List ℕ → Answer → List ℕ
  area_after area (refused n) = area
  area_after area (accepted ns s) = over (area_bytes lim s) area

  -- a step leaves that area
  stepped-area : (count : ℕ) (area : List ℕ) (a : Answer) → (stepped lim count area a).area ≡ area_after area a
  unfolding stepped refuse accept area_after
  stepped-area count area (refused n) = refl
  stepped-area count area (accepted ns s) = refl

  -- a report leaves the area, by whether it fits
  guard-area : (new area out : List ℕ) (t : Bool)
      → (guard t (refuse 1 13 area out) (accept (length new ∷ []) area (over new out))).area ≡ area
  unfolding guard refuse accept
  guard-area new area out true = refl
  guard-area new area out false = refl

  -- a report leaves the area
  pub emit-area : (new area out : List ℕ) → (emit new area out).area ≡ area
  unfolding emit
  emit-area new area out = guard-area new area out (leb (length new) (length out))

  -- a report leaves the state
  pub reported-after : (s : State) (new : List ℕ) (t : Bool) → after s (reported s new t) ≡ s
  reported-after s new true = refl
  reported-after s new false = refl

  -- An area of the same length that carries the sound state s'.
  pub record Follows (s' : State) (area area' : List ℕ) : Type 0 where
    pub same_length : length area' ≡ length area
    pub lives : Lives lim s' area'

  -- the area that an answer leaves carries the state after it
  follows_answer : (s : State) (area : List ℕ) (a : Answer) → Lives lim s area → SoundFacts lim (after s a)
      → (after s a).capacity ≡ s.capacity → Follows (after s a) area (area_after area a)
  unfolding area_after
  follows_answer s area (refused n) v f c = record { same_length = refl; lives = v }
  follows_answer s area (accepted ns s') v f c =
      let enough : area_length lim s'.capacity ≤ length area = rw c v.carries.fits in
      record {
        same_length = over-length lim s' area f enough;
        lives = record { facts = f; carries = over_carries lim s' area f enough };
      }

  -- so does the area that a call leaves
  follows_on : (s : State) (area : List ℕ) (q : Request) → Lives lim s area → Follows (next lim s q) area (call_on s area q).area
  follows_on s area (add l r) v =
      rw (stepped-area 1 area (add_line lim s l r))
      (follows_answer s area (add_line lim s l r) v (next-sound lim s (add l r) v.facts) (next-capacity lim s (add l r) v.facts))
  follows_on s area (fix x t) v =
      rw (stepped-area 2 area (bind s x t))
      (follows_answer s area (bind s x t) v (next-sound lim s (fix x t) v.facts) (next-capacity lim s (fix x t) v.facts))
  follows_on s area (ask out) v =
      rw (emit-area (report_bytes s) area out, reported-after s (report_bytes s) (leb (length (report_bytes s)) (length out)))
      (record { same_length = refl; lives = v })

  -- a sound area carries its state
  pub sound_lives : (area : List ℕ) → T (sound lim area) → Lives lim (state_of area lim) area
  sound_lives area h = let c = sound_carries lim area h in record { facts = c.0; carries = c.1 }

  module _ (modest : Modest lim) where
    -- an area that carries a sound state holds that state, and is sound
    pub lives_state : (s : State) (area : List ℕ) → Lives lim s area → state_of area lim ≡ s
    lives_state s area v = carried_state lim s area modest v.facts v.carries

    pub lives_sound : (s : State) (area : List ℕ) → Lives lim s area → sound lim area ≡ true
    lives_sound s area v = carried_sound lim s area modest v.facts v.carries

    -- A call is the state's step.
    pub call_lives : (s : State) (area : List ℕ) (q : Request) → Lives lim s area → call lim area q ≡ call_on s area q
    call_lives s area q v = call_on_lem area q (lives_sound s area v) ∙ rw (lives_state s area v)

    -- so a call leaves an area that carries the state after it, and is accepted exactly when the state accepts it
    pub follows : (s : State) (area : List ℕ) (q : Request) → Lives lim s area → Follows (next lim s q) area (call lim area q).area
    follows s area q v = rw (call_lives s area q v) (follows_on s area q v)

    pub accepts : (s : State) (area : List ℕ) (q : Request) → Lives lim s area
        → eqb (call lim area q).refusal 0 ≡ is_accepted (answer lim s q)
    accepts s area q v =
        rw (call_lives s area q v, refusal_on s area q) (refusal_zero (answer lim s q) (answer_numbered lim s q))

    -- So a list of calls is the list of steps.
    pub run_lives : (s : State) (area : List ℕ) (qs : List Request) → Lives lim s area → Lives lim (state_run lim s qs) (run lim area qs)
    unfolding run
    run_lives s area [] v = v
    run_lives s area (q ∷ qs) v = run_lives (next lim s q) (call lim area q).area qs (follows s area q v).lives

    -- the two ways to pick a request agree
    cond_picked : (t : Bool) (q : Request) (rest : List Request) → cond t (q ∷ rest) rest ≡ picked t q ++ rest
    cond_picked true q rest = refl
    cond_picked false q rest = refl

    -- the accepted calls are the accepted steps
    pub accepted_lives : (p : Request → Bool) (s : State) (area : List ℕ) (qs : List Request) → Lives lim s area
        → accepted_of lim p area qs ≡ accepted_in lim p s qs
    unfolding accepted_of
    accepted_lives p s area [] v = refl
    accepted_lives p s area (q ∷ qs) v =
        rw (accepts s area q v, accepted_lives p (next lim s q) (call lim area q).area qs (follows s area q v).lives)
        (cond_picked (p q && is_accepted (answer lim s q)) q (accepted_in lim p (next lim s q) qs))

    -- where all steps are accepted, no call is refused
    pub none-refused : (s : State) (area : List ℕ) (qs : List Request) → Lives lim s area → AllAccepted lim s qs → NoneRefused lim area qs
    none-refused s area [] v h = tt
    none-refused s area (q ∷ qs) v h = (
      eqb-true (call lim area q).refusal 0 (accepts s area q v ∙ h.0),
      none-refused (next lim s q) (call lim area q).area qs (follows s area q v).lives h.1,
    )

    -- and the other way round
    pub all-accepted : (s : State) (area : List ℕ) (qs : List Request) → Lives lim s area → NoneRefused lim area qs → AllAccepted lim s qs
    all-accepted s area [] v h = tt
    all-accepted s area (q ∷ qs) v h = (
      sym (accepts s area q v) ∙ eq-eqb (call lim area q).refusal 0 h.0,
      all-accepted (next lim s q) (call lim area q).area qs (follows s area q v).lives h.1,
    )
