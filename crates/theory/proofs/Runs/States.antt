-- Lists of calls on states: each call answers by the state, and the run goes on with the state after it. Accepted steps keep
-- soundness and the book, and leave what Steps/Kept.antt says. Assumes nothing.
use mathlib.Core.Path.{◌≡◌, refl, ap, ◌∙◌}
use mathlib.Core.List.{List, [], ◌∷◌, ◌++◌}
use mathlib.Core.Bool.{Bool, true, false, not, ◌&&◌}
use Prim.Native.Nat.{ℕ}
use lib.ListN.{length}
use lib.Dec.{T, eqb, leb}
use Rattle.model.specs.Limits.{Limits}
use Rattle.model.specs.Step.{State, Answer, refused, accepted, require, add_line, bind}
use Rattle.model.specs.Report.{report_bytes}
use Rattle.theory.specs.Run.{Request, add, fix, ask, is_accepted, after, reported, answer, next, state_run, AllAccepted}
use Rattle.theory.proofs.Soundness.Facts.{SoundFacts}
use Rattle.theory.proofs.Lists.Laws.{and_left, and_right}
use Rattle.theory.proofs.Steps.Kept.{Added, added, added_sound, Bound, bound, bound-sound}

-- an answer's refusal, 0 where it accepts
abbrev pub refusal_of : Answer → ℕ
refusal_of (refused n) = n
refusal_of (accepted ns s) = 0

-- the request where the test holds
abbrev pub picked : Bool → Request → List Request
picked true q = q ∷ []
picked false q = []

-- a refusal is by a number that is neither 0 nor 7
abbrev pub Numbered : Answer → Type 0
Numbered (refused n) = T (not (eqb n 0) && not (eqb n 7))
Numbered (accepted ns s) = Unit {0}

-- so is a required answer, and a report's
require_numbered : (t : Bool) (n : ℕ) (a : Answer) → Numbered (refused n) → Numbered a → Numbered (require t n a)
unfolding require
require_numbered true n a h g = g
require_numbered false n a h g = h

reported_numbered : (s : State) (new : List ℕ) (t : Bool) → Numbered (reported s new t)
reported_numbered s new true = tt
reported_numbered s new false = tt

-- a test that fails is false
not_false_T : (t : Bool) → T (not t) → t ≡ false
not_false_T true h = absurd h
not_false_T false h = refl

-- so an answer accepts exactly when its refusal is 0, and its refusal is not 7
pub refusal_zero : (a : Answer) → Numbered a → eqb (refusal_of a) 0 ≡ is_accepted a
refusal_zero (refused n) h = not_false_T (eqb n 0) (and_left (not (eqb n 0)) (not (eqb n 7)) h)
refusal_zero (accepted ns s) h = refl

pub refusal-not_seven : (a : Answer) → Numbered a → eqb (refusal_of a) 7 ≡ false
refusal-not_seven (refused n) h = not_false_T (eqb n 7) (and_right (not (eqb n 0)) (not (eqb n 7)) h)
refusal-not_seven (accepted ns s) h = refl

-- an accepted report leaves the state
reported-same : (s s' : State) (new ns : List ℕ) (t : Bool) → reported s new t ≡ accepted ns s' → s' ≡ s
reported-same s s' new ns true e = cc
reported-same s s' new ns false e = cc

module _ (lim : Limits) where
  -- the accepted calls that pass
  abbrev pub accepted_in : (Request → Bool) → State → List Request → List Request
  accepted_in p s [] = []
  accepted_in p s (q ∷ qs) = picked (p q && is_accepted (answer lim s q)) q ++ accepted_in p (next lim s q) qs

  -- two lists of calls, one after the other
  pub state_run-append : (s : State) (qs rs : List Request) → state_run lim s (qs ++ rs) ≡ state_run lim (state_run lim s qs) rs
  state_run-append s [] rs = refl
  state_run-append s (q ∷ qs) rs = state_run-append (next lim s q) qs rs

  pub all-accepted-append : (s : State) (qs rs : List Request) → AllAccepted lim s qs → AllAccepted lim (state_run lim s qs) rs → AllAccepted lim s (qs ++ rs)
  all-accepted-append s [] rs h g = g
  all-accepted-append s (q ∷ qs) rs h g = (h.0, all-accepted-append (next lim s q) qs rs h.1 g)

  -- every refusal of a call on a state is numbered so
  pub answer_numbered : (s : State) (q : Request) → Numbered (answer lim s q)
  unfolding add_line bind
  answer_numbered s (add l r) = require_numbered _ 8 _ tt (require_numbered _ 12 _ tt (require_numbered _ 11 _ tt tt))
  answer_numbered s (fix v t) =
      require_numbered _ 8 _ tt (require_numbered _ 9 _ tt (require_numbered _ 10 _ tt (require_numbered _ 11 _ tt tt)))
  answer_numbered s (ask out) = reported_numbered s (report_bytes s) (leb (length (report_bytes s)) (length out))

  -- what an accepted call leaves
  abbrev pub Moved : State → State → Request → Type 0
  Moved s s' (add l r) = (i : ℕ) × Added lim s s' l r i
  Moved s s' (fix v t) = Bound s s' v t
  Moved s s' (ask out) = s' ≡ s

  -- an accepted call leaves that, and a sound state
  pub moved : (s s' : State) (q : Request) (ns : List ℕ) → SoundFacts lim s → answer lim s q ≡ accepted ns s' → Moved s s' q
  moved s s' (add l r) ns f e = let a = added lim s s' l r ns f e in (a.0, a.2)
  moved s s' (fix v t) ns f e = bound s s' v t ns e
  moved s s' (ask out) ns f e = reported-same s s' (report_bytes s) ns (leb (length (report_bytes s)) (length out)) e

  accepted-sound : (s s' : State) (q : Request) (ns : List ℕ) → SoundFacts lim s → answer lim s q ≡ accepted ns s' → SoundFacts lim s'
  accepted-sound s s' (add l r) ns f e = added_sound lim s s' l r ns f e
  accepted-sound s s' (fix v t) ns f e = bound-sound lim s s' v t ns f e
  accepted-sound s s' (ask out) ns f e =
      rw (reported-same s s' (report_bytes s) ns (leb (length (report_bytes s)) (length out)) e) f

  -- whatever a call answers, the state after it is sound
  after-sound : (s : State) (q : Request) (a : Answer) → SoundFacts lim s → answer lim s q ≡ a → SoundFacts lim (after s a)
  after-sound s q (refused n) f e = f
  after-sound s q (accepted ns s') f e = accepted-sound s s' q ns f e

  -- calls keep soundness, the book and the capacity
  pub next-sound : (s : State) (q : Request) → SoundFacts lim s → SoundFacts lim (next lim s q)
  next-sound s q f = after-sound s q (answer lim s q) f refl

  pub run_sound : (s : State) (qs : List Request) → SoundFacts lim s → SoundFacts lim (state_run lim s qs)
  run_sound s [] f = f
  run_sound s (q ∷ qs) f = run_sound (next lim s q) qs (next-sound s q f)

  -- an accepted call keeps the book and the capacity
  moved-book : (s s' : State) (q : Request) → Moved s s' q → s'.book ≡ s.book
  moved-book s s' (add l r) m = m.1.same-book
  moved-book s s' (fix v t) m = m.same-book
  moved-book s s' (ask out) m = ap (λ (u : State). u.book) m

  moved-capacity : (s s' : State) (q : Request) → Moved s s' q → s'.capacity ≡ s.capacity
  moved-capacity s s' (add l r) m = m.1.same-capacity
  moved-capacity s s' (fix v t) m = m.same-capacity
  moved-capacity s s' (ask out) m = ap (λ (u : State). u.capacity) m

  -- whatever a call answers, the state after it has the same book and capacity
  after_same : (s : State) (q : Request) (a : Answer) → SoundFacts lim s → answer lim s q ≡ a
      → ((after s a).book ≡ s.book) × ((after s a).capacity ≡ s.capacity)
  after_same s q (refused n) f e = (refl, refl)
  after_same s q (accepted ns s') f e =
      let m = moved s s' q ns f e in (moved-book s s' q m, moved-capacity s s' q m)

  pub next-capacity : (s : State) (q : Request) → SoundFacts lim s → (next lim s q).capacity ≡ s.capacity
  next-capacity s q f = (after_same s q (answer lim s q) f refl).1

  pub run-book : (s : State) (qs : List Request) → SoundFacts lim s → (state_run lim s qs).book ≡ s.book
  run-book s [] f = refl
  run-book s (q ∷ qs) f = run-book (next lim s q) qs (next-sound s q f) ∙ (after_same s q (answer lim s q) f refl).0
