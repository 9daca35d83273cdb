-- On any area the accepted steps of a list of calls, alone, give the area that the list gives, and none of them is then
-- refused: a refused call and a report leave the area as it was. Assumes nothing.
use mathlib.Core.Path.{◌≡◌, refl, ap, ◌∙◌, subst}
use mathlib.Core.List.{List, [], ◌∷◌}
use mathlib.Core.Bool.{Bool, true, false, cond, ◌&&◌}
use Prim.Native.Nat.{ℕ}
use lib.Dec.{eqb}
use borrow.Author.Tests.{eqb-true}
use Rattle.model.specs.Limits.{Limits}
use Rattle.model.specs.Step.{Answer, refused, accepted, add_line, bind}
use Rattle.model.specs.Report.{report_bytes}
use Rattle.model.specs.Area.{sound, state_of}
use Rattle.model.specs.Call.{refuse, accept, guard, emit, stepped, call_add, call_bind, call_report}
use Rattle.theory.specs.Run.{Request, add, fix, ask, is_step, call, run, accepted_of, NoneRefused}
use Rattle.theory.proofs.Lists.Laws.{and_right, T_true, true_T}
use Rattle.theory.proofs.Runs.Simulation.{emit-area}

module _ (lim : Limits) where
  -- a refused step leaves the area
  step_unmoved : (count : ℕ) (area : List ℕ) (t : Bool) (a : Answer)
      → eqb (guard t (refuse count 7 area []) (stepped lim count area a)).refusal 0 ≡ false
      → (guard t (refuse count 7 area []) (stepped lim count area a)).area ≡ area
  unfolding guard refuse accept stepped
  step_unmoved count area true (refused n) h = refl
  step_unmoved count area true (accepted ns s) h = cc
  step_unmoved count area false a h = refl

  -- a report leaves the area
  report_unmoved : (area out : List ℕ) (t : Bool)
      → (guard t (refuse 1 7 area out) (emit (report_bytes (state_of area lim)) area out)).area ≡ area
  unfolding guard refuse
  report_unmoved area out true = emit-area lim (report_bytes (state_of area lim)) area out
  report_unmoved area out false = refl

  -- a call that is no accepted step leaves the area
  unmoved : (area : List ℕ) (q : Request) → is_step q && eqb (call lim area q).refusal 0 ≡ false → (call lim area q).area ≡ area
  unfolding is_step call call_add call_bind call_report
  unmoved area (add l r) h = step_unmoved 1 area (sound lim area) (add_line lim (state_of area lim) l r) h
  unmoved area (fix v t) h = step_unmoved 2 area (sound lim area) (bind (state_of area lim) v t) h
  unmoved area (ask out) h = report_unmoved area out (sound lim area)

  -- What the accepted steps do.
  pub record Alone (area : List ℕ) (calls steps : List Request) : Type 0 where
    pub same_area : run lim area calls ≡ run lim area steps
    pub none-refused : NoneRefused lim area steps

  -- one call, by whether it is an accepted step
  alone_at : (area : List ℕ) (q : Request) (qs : List Request) (t : Bool) → is_step q && eqb (call lim area q).refusal 0 ≡ t
      → let rest = accepted_of lim is_step (call lim area q).area qs in
      Alone (call lim area q).area qs rest → Alone area (q ∷ qs) (cond t (q ∷ rest) rest)
  unfolding run
  alone_at area q qs true e h =
      record {
        same_area = h.same_area;
        none-refused = (eqb-true (call lim area q).refusal 0 (T_true _ (and_right (is_step q) _ (true_T _ e))), h.none-refused);
      }
  alone_at area q qs false e h =
      let rest = accepted_of lim is_step (call lim area q).area qs in
      let stays : (call lim area q).area ≡ area = unmoved area q e in
      record {
        same_area = h.same_area ∙ ap (λ (x : List ℕ). run lim x rest) stays;
        none-refused = subst (λ (x : List ℕ). NoneRefused lim x rest) stays h.none-refused;
      }

  -- a list of calls
  pub alone : (area : List ℕ) (calls : List Request) → Alone area calls (accepted_of lim is_step area calls)
  unfolding run accepted_of
  alone area [] = record { same_area = refl; none-refused = tt }
  alone area (q ∷ qs) =
      alone_at area q qs (is_step q && eqb (call lim area q).refusal 0) refl (alone (call lim area q).area qs)
