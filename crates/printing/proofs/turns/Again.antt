-- A report asked for again, with nothing done in between, answers as before and leaves what is there. Assumes nothing.
use mathlib.Core.Path.{◌≡◌, refl}
use mathlib.Core.List.{List, ◌∷◌, []}
use mathlib.Core.Bool.{Bool, true, false}
use native.Mathlib.Omega.{arith}
use Prim.Native.Nat.{ℕ, ◌≤◌}
use lib.ListN.{length, length-append, length-drop}
use lib.Seq.{drop-append_seam}
use lib.Dec.{leb}
use borrow.Author.Tests.{leb-true}
use Rattle.model.specs.Limits.{office}
use Rattle.model.specs.Area.{sound, state_of}
use Rattle.model.specs.Report.{report_bytes}
use Rattle.model.specs.Call.{refuse, accept, guard, over, emit, call_report}

module _ (new area out : List ℕ) where
  -- bytes written twice over the front are there once
  over-length : length new ≤ length out → length (over new out) ≡ length out
  unfolding over
  over-length h = rw (length-append, length-drop) (omega arith)

  over_again : over new (over new out) ≡ over new out
  unfolding over
  over_again = rw drop-append_seam

  emit_again_at : (t : Bool) → leb (length new) (length out) ≡ t
      → let o = guard t (refuse 1 13 area out) (accept (length new ∷ []) area (over new out)) in emit new area o.output ≡ o
  unfolding emit guard refuse accept
  emit_again_at true e =
      rw (over-length (leb-true (length new) (length out) e), e, over_again)
  emit_again_at false e = rw e

  emit_again : emit new area (emit new area out).output ≡ emit new area out
  unfolding emit
  emit_again = emit_again_at (leb (length new) (length out)) refl

  guard_again : (t : Bool) → let o = guard t (refuse 1 7 area out) (emit new area out) in
      guard t (refuse 1 7 area o.output) (emit new area o.output) ≡ o
  unfolding guard refuse
  guard_again true = emit_again
  guard_again false = refl

pub report_again : (area out : List ℕ) → call_report office area (call_report office area out).output ≡ call_report office area out
unfolding call_report
report_again area out = guard_again (report_bytes (state_of area office)) area out (sound office area)
