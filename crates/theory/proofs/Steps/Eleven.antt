-- Refusal 11: a step that passes the tests before it is refused by 11 exactly where no walk ends within the capacity. Assumes
-- nothing.
use mathlib.Core.Path.{◌≡◌, refl}
use mathlib.Core.Bool.{Bool, true, false}
use mathlib.Core.List.{List}
use mathlib.Core.Logic.Iff
use mathlib.Core.Logic.{◌↔◌}
use Prim.Native.Nat.{ℕ, suc, ◌≤◌}
use native.Mathlib.Omega.{arith}
use borrow.Author.Tests.{lt-ltb, leb-true, leb-false}
use lib.ListN.{length}
use lib.Dec.{leb}
use Rattle.model.specs.Term.{Book, Bindings}
use Rattle.model.specs.Table.{Table, walk}
use Rattle.model.specs.Step.{State, refused, accepted, require, saturate, add_line, is_free, bind}
use Rattle.theory.specs.Walk.{EndsWithin, ElevenOfLine, ElevenOfChoice}
use Rattle.theory.proofs.Table.WalkLength.{ends-fits}

-- an accepted answer that requires m to be at most c is refused exactly where it is not
refused-at : (m c n : ℕ) (ns : List ℕ) (s : State) (t : Bool) → leb m c ≡ t → (require t n (accepted ns s) ≡ refused n) ↔ (m ≤ c → ⊥)
unfolding require
refused-at m c n ns s true e = (
  λ z. absurd (let w : ◌≡◌ {A = ℕ} 0 1 = cc in omega arith),
  λ h. absurd (h (leb-true m c e)),
)
refused-at m c n ns s false e = (λ z h. omega (arith, leb-false m c e), λ h. refl)

-- so a walk's table under the test of the capacity is refused exactly where no walk ends within it
eleven : (b : Book) (β : Bindings) (c : ℕ) (es : Table) (ns : List ℕ) (s : State)
    → (require (leb (length (walk b β (suc c) 0 es)) c) 11 (accepted ns s) ≡ refused 11) ↔ (EndsWithin b β c es → ⊥)
eleven b β c es ns s =
    Iff.trans (refused-at (length (walk b β (suc c) 0 es)) c 11 ns s _ refl) (Iff.not (Iff.symm (ends-fits b β c es)))

-- the tests before it are passed
pub eleven_of_line : ElevenOfLine
unfolding add_line saturate require
eleven_of_line lim s l r p q h =
    rw (lt-ltb l (length s.book) p, lt-ltb r (length s.book) q, lt-ltb (length s.lines) lim.max_lines h)
    (eleven s.book s.bound s.capacity _ _ _)

pub eleven_of_choice : ElevenOfChoice
unfolding bind saturate require is_free
eleven_of_choice s v t p q v_var v_free absent =
    rw (lt-ltb v (length s.book) p, lt-ltb t (length s.book) q, v_var, v_free, absent)
    (eleven s.book _ s.capacity s.entries _ _)
