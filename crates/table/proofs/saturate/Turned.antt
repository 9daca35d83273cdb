-- The count of turned entries, where a table changes in one place or in none that is counted. Assumes nothing.
use Rattle.std.proofs.Common.{◌≡◌, refl, [], ◌∷◌, Bool, true, false, cond, not, ◌&&◌, ℕ, zero, suc, ◌+◌, ◌≤◌, ◌<◌, zero-le, suc-le-suc, le_of_suc-le-suc, not-suc-le-zero, arith, length, set}
use Rattle.model.specs.Table.{is_hole, Entry, Table, entry}
use Rattle.model.specs.Step.{turned}

-- a test does not differ from itself
not_itself : (t : Bool) → ◌≡◌ {A = ℕ} (cond (t && not t) 1 0) 0
not_itself true = refl
not_itself false = refl

-- of a table none are turned in itself
pub turned_none : (es : Table) → turned es es ≡ 0
unfolding turned
turned_none [] = refl
turned_none (e ∷ es) = rw (not_itself (is_hole e.kind), turned_none es)

-- tables that agree as far as the old one goes count alike
pub turned-alike : (old new new' : Table) → length old ≤ length new → length old ≤ length new'
    → ((j : ℕ) → j < length old → entry new' j ≡ entry new j) → turned old new' ≡ turned old new
unfolding turned
turned-alike [] new new' p q h = refl
turned-alike (e ∷ old) [] new' p q h = absurd (not-suc-le-zero p)
turned-alike (e ∷ old) (x ∷ new) [] p q h = absurd (not-suc-le-zero q)
turned-alike (e ∷ old) (x ∷ new) (y ∷ new') p q h =
    rw (h 0 (suc-le-suc zero-le), turned-alike old new new' (le_of_suc-le-suc p) (le_of_suc-le-suc q) (λ j l. h (suc j) (suc-le-suc l)))

-- a hole that turns counts
pub turned_set : (old new : Table) (i : ℕ) (e : Entry) → i < length old → i < length new → is_hole (entry old i).kind ≡ true
    → is_hole (entry new i).kind ≡ true → is_hole e.kind ≡ false → turned old (set new i e) ≡ turned old new + 1
unfolding turned
turned_set [] new i e p q h g k = absurd (not-suc-le-zero p)
turned_set (o ∷ old) [] i e p q h g k = absurd (not-suc-le-zero q)
turned_set (o ∷ old) (x ∷ new) zero e p q h g k = rw (h, g, k) (omega arith)
turned_set (o ∷ old) (x ∷ new) (suc i) e p q h g k =
    let rest = turned_set old new i e (le_of_suc-le-suc p) (le_of_suc-le-suc q) h g k in
    rw rest (omega arith)

pub at_most_one : (x : Bool) → cond x 1 0 ≤ 1
at_most_one true = omega arith
at_most_one false = omega arith
