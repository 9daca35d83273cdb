-- Whether a variable occurs in a value, found one step down from flags of the terms below. Assumes nothing: these are
-- definitions.
use Rattle.std.specs.Prelude.{List, [], ◌∷◌, Bool, true, false, not, ◌||◌, ℕ, eqb}
use Rattle.std.proofs.Math.Option.{Option, none, some}
use Rattle.model.specs.Term.{Node, var, app}
use Rattle.layout.specs.limits.Rows.{at}

-- A flag: 1 or 0. Word u is a flag that stands unless it is 0.
unfoldable pub flag : Bool → ℕ
flag true = 1
flag false = 0

unfoldable pub flagged : List ℕ → ℕ → Bool
flagged words u = not (eqb (at words u) 0)

-- whether some element passes
unfoldable pub any : (ℕ → Bool) → List ℕ → Bool
any p [] = false
any p (x ∷ xs) = p x || any p xs

-- Whether v occurs in the value of t, where `below` says so of the terms one step down.
unfoldable pub occurs_step : (ℕ → Bool) → ℕ → ℕ → Node → Option ℕ → Bool
occurs_step below v t var none = eqb v t
occurs_step below v t var (some u) = below u
occurs_step below v t (app s args) bound = any below args
