-- The word of a binding that is set. Assumes nothing.
use Rattle.std.proofs.Common.{◌≡◌, sym, ap, ◌∙◌, List, map, ℕ, ◌+◌, ◌≤◌, ◌<◌, arith, length, get_or, set, length-set, ext_get_or, get_or-set_same, get_or-set_other, drop-set-lt, T, ne_eqb}
use mathlib.Core.Option.{none, some}
use native.Mathlib.Decide.{ℕ_discrete}
use Rattle.model.specs.Lists.{padded}
use Rattle.model.specs.Area.{binding_word}
use Rattle.layout.specs.limits.Rows.{binding_of, bound_of}
use Rattle.layout.proofs.limits.Rows.{length-bound_of, get_or-bound_of, binding_words}
use Rattle.soundness.specs.rows.RowTests.{zero_from}
use Rattle.soundness.proofs.sound.Padded.{to_padded}

module _ (bindings : List ℕ) (n v t : ℕ) (p : v < n) (fits : n ≤ length bindings) where
  -- the binding in each word
  set_at : (i : ℕ) → i < n → Dec (i ≡ v) → binding_of (set bindings v (t + 1)) i ≡ get_or (set (bound_of bindings n) v (some t)) i none
  unfolding binding_of
  set_at i l (yes q) =
      rw (
        q,
        get_or-set_same bindings v (t + 1) 0 (omega arith),
        get_or-set_same (bound_of bindings n) v (some t) none (rw length-bound_of p),
        ne_eqb (t + 1) 0 (λ z. omega arith),
      )
      (ap some (omega arith))
  set_at i l (no q) =
      rw (get_or-set_other bindings v i (t + 1) 0 q, get_or-set_other (bound_of bindings n) v i (some t) none q) (sym (get_or-bound_of bindings n i l))

  -- the bindings in the words
  pub bound-set : bound_of (set bindings v (t + 1)) n ≡ set (bound_of bindings n) v (some t)
  bound-set =
      ext_get_or none (bound_of (set bindings v (t + 1)) n) (set (bound_of bindings n) v (some t))
      (length-bound_of (set bindings v (t + 1)) n ∙ sym (length-set (bound_of bindings n) v (some t) ∙ length-bound_of bindings n))
      (λ i l.
      let k : i < n = rw length-bound_of at l in
      get_or-bound_of (set bindings v (t + 1)) n i k ∙ set_at i k (ℕ_discrete i v))

  -- the words of these bindings, zeros behind them
  pub words-set : T (zero_from bindings n) → set bindings v (t + 1) ≡ padded (length bindings) (map binding_word (set (bound_of bindings n) v (some t)))
  unfolding zero_from
  words-set behind =
      let size = length-set bindings v (t + 1) in
      to_padded (set bindings v (t + 1)) _ (length bindings) n size fits
      (sym (binding_words (set bindings v (t + 1)) n (omega arith)) ∙ ap (map binding_word) bound-set)
      (rw (drop-set-lt n bindings v (t + 1) p) behind)
