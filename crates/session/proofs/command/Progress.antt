-- Every step takes at least a byte. Assumes nothing.
use mathlib.Core.List.{List}
use mathlib.Core.Bool.{Bool, true, false, cond}
use Prim.Native.Nat.{ℕ, zero, suc, ◌≤◌, ◌<◌}
use native.Mathlib.Omega.{arith}
use lib.ListN.{length}
use lib.Dec.{ltb}
use Rattle.leb128.specs.Number.{max_groups, max_number}
use Rattle.leb128.specs.Answer.{read_at}
use Rattle.leb128.specs.declared.Number.{Number}
use Rattle.leb128.specs.declared.NumberError.{NumberError}
use Rattle.std.specs.Prelude.{Result, Ok, Err}
use Rattle.refusal.specs.declared.Refusal.{Refusal}
use Rattle.session.proofs.text.Numbers.{Ahead, read_ahead}
use Rattle.session.specs.declared.command.Command.{Command}
use Rattle.session.specs.declared.command.Command.TheVariants.{Ended}
use Rattle.session.specs.command.Commands.{or_stopped, with_number, with_two, by_number, command_at, Behind, CommandsGoOn}

module _ (input : List ℕ) (p : ℕ) where
  -- a step goes on behind p, within the input
  abbrev Goes : Result Command Refusal → Type 0
  Goes q = Behind p (length input) q

  -- so does what follows a number behind p, if it does at every position behind
  goes_number : (d : Result Number NumberError) (at : ℕ) (then : ℕ → ℕ → Result Command Refusal) → p ≤ at → Ahead at (length input) d
      → ((n next : ℕ) → p < next → next ≤ length input → Goes (then n next)) → Goes (or_stopped d then)
  unfolding or_stopped
  goes_number (Ok r) at then l a h = h r.value r.next (omega arith) a.1
  goes_number (Err e) at then l a h = tt

  goes_at : (at : ℕ) (then : ℕ → ℕ → Result Command Refusal) → p ≤ at
      → ((n next : ℕ) → p < next → next ≤ length input → Goes (then n next)) → Goes (with_number input at then)
  goes_at at then l h = goes_number (read_at max_groups max_number input at) at then l (read_ahead input at) h

  goes_two : (at : ℕ) (then : ℕ → ℕ → ℕ → Result Command Refusal) → p ≤ at
      → ((m n next : ℕ) → p < next → next ≤ length input → Goes (then m n next)) → Goes (with_two input at then)
  unfolding with_two
  goes_two at then l h = goes_at at _ l (λ m at' l' r'. goes_at at' _ (omega arith) (h m))

  goes_by_number : (n at : ℕ) → p < at → at ≤ length input → Goes (by_number input n at)
  unfolding by_number
  goes_by_number zero at l r = tt
  goes_by_number (suc zero) at l r = goes_two at _ (omega arith) (λ i j next l' r'. (l', r'))
  goes_by_number (suc (suc zero)) at l r = goes_two at _ (omega arith) (λ i j next l' r'. (l', r'))
  goes_by_number (suc (suc (suc zero))) at l r = (l, r)
  goes_by_number (suc (suc (suc (suc n)))) at l r = tt

pub commands_go_on : CommandsGoOn
unfolding command_at
commands_go_on input at = go (ltb at (length input))
  where
    go : (t : Bool) → Behind at (length input) (cond t (with_number input at (by_number input)) (Ok Ended))
    go true = goes_at input at at _ (omega arith) (goes_by_number input at)
    go false = tt
