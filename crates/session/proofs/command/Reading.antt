-- The step that is asked for at each return. Assumes nothing.
use mathlib.Core.Path.{◌≡◌, refl, ap, sym, ◌∙◌}
use mathlib.Core.List.{List}
use Prim.Native.Nat.{ℕ, zero, suc, ◌≤◌, ◌<◌}
use native.Mathlib.Omega.{arith}
use lib.ListN.{length}
use borrow.Author.Tests.{lt-ltb, le-ltb}
use Rattle.leb128.specs.Number.{max_groups, max_number}
use Rattle.leb128.specs.Answer.{read_at}
use Rattle.leb128.specs.declared.Number.{Number}
use Rattle.leb128.specs.declared.NumberError.{NumberError}
use Rattle.std.specs.Prelude.{Result, Ok, Err}
use Rattle.refusal.specs.declared.Refusal.{Refusal}
use Rattle.refusal.specs.declared.Refusal.TheVariants.{NamesNothing}
use Rattle.step.specs.declared.answer.Step.TheVariants.{Add, Bind}
use Rattle.session.specs.declared.command.Command.{Command}
use Rattle.session.specs.declared.command.Command.TheVariants.{Ended, Take, Report}
use Rattle.session.specs.command.Commands.{or_stopped, with_number, with_two, by_number, command_at}

-- the step of two numbers: 1 is a line, any other a choice
abbrev pub two : ℕ → ℕ → ℕ → ℕ → Result Command Refusal
two zero m k next = Ok (Take (Bind m k) next)
two (suc zero) m k next = Ok (Take (Add m k) next)
two (suc (suc n)) m k next = Ok (Take (Bind m k) next)

pub two_line : {n m k next : ℕ} → n ≡ 1 → two n m k next ≡ Ok (Take (Add m k) next)
two_line h = rw h

pub two_choice : {n m k next : ℕ} → (n ≡ 1 → ⊥) → two n m k next ≡ Ok (Take (Bind m k) next)
two_choice {n} {m} {k} {next} h = go n h
  where
    go : (n : ℕ) → (n ≡ 1 → ⊥) → two n m k next ≡ Ok (Take (Bind m k) next)
    go zero h = refl
    go (suc zero) h = absurd (h refl)
    go (suc (suc n)) h = refl

module _ (input : List ℕ) (n at : ℕ) where
  pub unknown : (n ≡ 1 → ⊥) → (n ≡ 2 → ⊥) → (n ≡ 3 → ⊥) → Err NamesNothing ≡ by_number input n at
  unfolding by_number
  unknown = go n
    where
      go : (n : ℕ) → (n ≡ 1 → ⊥) → (n ≡ 2 → ⊥) → (n ≡ 3 → ⊥) → Err NamesNothing ≡ by_number input n at
      go zero f g h = refl
      go (suc zero) f g h = absurd (f refl)
      go (suc (suc zero)) f g h = absurd (g refl)
      go (suc (suc (suc zero))) f g h = absurd (h refl)
      go (suc (suc (suc (suc n)))) f g h = refl

  pub reports : n ≡ 3 → Ok (Report at) ≡ by_number input n at
  unfolding by_number
  reports h = rw h

  by_two : 1 ≤ n → n ≤ 2 → by_number input n at ≡ with_two input at (two n)
  unfolding by_number
  by_two = go n
    where
      go : (n : ℕ) → 1 ≤ n → n ≤ 2 → by_number input n at ≡ with_two input at (two n)
      go zero h g = absurd (omega arith)
      go (suc zero) h g = refl
      go (suc (suc zero)) h g = refl
      go (suc (suc (suc n))) h g = absurd (omega arith)

  -- by the reader's answers
  module _ (low : 1 ≤ n) (high : n ≤ 2) where
    pub by_first : {d : Result Number NumberError} → d ≡ read_at max_groups max_number input at
        → or_stopped d (λ m at'. with_number input at' (two n m)) ≡ by_number input n at
    unfolding with_two
    by_first e = ap (λ d. or_stopped d (λ m at'. with_number input at' (two n m))) e ∙ sym (by_two low high)

    pub by_both : {x : Number} → Ok x ≡ read_at max_groups max_number input at → {d : Result Number NumberError}
        → d ≡ read_at max_groups max_number input x.next → or_stopped d (two n x.value) ≡ by_number input n at
    unfolding or_stopped
    by_both {x} e e' = ap (λ d. or_stopped d (two n x.value)) e' ∙ by_first e

module _ (input : List ℕ) (at : ℕ) where
  pub ended : length input ≤ at → Ok Ended ≡ command_at input at
  unfolding command_at
  ended h = rw (le-ltb at (length input) h)

  pub by_step : at < length input → {d : Result Number NumberError} → d ≡ read_at max_groups max_number input at
      → or_stopped d (by_number input) ≡ command_at input at
  unfolding command_at
  by_step h e = rw (lt-ltb at (length input) h, ← e) refl
