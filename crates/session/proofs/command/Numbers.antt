-- A command's numbers are those that the bytes left of the input ask for. Assumes nothing.
use mathlib.Core.Path.{◌≡◌, refl, ap, sym, ◌∙◌}
use mathlib.Core.List.{List, [], ◌∷◌}
use mathlib.Core.Bool.{Bool, true, false, cond}
use Prim.Native.Nat.{ℕ, zero, suc, ◌<◌}
use native.Mathlib.Omega.{arith}
use lib.ListN.{length, drop, length-drop, drop_of_length-le}
use lib.Dec.{ltb}
use borrow.Author.Tests.{ltb-true, ltb-false}
use Rattle.leb128.specs.Number.{max_groups, max_number}
use Rattle.leb128.specs.Answer.{read_at}
use Rattle.leb128.specs.declared.Number.{Number}
use Rattle.leb128.specs.declared.NumberError.{NumberError}
use Rattle.std.specs.Prelude.{Result, Ok, Err}
use Rattle.refusal.specs.declared.Refusal.{Refusal}
use Rattle.model.specs.BookBytes.{parse_number}
use Rattle.step.specs.declared.answer.Step.TheVariants.{Add, Bind}
use Rattle.book.proofs.reader.Below.{number_of, number_read}
use Rattle.session.specs.declared.command.Command.{Command}
use Rattle.session.specs.declared.command.Command.TheVariants.{Ended, Take}
use Rattle.session.specs.command.Commands.{command_numbers, or_refusal, with_two_numbers, asked_by, asked_numbers, or_stopped, with_number, with_two, by_number, command_at}

-- where there are bytes
some_asked : (bytes : List ℕ) → 0 < length bytes → asked_numbers bytes ≡ or_refusal (parse_number bytes) asked_by
unfolding asked_numbers
some_asked [] h = absurd (omega arith)
some_asked (x ∷ xs) h = refl

module _ (input : List ℕ) where
  -- what follows a number
  number_asked : (at : ℕ) (f : ℕ → ℕ → Result Command Refusal) (g : ℕ → List ℕ → List ℕ) → ((n next : ℕ) → command_numbers (f n next) ≡ g n (drop next input))
      → command_numbers (with_number input at f) ≡ or_refusal (parse_number (drop at input)) g
  unfolding or_stopped or_refusal command_numbers
  number_asked at f g h = go (read_at max_groups max_number input at) ∙ sym (ap (λ p. or_refusal p g) (number_read input at))
    where
      go : (d : Result Number NumberError) → command_numbers (or_stopped d f) ≡ or_refusal (number_of input d) g
      go (Ok r) = h r.value r.next
      go (Err e) = refl

  two_asked : (n at : ℕ) (f : ℕ → ℕ → ℕ → Result Command Refusal) → ((x y next : ℕ) → command_numbers (f x y next) ≡ 0 ∷ n ∷ x ∷ y ∷ [])
      → command_numbers (with_two input at f) ≡ with_two_numbers n (drop at input)
  unfolding with_two with_two_numbers
  two_asked n at f h = number_asked at _ _ (λ x at'. number_asked at' (f x) _ (h x))

  by_number_asked : (n at : ℕ) → command_numbers (by_number input n at) ≡ asked_by n (drop at input)
  unfolding by_number command_numbers asked_by
  by_number_asked zero at = refl
  by_number_asked (suc zero) at = two_asked 1 at (λ l r next. Ok (Take (Add l r) next)) (λ x y next. refl)
  by_number_asked (suc (suc zero)) at = two_asked 2 at (λ v t next. Ok (Take (Bind v t) next)) (λ x y next. refl)
  by_number_asked (suc (suc (suc zero))) at = refl
  by_number_asked (suc (suc (suc (suc n)))) at = refl

  asked : (at : ℕ) → command_numbers (command_at input at) ≡ asked_numbers (drop at input)
  unfolding command_at asked_numbers command_numbers
  asked at = go (ltb at (length input)) refl
    where
      go : (t : Bool) → ltb at (length input) ≡ t → command_numbers (cond t (with_number input at (by_number input)) (Ok Ended)) ≡ asked_numbers (drop at input)
      go true e =
          let here : 0 < length (drop at input) = rw length-drop (omega (arith, ltb-true at (length input) e)) in
          number_asked at (by_number input) asked_by by_number_asked ∙ sym (some_asked (drop at input) here)
      go false e = sym (ap asked_numbers (drop_of_length-le input (ltb-false at (length input) e)))

  -- so by the reader's answer
  pub told : (at : ℕ) {c : Result Command Refusal} → c ≡ command_at input at
      → record { command : c ≡ command_at input at; numbers : command_numbers c ≡ asked_numbers (drop at input) }
  told at e = record { command = e; numbers = ap command_numbers e ∙ asked at }
