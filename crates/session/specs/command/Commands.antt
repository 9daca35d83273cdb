-- The command at a position of a session's input (document 01, "Sessions"). Definitions, and a statement of what is proved in
-- proofs/.
use Rattle.std.specs.Prelude.{List, [], ◌∷◌, cond, ℕ, zero, suc, ◌<◌, ◌≤◌, length, ltb, Result, Ok, Err}
use Rattle.leb128.specs.Number.{max_groups, max_number}
use Rattle.leb128.specs.Answer.{read_at}
use Rattle.leb128.specs.declared.Number.{Number}
use Rattle.leb128.specs.declared.NumberError.{NumberError}
use Rattle.model.specs.BookBytes.{Parsed, parsed, unparsed, parse_number}
use Rattle.refusal.specs.declared.Refusal.{Refusal}
use Rattle.refusal.specs.declared.Refusal.TheVariants.{NamesNothing}
use Rattle.refusal.specs.Numbers.{number_of, refused_number}
use Rattle.step.specs.declared.answer.Step.TheVariants.{Add, Bind}
use Rattle.session.specs.declared.command.Command.{Command}
use Rattle.session.specs.declared.command.Command.TheVariants.{Ended, Take, Report}

-- DOCUMENT 01'S NUMBERS FOR EACH COMMAND: 0 and the numbers of the step, 1 l r for a line, 2 v t for a choice, 3 for a report; or the
-- refusal that stops the session. The end of the input has none.
unfoldable pub command_numbers : Result Command Refusal → List ℕ
command_numbers (Ok Ended) = []
command_numbers (Ok (Take (Add l r) next)) = 0 ∷ 1 ∷ l ∷ r ∷ []
command_numbers (Ok (Take (Bind v t) next)) = 0 ∷ 2 ∷ v ∷ t ∷ []
command_numbers (Ok (Report next)) = 0 ∷ 3 ∷ []
command_numbers (Err e) = number_of e ∷ []

-- What they are to be, by the bytes that are left of the input: a number that is cut gives 1, one that is not valid 2, and an unknown
-- step 8.
unfoldable pub or_refusal : Parsed ℕ → (ℕ → List ℕ → List ℕ) → List ℕ
or_refusal (parsed n rest) then = then n rest
or_refusal (unparsed n) then = n ∷ []

unfoldable pub with_two_numbers : ℕ → List ℕ → List ℕ
with_two_numbers n bytes = or_refusal (parse_number bytes) (λ x rest. or_refusal (parse_number rest) (λ y rest'. 0 ∷ n ∷ x ∷ y ∷ []))

unfoldable pub asked_by : ℕ → List ℕ → List ℕ
asked_by zero bytes = 8 ∷ []
asked_by (suc zero) bytes = with_two_numbers 1 bytes
asked_by (suc (suc zero)) bytes = with_two_numbers 2 bytes
asked_by (suc (suc (suc zero))) bytes = 0 ∷ 3 ∷ []
asked_by (suc (suc (suc (suc n)))) bytes = 8 ∷ []

unfoldable pub asked_numbers : List ℕ → List ℕ
asked_numbers [] = []
asked_numbers (x ∷ xs) = or_refusal (parse_number (x ∷ xs)) asked_by

-- What follows a number, with the position after it; where there is none, its refusal stops the session.
unfoldable pub or_stopped : Result Number NumberError → (ℕ → ℕ → Result Command Refusal) → Result Command Refusal
or_stopped (Ok r) then = then r.value r.next
or_stopped (Err e) then = Err (refused_number e)

module _ (input : List ℕ) where
  abbrev pub with_number : ℕ → (ℕ → ℕ → Result Command Refusal) → Result Command Refusal
  with_number at then = or_stopped (read_at max_groups max_number input at) then

  -- what follows two numbers
  unfoldable pub with_two : ℕ → (ℕ → ℕ → ℕ → Result Command Refusal) → Result Command Refusal
  with_two at then = with_number at (λ m at'. with_number at' (then m))

  -- A command by its number: 1 l r adds a line, 2 v t fixes a choice, 3 reports; any other is 8 and stops the session.
  unfoldable pub by_number : ℕ → ℕ → Result Command Refusal
  by_number zero at = Err NamesNothing
  by_number (suc zero) at = with_two at (λ l r next. Ok (Take (Add l r) next))
  by_number (suc (suc zero)) at = with_two at (λ v t next. Ok (Take (Bind v t) next))
  by_number (suc (suc (suc zero))) at = Ok (Report at)
  by_number (suc (suc (suc (suc n)))) at = Err NamesNothing

  -- The command at a position, `Ended` where the input has ended.
  unfoldable pub command_at : ℕ → Result Command Refusal
  command_at at = cond (ltb at (length input)) (with_number at by_number) (Ok Ended)

-- The position behind a command, if it has one, lies behind the position p and within n bytes.
abbrev pub Behind : ℕ → ℕ → Result Command Refusal → Type 0
Behind p n (Ok Ended) = Unit {0}
Behind p n (Ok (Take step next)) = (p < next) × (next ≤ n)
Behind p n (Ok (Report next)) = (p < next) × (next ≤ n)
Behind p n (Err e) = Unit {0}

-- STATEMENT. Every command takes at least a byte.
abbrev pub CommandsGoOn : Type 0
CommandsGoOn = (input : List ℕ) (at : ℕ) → Behind at (length input) (command_at input at)
