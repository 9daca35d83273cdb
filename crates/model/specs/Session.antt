-- The session program: what it prints for what it reads (document 01, "Sessions"). Its steps go on states; the calls on bytes
-- do the same steps on an area of `session_capacity`. Assumes nothing: these are definitions.
use Rattle.std.specs.Prelude.{List, [], ◌∷◌, cond, ℕ, zero, suc, length, take, drop, leb}
use Rattle.model.specs.Limits.{office, max_session, session_capacity}
use Rattle.model.specs.Term.{Book}
use Rattle.model.specs.Step.{State, Answer, refused, accepted, add_line, bind, opened}
use Rattle.model.specs.Report.{report}
use Rattle.model.specs.BookBytes.{Parsed, parsed, parse_number, parse_book}

-- A printed line is a list of numbers.
abbrev pub Printed : Type 0
Printed = List (List ℕ)

-- What follows a number; where there is none, its refusal is printed and the session ends.
unfoldable pub or_stop : Parsed ℕ → (ℕ → List ℕ → Printed) → Printed
or_stop (parsed n rest) next = next n rest
or_stop (Parsed.unparsed n) next = (n ∷ []) ∷ []

-- An answer's line, then the session with the state after it: a refused step leaves the state and does not end the session.
unfoldable pub answered : State → Answer → (State → Printed) → Printed
answered s (refused n) next = (n ∷ []) ∷ next s
answered s (accepted ns s') next = (0 ∷ ns) ∷ next s'

-- A step by its number: 1 l r adds a line, 2 v t fixes a choice, 3 reports; any other is 8 and ends the session.
unfoldable pub step : (State → List ℕ → Printed) → State → ℕ → List ℕ → Printed
step next s zero bytes = (8 ∷ []) ∷ []
step next s (suc zero) bytes =
    or_stop (parse_number bytes) (λ l rest. or_stop (parse_number rest) (λ r rest'. answered s (add_line office s l r) (λ s'. next s' rest')))
step next s (suc (suc zero)) bytes =
    or_stop (parse_number bytes) (λ v rest. or_stop (parse_number rest) (λ t rest'. answered s (bind s v t) (λ s'. next s' rest')))
step next s (suc (suc (suc zero))) bytes = (0 ∷ report s) ∷ next s bytes
step next s (suc (suc (suc (suc n)))) bytes = (8 ∷ []) ∷ []

-- At most k steps, until the bytes end.
unfoldable pub steps : ℕ → State → List ℕ → Printed
steps zero s bytes = []
steps (suc k) s [] = []
steps (suc k) s (x ∷ xs) = or_stop (parse_number (x ∷ xs)) (step (steps k) s)

unfoldable pub begin : Parsed Book → List ℕ → Printed
begin (parsed b rest) bytes = (0 ∷ []) ∷ steps (length bytes) (opened b session_capacity) bytes
begin (Parsed.unparsed n) bytes = (n ∷ []) ∷ []

-- The book of the length read, and the steps after it; 1 where that length runs past the end.
unfoldable pub with_length : ℕ → List ℕ → Printed
with_length n bytes = cond (leb n (length bytes)) (begin (parse_book office (take n bytes)) (drop n bytes)) ((1 ∷ []) ∷ [])

unfoldable pub session : List ℕ → Printed
session bytes = cond (leb (length bytes) max_session) (or_stop (parse_number bytes) with_length) ((4 ∷ []) ∷ [])
