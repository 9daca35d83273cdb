-- What a session says on standard error where its input stops being one (docs/SPEC.md, "Sessions"): a line with the position of the part
-- that is refused, the refusal, and the refusal in words. Definitions, a sample by computation, and a statement of what is proved in
-- proofs/said/Worded.antt.
use Rattle.std.specs.Prelude.{◌≡◌, refl, List, [], ◌∷◌, ◌++◌, cond, ℕ, ◌+◌, ◌≤◌, length, eqb, Result, Ok, Err}
use Prim.Native.Char.{code}
use Prim.Native.String.{String, [] as none, ◌∷◌ as ◌followedBy◌}
use Rattle.model.specs.Limits.{office, session_capacity}
use Rattle.model.specs.Area.{area_length}
use Rattle.refusal.specs.declared.Refusal.{Refusal}
use Rattle.refusal.specs.Numbers.{number_of}
use Rattle.session.specs.text.Text.{line_feed, max_digits, digits, decimal}
use Rattle.session.specs.declared.command.Command.{Command}
use Rattle.session.specs.command.Commands.{command_at}
use Rattle.session.specs.steps.Effects.{start}
use Rattle.session.specs.fault.Fault.{opening_fault}

-- A text as bytes: the codes of its characters, which in the texts below are under 128.
unfoldable pub ascii : String → List ℕ
ascii none = []
ascii (c followedBy s) = code c ∷ ascii s

-- The refusals that end a session, in words.
unfoldable pub words : ℕ → List ℕ
words k =
    cond (eqb k 1) (ascii "the bytes end too early: within a number, before one, or before the end of the book")
    (cond (eqb k 2) (ascii "a number not in shortest form, of more than three bytes, or above 65,535")
    (cond (eqb k 3) (ascii "bytes after the last term of the book")
    (cond (eqb k 4) (ascii "a number of terms, a symbol or a count out of range, or a session of more than 65,536 bytes")
    (cond (eqb k 5) (ascii "an argument that is not lower than its term")
    (cond (eqb k 8) (ascii "an unknown step")
    [])))))

-- The line of a position and a refusal.
unfoldable pub said_line : ℕ → ℕ → List ℕ
said_line at k =
    ascii "sessions: byte " ++ (decimal at ++ (ascii ": refused with " ++ (decimal k ++ (ascii ": " ++ (words k ++ line_feed ∷ [])))))

-- The longest words, and the most bytes of a line.
abbrev pub longest_words : ℕ
longest_words = 91

abbrev pub said_most : ℕ
said_most = 15 + max_digits + 15 + max_digits + 2 + longest_words + 1

-- What is said of an opening, by the number of each refusal, and of the command at a position: nothing where the session goes on, or is over
-- with its input.
unfoldable pub opening_said_by : {E : Type 0} → (E → ℕ) → List ℕ → Result ℕ E → List ℕ
opening_said_by of input (Ok at) = []
opening_said_by of input (Err e) = said_line (opening_fault input) (of e)

abbrev pub opening_said : List ℕ → Result ℕ Refusal → List ℕ
opening_said = opening_said_by number_of

unfoldable pub command_said : ℕ → Result Command Refusal → List ℕ
command_said at (Ok c) = []
command_said at (Err e) = said_line at (number_of e)

-- The line of an unknown step at position 12.
pub said_sample : said_line 12 8 ≡ ascii "sessions: byte 12: refused with 8: an unknown step\n"
unfolding said_line words ascii decimal digits
said_sample = refl

-- STATEMENT. Every refusal that ends a session has words: that of an opening, where the area has the length that the session's capacity
-- needs, and that of a step.
pub record Worded : Type 0 where
  pub openings : (input area : List ℕ) (e : Refusal) → area_length office session_capacity ≤ length area → (start input area).answer ≡ Err e
      → words (number_of e) ≡ [] → ⊥
  pub steps : (input : List ℕ) (at : ℕ) (e : Refusal) → command_at input at ≡ Err e → words (number_of e) ≡ [] → ⊥
