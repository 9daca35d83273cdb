-- Every refusal that ends a session has words: a book is refused with 1 to 5, and a step stops a session with 1, 2 or 8. Assumes nothing.
use mathlib.Core.Path.{◌≡◌, ap}
use mathlib.Core.List.{List, [], ◌∷◌}
use mathlib.Core.Bool.{Bool, true, false, cond}
use Prim.Native.Nat.{ℕ, zero, suc, ◌≤◌}
use native.Mathlib.Omega.{arith}
use lib.ListN.{length}
use lib.Dec.{T, ltb, leb, leb→le}
use Rattle.leb128.specs.Number.{max_groups, max_number}
use Rattle.leb128.specs.Answer.{read_at}
use Rattle.leb128.specs.declared.Number.{Number}
use Rattle.leb128.specs.declared.NumberError.{NumberError}
use Rattle.leb128.specs.declared.NumberError.TheVariants.{Cut, Invalid}
use Rattle.std.specs.Prelude.{Result, Ok, Err}
use Rattle.refusal.specs.declared.Refusal.{Refusal}
use Rattle.refusal.specs.Numbers.{number_of}
use Rattle.model.specs.Limits.{Limits, office}
use Rattle.model.specs.BookBytes.{Parsed, parsed, unparsed, parse_number, parse_node}
use Rattle.theory.proofs.Lists.Laws.{and_left, and_right}
use Rattle.theory.proofs.Book.Opening.{RefusedBy, need-refused, then-refused, of_book, number-refused as read-refused, node-refused}
use Rattle.book.specs.unread.Unread.{number_of_terms, RefusedAt, number-refused, term-refused, bytes_left}
use Rattle.session.specs.declared.command.Command.{Command}
use Rattle.session.specs.declared.command.Command.TheVariants.{Ended}
use Rattle.session.specs.command.Commands.{or_stopped, with_two, by_number, command_at}
use Rattle.session.specs.fault.Fault.{FaultAt, too_long, length_cut, length-invalid, length_past_end, book-refused}
use Rattle.session.specs.said.Said.{ascii, words, Worded}
use Rattle.session.proofs.fault.Refused.{refused_fault}

-- ---- THE WORDS of 1 to 5, and of 8, are some.
some : (xs : List ℕ) (x : ℕ) → x ∷ xs ≡ [] → ⊥
some xs x e = let n : suc (length xs) ≡ 0 = ap length e in omega (arith, n)

one_to_five : (k : ℕ) → 1 ≤ k → k ≤ 5 → words k ≡ [] → ⊥
unfolding words ascii
one_to_five zero l h = absurd (omega arith)
one_to_five (suc zero) l h = λ e. some _ _ e
one_to_five (suc (suc zero)) l h = λ e. some _ _ e
one_to_five (suc (suc (suc zero))) l h = λ e. some _ _ e
one_to_five (suc (suc (suc (suc zero)))) l h = λ e. some _ _ e
one_to_five (suc (suc (suc (suc (suc zero))))) l h = λ e. some _ _ e
one_to_five (suc (suc (suc (suc (suc (suc n)))))) l h = absurd (omega arith)

eight : words 8 ≡ [] → ⊥
unfolding words ascii
eight e = some _ _ e

-- ---- A BOOK is refused with 1 to 5.
refused_by : {A : Type 0} (p : Parsed A) (k : ℕ) → RefusedBy of_book p → p ≡ unparsed k → (1 ≤ k) × (k ≤ 5)
refused_by p k h e =
    let g : T (of_book k) = rw e at h in
    (leb→le 1 k (and_left (leb 1 k) _ g), leb→le k 5 (and_right (leb 1 k) _ g))

refused-known : (lim : Limits) (bytes : List ℕ) (k : ℕ) → RefusedAt lim bytes k → (1 ≤ k) × (k ≤ 5)
refused-known lim bytes k (number-refused _ e _) =
    refused_by (number_of_terms lim bytes) k
    (then-refused of_book (parse_number bytes) _ (read-refused bytes) λ n rest. need-refused of_book (leb n lim.max_terms) 4 (parsed n rest) tt tt) e
refused-known lim bytes k (term-refused n rest before _ _ _ e) =
    refused_by _ k (then-refused of_book (parse_number _) (parse_node (length before)) (read-refused _) (node-refused (length before))) e
refused-known lim bytes k (bytes_left n rest b _ _ _ e) = (omega (arith, e), omega (arith, e))

-- ---- AN OPENING, by what is refused.
opening-known : (input : List ℕ) (k : ℕ) → FaultAt input k → (1 ≤ k) × (k ≤ 5)
opening-known input k (too_long _ e _) = (omega (arith, e), omega (arith, e))
opening-known input k (length_cut _ e _) = (omega (arith, e), omega (arith, e))
opening-known input k (length-invalid _ e _) = (omega (arith, e), omega (arith, e))
opening-known input k (length_past_end n at _ _ e _) = (omega (arith, e), omega (arith, e))
opening-known input k (book-refused n at _ _ r _) = refused-known office _ k r

-- ---- A STEP, by its numbers.
abbrev Stops : Result Command Refusal → Type 0
Stops (Ok c) = Unit {0}
Stops (Err e) = words (number_of e) ≡ [] → ⊥

or_stops : (d : Result Number NumberError) (then : ℕ → ℕ → Result Command Refusal) → ((n at : ℕ) → Stops (then n at)) → Stops (or_stopped d then)
unfolding or_stopped
or_stops (Ok r) then h = h r.value r.next
or_stops (Err Cut) then h = one_to_five 1 (omega arith) (omega arith)
or_stops (Err Invalid) then h = one_to_five 2 (omega arith) (omega arith)

two_stops : (input : List ℕ) (at : ℕ) (then : ℕ → ℕ → ℕ → Result Command Refusal) → ((m n next : ℕ) → Stops (then m n next)) → Stops (with_two input at then)
unfolding with_two
two_stops input at then h =
    or_stops (read_at max_groups max_number input at) _ λ m at'. or_stops (read_at max_groups max_number input at') _ (h m)

number_stops : (input : List ℕ) (n at : ℕ) → Stops (by_number input n at)
unfolding by_number
number_stops input zero at = eight
number_stops input (suc zero) at = two_stops input at _ λ l r next. tt
number_stops input (suc (suc zero)) at = two_stops input at _ λ v t next. tt
number_stops input (suc (suc (suc zero))) at = tt
number_stops input (suc (suc (suc (suc n)))) at = eight

command_stops : (input : List ℕ) (at : ℕ) → Stops (command_at input at)
unfolding command_at
command_stops input at = go (ltb at (length input))
  where
    go : (t : Bool) → Stops (cond t (or_stopped (read_at max_groups max_number input at) (by_number input)) (Ok Ended))
    go true = or_stops (read_at max_groups max_number input at) (by_number input) (number_stops input)
    go false = tt

stops_at : (c : Result Command Refusal) {e : Refusal} → Stops c → c ≡ Err e → words (number_of e) ≡ [] → ⊥
stops_at c s e = rw e at s

pub worded : Worded
worded =
    record {
      openings = λ input area r room e. let w = opening-known input (number_of r) (refused_fault input area r room e) in one_to_five (number_of r) w.0 w.1;
      steps = λ input at r e. stops_at (command_at input at) (command_stops input at) e;
    }
