-- The refusals of the model's calls are numbers of a `Refusal`: the one that a number names has this number. Assumes nothing.
use Rattle.std.proofs.Common.{◌≡◌, refl, List, [], Bool, true, false, ℕ, zero, suc, ◌≤◌, arith, eqb, leb}
use lib.Dec.{T, leb→le}
use Rattle.model.specs.Limits.{Limits, office, session_capacity}
use Rattle.model.specs.Term.{Book}
use Rattle.model.specs.BookBytes.{Parsed, parsed, unparsed, parse_book}
use Rattle.model.specs.Step.{State, Answer, refused, accepted, require, add_line, bind}
use Rattle.model.specs.Call.{Outcome, refuse, accept, guard, emit, stepped, open_parsed, call_open, call_add, call_bind, call_report}
use Rattle.theory.proofs.Lists.Laws.{and_left, and_right}
use Rattle.theory.proofs.Book.Opening.{RefusedBy, of_book, book-refused}
use Rattle.step.specs.declared.answer.Step.{Step}
use Rattle.step.specs.declared.answer.Step.TheVariants.{Add, Bind}
use Rattle.refusal.specs.Numbers.{number_of, refusal_of}
use Rattle.calls.specs.Called.{call_step}

abbrev pub Told : ℕ → Type 0
Told n = number_of (refusal_of n) ≡ n

-- a book's refusals, 1 to 5
one_to_five : (n : ℕ) → 1 ≤ n → n ≤ 5 → Told n
unfolding refusal_of
one_to_five zero l h = absurd (omega arith)
one_to_five (suc zero) l h = refl
one_to_five (suc (suc zero)) l h = refl
one_to_five (suc (suc (suc zero))) l h = refl
one_to_five (suc (suc (suc (suc zero)))) l h = refl
one_to_five (suc (suc (suc (suc (suc zero))))) l h = refl
one_to_five (suc (suc (suc (suc (suc (suc n)))))) l h = absurd (omega arith)

pub book_told : (n : ℕ) → T (of_book n) → Told n
book_told n h = one_to_five n (leb→le 1 n (and_left (leb 1 n) _ h)) (leb→le n 5 (and_right (leb 1 n) _ h))

-- a step's
abbrev pub ToldAnswer : Answer → Type 0
ToldAnswer (refused n) = Told n
ToldAnswer (accepted ns s) = Unit {0}

require_told : (t : Bool) (n : ℕ) (a : Answer) → Told n → ToldAnswer a → ToldAnswer (require t n a)
unfolding require
require_told true n a h g = g
require_told false n a h g = h

pub add_told : (lim : Limits) (s : State) (l r : ℕ) → ToldAnswer (add_line lim s l r)
unfolding add_line refusal_of
add_told lim s l r = require_told _ 8 _ refl (require_told _ 12 _ refl (require_told _ 11 _ refl tt))

pub bind-told : (s : State) (v t : ℕ) → ToldAnswer (bind s v t)
unfolding bind refusal_of
bind-told s v t = require_told _ 8 _ refl (require_told _ 9 _ refl (require_told _ 10 _ refl (require_told _ 11 _ refl tt)))

-- THE CALLS' OUTCOMES: 0, or such a number.
abbrev pub ToldOutcome : Outcome → Type 0
ToldOutcome o = eqb o.refusal 0 ≡ false → Told o.refusal

guard_told : (t : Bool) (o o' : Outcome) → ToldOutcome o → ToldOutcome o' → ToldOutcome (guard t o o')
unfolding guard
guard_told true o o' h g = g
guard_told false o o' h g = h

refuse_told : (count n : ℕ) (area out : List ℕ) → Told n → ToldOutcome (refuse count n area out)
unfolding refuse
refuse_told count n area out h e = h

accept-told : (ns area out : List ℕ) → ToldOutcome (accept ns area out)
unfolding accept
accept-told ns area out e = cc

stepped_told : (count : ℕ) (area : List ℕ) (a : Answer) → ToldAnswer a → ToldOutcome (stepped office count area a)
unfolding stepped
stepped_told count area (refused n) h = refuse_told count n area [] h
stepped_told count area (accepted ns s) h = accept-told ns _ []

seven : Told 7
unfolding refusal_of
seven = refl

pub step_told : (area : List ℕ) (step : Step) → ToldOutcome (call_step office step area)
unfolding call_step call_add call_bind
step_told area (Add l r) = guard_told _ _ _ (refuse_told 1 7 area [] seven) (stepped_told 1 area _ (add_told office _ l r))
step_told area (Bind v t) = guard_told _ _ _ (refuse_told 2 7 area [] seven) (stepped_told 2 area _ (bind-told _ v t))

pub report_told : (area out : List ℕ) → ToldOutcome (call_report office area out)
unfolding call_report emit refusal_of
report_told area out = guard_told _ _ _ (refuse_told 1 7 area out refl) (guard_told _ _ _ (refuse_told 1 13 area out refl) (accept-told _ area _))

parsed_told : (area : List ℕ) (p : Parsed Book) → RefusedBy of_book p → ToldOutcome (open_parsed office session_capacity area p)
unfolding open_parsed
parsed_told area (parsed b rest) h = accept-told [] _ []
parsed_told area (unparsed n) h = refuse_told 0 n area [] (book_told n h)

pub open_told : (book area : List ℕ) → ToldOutcome (call_open office session_capacity book area)
unfolding call_open refusal_of
open_told book area =
    guard_told _ _ _ (refuse_told 0 4 area [] refl)
    (guard_told _ _ _ (refuse_told 0 7 area [] refl) (parsed_told area (parse_book office book) (book-refused office book)))
