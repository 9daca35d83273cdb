-- The number at a position, and what the reader of a number below a limit answers, against the definition of a number in crate model. Assumes nothing.
use Rattle.std.proofs.Common.{◌≡◌, refl, sym, ap, subst, ◌∙◌, List, Bool, true, false, cond, ℕ, ◌+◌, ◌-◌, ◌<◌, ◌≤◌, arith, ltb-true, length, drop, length-drop, drop-drop, ltb, Result, Ok, Err}
use Rattle.leb128.specs.Number.{max_groups, max_number, Read, number, cut, invalid, read}
use Rattle.leb128.specs.Answer.{placed, read_at}
use Rattle.leb128.specs.declared.Number.{Number}
use Rattle.leb128.specs.declared.NumberError.{NumberError}
use Rattle.leb128.proofs.Laws.{rest_is_a_tail}
use Rattle.model.specs.BookBytes.{Parsed, parsed, unparsed, and_then, need, from_read, parse_number}
use Rattle.refusal.specs.declared.Refusal.{Refusal}
use Rattle.refusal.specs.Numbers.{number_of as refusal_number, refusal_of, refused_number}
use Rattle.refusal.proofs.Numbers.{numbers_tell}
use Rattle.book.specs.parse.Below.{parse_below, part_of, part_at}

-- ---- numbers at a position

-- the outcome that the reader of a number answers
abbrev pub number_of : List ℕ → Result Number NumberError → Parsed ℕ
number_of bytes (Ok r) = parsed r.value (drop r.next bytes)
number_of bytes (Err e) = unparsed (refusal_number (refused_number e))

-- what follows the number at a position is what stands at the position after it
rest_there : (bytes : List ℕ) (at n : ℕ) (rest : List ℕ) → read max_groups max_number (drop at bytes) ≡ number n rest
    → rest ≡ drop (length bytes - length rest) bytes
rest_there bytes at n rest e =
    let tail = rest_is_a_tail max_groups max_number (drop at bytes) n rest e in
    let short : length rest < length bytes - at = rw length-drop at tail.0 in
    let there : at + (length bytes - at - length rest) ≡ length bytes - length rest = omega arith in
    sym (simp (length-drop, drop-drop, there) at tail.1)

-- so a number is read as the model says
pub number_read : (bytes : List ℕ) (at : ℕ) → parse_number (drop at bytes) ≡ number_of bytes (read_at max_groups max_number bytes at)
unfolding parse_number from_read read_at placed
number_read bytes at = go (read max_groups max_number (drop at bytes)) refl
  where
    go : (r : Read) → read max_groups max_number (drop at bytes) ≡ r → from_read r ≡ number_of bytes (placed (length bytes) r)
    go (number n rest) e = ap (parsed n) (rest_there bytes at n rest e)
    go cut e = refl
    go invalid e = refl

-- and so by the reader's answer
pub number-answered : (bytes : List ℕ) (at : ℕ) {r : Result Number NumberError} → r ≡ read_at max_groups max_number bytes at
    → parse_number (drop at bytes) ≡ number_of bytes r
number-answered bytes at e = number_read bytes at ∙ ap (number_of bytes) (sym e)

-- ---- the answer to a number below a limit

-- the answer, by what the reader of a number answers
abbrev part_from : ℕ → Refusal → Result Number NumberError → Result Number Refusal
part_from limit k (Ok r) = cond (ltb r.value limit) (Ok r) (Err k)
part_from limit k (Err e) = Err (refused_number e)

module _ (bytes : List ℕ) (at limit : ℕ) (k : Refusal) where
  -- what an answer says of the outcome, and of the position that it names
  abbrev pub Says : Result Number Refusal → Type 0
  Says (Ok r) = (parse_below limit (refusal_number k) (drop at bytes) ≡ parsed r.value (drop r.next bytes)) × (r.next ≤ length bytes)
  Says (Err e) = parse_below limit (refusal_number k) (drop at bytes) ≡ unparsed (refusal_number e)

  abbrev Made : Result Number Refusal → Type 0
  Made r = (part_at bytes at limit (refusal_number k) ≡ r) × Says r

  -- the answer is made of the reader's, and says what it says
  part_from_lem : (r : Read) → read max_groups max_number (drop at bytes) ≡ r → Made (part_from limit k (placed (length bytes) r))
  unfolding part_at part_of parse_below parse_number from_read and_then need placed refusal_of
  part_from_lem (number n rest) e = test (ltb n limit) refl
    where
      test : (b : Bool) → ltb n limit ≡ b → Made (cond b (Ok (record { value = n; next = length bytes - length rest })) (Err k))
      test true q = (rw (e, q), (rw (e, q) (ap (parsed n) (rest_there bytes at n rest e)), omega arith))
      test false q = (rw (e, q) (ap (λ (x : Refusal). Err x) (numbers_tell k)), rw (e, q))
  part_from_lem cut e = (rw e, rw e)
  part_from_lem invalid e = (rw e, rw e)

  pub part_answered : {r : Result Number NumberError} → r ≡ read_at max_groups max_number bytes at
      → part_from limit k r ≡ part_at bytes at limit (refusal_number k)
  unfolding read_at
  part_answered e = sym ((part_from_lem _ refl).0 ∙ ap (part_from limit k) (sym e))

  pub part_says : {r : Result Number Refusal} → r ≡ part_at bytes at limit (refusal_number k) → Says r
  part_says e = subst Says (sym (part_from_lem _ refl).0 ∙ sym e) (part_from_lem _ refl).1

-- ---- a number below a limit

module _ (limit k : ℕ) (bytes : List ℕ) where
  -- a number that was read is below the limit
  pub below-small : (n : ℕ) (rest : List ℕ) → parse_below limit k bytes ≡ parsed n rest → n < limit
  unfolding parse_below and_then need
  below-small n rest e = go (parse_number bytes) refl
    where
      test : (m : ℕ) (l : List ℕ) (b : Bool) → ltb m limit ≡ b → need b k (parsed m l) ≡ parsed n rest → n < limit
      test m l true q d = let same : m ≡ n = cc in omega (arith, ltb-true m limit q)
      test m l false q d = let z : ◌≡◌ {A = ℕ} 0 1 = cc in absurd (omega arith)

      go : (p : Parsed ℕ) → parse_number bytes ≡ p → n < limit
      go (parsed m l) q = test m l (ltb m limit) refl (rw q at e)
      go (unparsed m) q = let d : unparsed m ≡ parsed n rest = rw q at e in let z : ◌≡◌ {A = ℕ} 0 1 = cc in absurd (omega arith)

  -- and a refusal is not 0
  pub below_positive : (m : ℕ) → 0 < k → parse_below limit k bytes ≡ unparsed m → 0 < m
  unfolding parse_below parse_number from_read and_then need
  below_positive m l = go (read max_groups max_number bytes)
    where
      test : (n : ℕ) (rest : List ℕ) (b : Bool) → need b k (parsed n rest) ≡ unparsed m → 0 < m
      test n rest true d = let z : ◌≡◌ {A = ℕ} 0 1 = cc in absurd (omega arith)
      test n rest false d = let same : k ≡ m = cc in omega (arith, l)

      go : (r : Read) → and_then (from_read r) (λ n rest. need (ltb n limit) k (parsed n rest)) ≡ unparsed m → 0 < m
      go (number n rest) d = test n rest (ltb n limit) d
      go cut d = let same : ◌≡◌ {A = ℕ} 1 m = cc in omega arith
      go invalid d = let same : ◌≡◌ {A = ℕ} 2 m = cc in omega arith

  -- a number that is needed to be below the limit, and what follows it
  pub below_then : {A : Type 0} (f : ℕ → List ℕ → Parsed A)
      → and_then (parse_number bytes) (λ n rest. need (ltb n limit) k (f n rest)) ≡ and_then (parse_below limit k bytes) f
  unfolding parse_below and_then need
  below_then {A} f = go (parse_number bytes)
    where
      test : (b : Bool) (n : ℕ) (rest : List ℕ) → need b k (f n rest) ≡ and_then (need b k (parsed n rest)) f
      test true n rest = refl
      test false n rest = refl

      go : (p : Parsed ℕ) → and_then p (λ n rest. need (ltb n limit) k (f n rest))
          ≡ and_then (and_then p (λ n rest. need (ltb n limit) k (parsed n rest))) f
      go (parsed n rest) = test (ltb n limit) n rest
      go (unparsed m) = refl
