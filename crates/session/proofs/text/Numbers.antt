-- Numbers read at positions of bytes, one after the other, and their text. Assumes nothing.
use mathlib.Core.Path.{◌≡◌, refl, ap, sym, ◌∙◌}
use mathlib.Core.List.{List, [], ◌∷◌, ◌++◌, append_assoc, append-nil}
use Prim.Native.Nat.{ℕ, zero, suc, ◌+◌, ◌*◌, ◌-◌, ◌≤◌, ◌<◌, zero-le, suc-le-suc}
use native.Mathlib.Nat.{not-suc-le-zero}
use native.Mathlib.Omega.{arith}
use lib.ListN.{length, get_or, drop, length-append, length-drop, drop_of_length-le}
use Rattle.leb128.specs.Number.{max_groups, max_number, Read, number, cut, invalid, read, read_groups, at_most, write}
use Rattle.leb128.specs.Answer.{placed, read_at}
use Rattle.leb128.specs.declared.Number.{Number}
use Rattle.leb128.specs.declared.NumberError.{NumberError}
use Rattle.std.specs.Prelude.{Result, Ok, Err}
use Rattle.leb128.proofs.Laws.{reads_what_is-written, within_the_limit, rest_is_a_tail}
use Rattle.model.specs.Lists.{concat_map}
use Rattle.model.specs.Report.{number_bytes}
use Rattle.model.specs.BookBytes.{Parsed, parsed, unparsed, from_read, parse_number}
use Rattle.book.proofs.reader.Below.{number-answered}
use Rattle.session.specs.declared.text.Writer.{Writer}
use Rattle.session.specs.text.Writing.{Room, Puts}
use Rattle.session.proofs.text.Puts.{puts_none, puts_more}
use Rattle.session.specs.text.Text.{max_digits, number_most, spaced, following, cons_number, numbers_within, numbers_in}
use Rattle.session.proofs.text.Digits.{small_short}

-- A NUMBER AT A POSITION ends behind it, within the bytes, and is within the limit.
abbrev pub Ahead : ℕ → ℕ → Result Number NumberError → Type 0
Ahead at size (Ok r) = (at < r.next) × (r.next ≤ size) × (r.value ≤ max_number)
Ahead at size (Err e) = Unit {0}

pub read_ahead : (bytes : List ℕ) (at : ℕ) → Ahead at (length bytes) (read_at max_groups max_number bytes at)
unfolding read_at placed
read_ahead bytes at = go (read max_groups max_number (drop at bytes)) refl
  where
    go : (r : Read) → read max_groups max_number (drop at bytes) ≡ r → Ahead at (length bytes) (placed (length bytes) r)
    go (number n rest) e =
        let short : length rest < length bytes - at =
        rw length-drop at (rest_is_a_tail max_groups max_number (drop at bytes) n rest e).0 in
        (omega arith, omega arith, within_the_limit max_groups max_number (drop at bytes) n rest e)
    go cut e = tt
    go invalid e = tt

-- so by the reader's answer
pub number_ahead : (bytes : List ℕ) (at : ℕ) {x : Number} → Ok x ≡ read_at max_groups max_number bytes at
    → (at < x.next) × (x.next ≤ length bytes) × (x.value ≤ max_number)
number_ahead bytes at e = rw (sym e) at (read_ahead bytes at)

-- ALL NUMBERS. No bytes hold no number.
read_none : (k : ℕ) → numbers_within k [] ≡ []
unfolding numbers_within cons_number parse_number from_read read read_groups at_most
read_none zero = refl
read_none (suc k) = refl

-- a number that was written
parse_written_lem : (n : ℕ) (rest : List ℕ) → n ≤ max_number → parse_number (write max_groups n ++ rest) ≡ parsed n rest
unfolding parse_number from_read
parse_written_lem n rest h = rw (reads_what_is-written max_groups max_number n rest (omega arith) (omega arith) h)

-- what follows a number is shorter
rest_shorter : (bytes : List ℕ) (n : ℕ) (rest : List ℕ) → parse_number bytes ≡ parsed n rest → length rest < length bytes
unfolding parse_number from_read
rest_shorter bytes n rest e = go (read max_groups max_number bytes) refl
  where
    go : (r : Read) → read max_groups max_number bytes ≡ r → length rest < length bytes
    go (number m l) q =
        let same : parsed m l ≡ parsed n rest = rw q at e in
        let eq : l ≡ rest = cc in
        rw eq at (rest_is_a_tail max_groups max_number bytes m l q).0
    go cut q = let same : unparsed 1 ≡ parsed n rest = rw q at e in let z : ◌≡◌ {A = ℕ} 0 1 = cc in absurd (omega arith)
    go invalid q = let same : unparsed 2 ≡ parsed n rest = rw q at e in let z : ◌≡◌ {A = ℕ} 0 1 = cc in absurd (omega arith)

-- what follows a number is read alike
cons_same : (p : Parsed ℕ) (f g : List ℕ → List ℕ) → ((n : ℕ) (rest : List ℕ) → p ≡ parsed n rest → f rest ≡ g rest)
    → cons_number p f ≡ cons_number p g
unfolding cons_number
cons_same (parsed n rest) f g h = ap (λ xs. n ∷ xs) (h n rest refl)
cons_same (unparsed m) f g h = refl

-- as many as there are bytes are all
read_enough : (j k : ℕ) (bytes : List ℕ) → length bytes ≤ j → length bytes ≤ k → numbers_within j bytes ≡ numbers_within k bytes
unfolding numbers_within
read_enough zero k [] h g = sym (read_none k)
read_enough zero k (x ∷ xs) h g = absurd (not-suc-le-zero h)
read_enough (suc j) zero [] h g = read_none (suc j)
read_enough (suc j) zero (x ∷ xs) h g = absurd (not-suc-le-zero g)
read_enough (suc j) (suc k) bytes h g =
    cons_same (parse_number bytes) (numbers_within j) (numbers_within k)
    (λ n rest e. let l = rest_shorter bytes n rest e in read_enough j k rest (omega arith) (omega arith))

module _ (bytes : List ℕ) where
  -- one more changes nothing
  numbers_again : numbers_in bytes ≡ cons_number (parse_number bytes) (numbers_within (length bytes))
  unfolding numbers_in numbers_within
  numbers_again = read_enough (length bytes) (suc (length bytes)) bytes (omega arith) (omega arith)

  -- the first number and those behind it
  pub numbers-first : (n : ℕ) (rest : List ℕ) → parse_number bytes ≡ parsed n rest → numbers_in bytes ≡ n ∷ numbers_in rest
  unfolding numbers_in cons_number
  numbers-first n rest e =
      let l = rest_shorter bytes n rest e in
      numbers_again ∙ rw e (ap (λ xs. n ∷ xs) (read_enough (length bytes) (length rest) rest (omega arith) (omega arith)))

  -- none where there is no number
  pub numbers-none : (m : ℕ) → parse_number bytes ≡ unparsed m → numbers_in bytes ≡ []
  unfolding cons_number
  numbers-none m e = numbers_again ∙ rw e

-- The bytes of numbers hold these numbers.
pub numbers_in_lem : (ns : List ℕ) → ((i : ℕ) → i < length ns → get_or ns i 0 ≤ max_number) → numbers_in (number_bytes ns) ≡ ns
unfolding number_bytes concat_map numbers_in
numbers_in_lem [] h = read_none 0
numbers_in_lem (n ∷ ns) h =
    numbers-first (write max_groups n ++ number_bytes ns) n (number_bytes ns) (parse_written_lem n (number_bytes ns) (h 0 (suc-le-suc zero-le))) ∙
    ap (λ xs. n ∷ xs) (numbers_in_lem ns (λ i m. h (suc i) (suc-le-suc m)))

-- THE TEXT OF THEM.
following-first : (n : ℕ) (ns : List ℕ) → following (n ∷ ns) ≡ spaced n ++ following ns
unfolding following concat_map
following-first n ns = refl

spaced_short : (n : ℕ) → n ≤ max_number → length (spaced n) ≤ number_most
unfolding spaced
spaced_short n h = omega (arith, small_short n (omega arith))

-- the numbers of so many bytes
parse_small : (bytes : List ℕ) (n : ℕ) (rest : List ℕ) → parse_number bytes ≡ parsed n rest → n ≤ max_number
unfolding parse_number from_read
parse_small bytes n rest e = go (read max_groups max_number bytes) refl
  where
    go : (r : Read) → read max_groups max_number bytes ≡ r → n ≤ max_number
    go (number m l) q =
        let same : parsed m l ≡ parsed n rest = rw q at e in
        let eq : m ≡ n = cc in
        rw eq at (within_the_limit max_groups max_number bytes m l q)
    go cut q = let same : unparsed 1 ≡ parsed n rest = rw q at e in let z : ◌≡◌ {A = ℕ} 0 1 = cc in absurd (omega arith)
    go invalid q = let same : unparsed 2 ≡ parsed n rest = rw q at e in let z : ◌≡◌ {A = ℕ} 0 1 = cc in absurd (omega arith)

cons_short : (w : ℕ) (p : Parsed ℕ) (f : List ℕ → List ℕ) → ((n : ℕ) (rest : List ℕ) → p ≡ parsed n rest → n ≤ max_number)
    → ((rest : List ℕ) → length (following (f rest)) ≤ w) → length (following (cons_number p f)) ≤ number_most + w
unfolding cons_number following concat_map
cons_short w (parsed n rest) f h g = rw length-append (omega (arith, spaced_short n (h n rest refl), g rest))
cons_short w (unparsed m) f h g = zero-le

read_short : (k : ℕ) (bytes : List ℕ) → length (following (numbers_within k bytes)) ≤ number_most * k
unfolding numbers_within following concat_map
read_short zero bytes = zero-le
read_short (suc k) bytes =
    omega (arith, cons_short (number_most * k) (parse_number bytes) (numbers_within k) (parse_small bytes) (read_short k))

pub following_short : (bytes : List ℕ) → length (following (numbers_in bytes)) ≤ number_most * length bytes
unfolding numbers_in
following_short bytes = read_short (length bytes) bytes

-- The numbers up to position pos are put.
pub record Shown (bytes : List ℕ) (old now : Writer) (pos : ℕ) : Type 0 where
  pub within : pos ≤ length bytes
  pub written : List ℕ
  pub puts : Puts old now written
  pub whole : following (numbers_in bytes) ≡ written ++ following (numbers_in (drop pos bytes))
  pub short : length written ≤ number_most * pos

-- at first none
pub shown-none : (bytes : List ℕ) (old : Writer) → Shown bytes old old 0
shown-none bytes old = record { within = zero-le; written = []; puts = puts_none old; whole = refl; short = zero-le }

module _ {bytes : List ℕ} {old now : Writer} {pos : ℕ} (room : Room old (number_most * length bytes + max_digits)) (s : Shown bytes old now pos) where
  -- what is put fits
  fits : Room old (length s.written)
  fits = omega (arith, s.short, s.within)

  -- there is room for a number that stands at the position
  pub shown-room : pos < length bytes → Room now (1 + max_digits)
  shown-room l = omega (arith, s.puts.kept, s.puts.next, s.short)

  -- one number more
  pub shown-more : {x : Number} → Ok x ≡ read_at max_groups max_number bytes pos
      → {now' : Writer} → Puts now now' (spaced x.value) → Shown bytes old now' x.next
  shown-more {x} e {now'} p =
      let n : ℕ = x.value in
      let pos' : ℕ = x.next in
      let ahead = number_ahead bytes pos e in
      let first : numbers_in (drop pos bytes) ≡ n ∷ numbers_in (drop pos' bytes) =
      numbers-first (drop pos bytes) n (drop pos' bytes) (number-answered bytes pos e) in
      record {
        within = ahead.1;
        written = s.written ++ spaced n;
        puts = puts_more fits s.puts p;
        whole = s.whole ∙ rw (first, following-first n (numbers_in (drop pos' bytes)), append_assoc);
        short = rw length-append (omega (arith, s.short, spaced_short n ahead.2));
      }

  -- all of them, where no number stands at the position
  shown_rest : numbers_in (drop pos bytes) ≡ [] → Puts old now (following (numbers_in bytes))
  unfolding following concat_map
  shown_rest e = let none : following (numbers_in bytes) ≡ s.written = s.whole ∙ rw (e, append-nil) in rw none s.puts

  pub shown_stopped : {x : NumberError} → Err x ≡ read_at max_groups max_number bytes pos → Puts old now (following (numbers_in bytes))
  shown_stopped e = shown_rest (numbers-none (drop pos bytes) _ (number-answered bytes pos e))

  pub shown-all : length bytes ≤ pos → Puts old now (following (numbers_in bytes))
  unfolding numbers_in
  shown-all l = shown_rest (ap numbers_in (drop_of_length-le bytes l) ∙ read_none 0)
