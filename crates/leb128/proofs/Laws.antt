-- What reading and writing promise each other (specs/Laws.antt), proved. Assumes nothing.
use mathlib.Core.Path.{◌≡◌, refl, sym, ap, subst, ◌∙◌}
use mathlib.Core.List.{List, [], ◌∷◌, ◌++◌}
use mathlib.Core.Bool.{Bool, true, false, ◌&&◌}
use mathlib.Core.Logic.{◌⊎◌, inl, inr}
use Prim.Native.Nat.{ℕ, zero, suc, ◌+◌, ◌*◌, ◌-◌, ◌/◌, ◌%◌, ◌^◌, ◌≤◌, ◌<◌}
use native.Mathlib.Nat.{pow-suc, div-lt_iff_lt-mul}
use native.Mathlib.Omega.{arith}
use borrow.Author.Tests.{leb-true, lt-ltb, eqb-false}
use lib.Dec.{T, ltb, leb, eqb, ltb→lt}
use lib.ListN.{length, drop}
use Rattle.leb128.specs.Number.{Read, number, cut, invalid, prepend, read_groups, at_most, read, write}
use Rattle.leb128.specs.Laws.{are_bytes, ReadsWhatIsWritten, OnlyTheShortest, WithinTheLimit, RestIsATail, FrontsOfNumbers, WritesBytes}
use Rattle.leb128.proofs.Groups.{by_test, write_last, write-more, read_last, read_more, prepend-more, within}

-- ---- what a number that was read was before

-- an early end is no number
cut-is-none : {A : Type 0} {n : ℕ} {rest : List ℕ} → cut ≡ number n rest → A
cut-is-none e =
    let z : ◌≡◌ {A = ℕ} 0 1 = cc in
    absurd (omega arith)

-- an invalid form is no number
invalid-is-none : {A : Type 0} {n : ℕ} {rest : List ℕ} → invalid ≡ number n rest → A
invalid-is-none e =
    let z : ◌≡◌ {A = ℕ} 0 1 = cc in
    absurd (omega arith)

module _ (n : ℕ) (rest : List ℕ) where
  -- a number up to a limit is the number before the limit
  under_limit : (limit : ℕ) (r : Read) → at_most limit r ≡ number n rest → (r ≡ number n rest) × (n ≤ limit)
  unfolding at_most
  under_limit limit (number m l) e = go (leb m limit) refl
    where
      go : (t : Bool) → leb m limit ≡ t → (number m l ≡ number n rest) × (n ≤ limit)
      go true q =
          let same : number m l ≡ number n rest = rw q at e in
          let eq : m ≡ n = cc in
          (same, omega (arith, leb-true m limit q))
      go false q = invalid-is-none (rw q at e)
  under_limit limit cut e = cut-is-none e
  under_limit limit invalid e = invalid-is-none e

  -- a number behind a byte is not 0, and the two make the number
  behind : (low : ℕ) (r : Read) → prepend low r ≡ number n rest
      → (high : ℕ) × (r ≡ number high rest) × (high ≡ 0 → ⊥) × (n ≡ low + 128 * high)
  unfolding prepend
  behind low (number m l) e = go (eqb m 0) refl
    where
      go : (t : Bool) → eqb m 0 ≡ t
          → (high : ℕ) × (number m l ≡ number high rest) × (high ≡ 0 → ⊥) × (n ≡ low + 128 * high)
      go true q = invalid-is-none (rw q at e)
      go false q =
          let same : number (low + 128 * m) l ≡ number n rest = rw q at e in
          (m, cc, eqb-false m 0 q, cc)
  behind low cut e = cut-is-none e
  behind low invalid e = invalid-is-none e

-- A byte at the front of a number that was read is its only one, or stands before the others.
by_front : {A : Type 0} (k x : ℕ) (xs : List ℕ) (n : ℕ) (rest : List ℕ) → read_groups (suc k) (x ∷ xs) ≡ number n rest
    → (x < 128 → x ≡ n → xs ≡ rest → A)
    → ((high : ℕ) → 128 ≤ x → read_groups k xs ≡ number high rest → (high ≡ 0 → ⊥) → n ≡ x - 128 + 128 * high → A) → A
by_front {A} k x xs n rest e only before = by_test x 128 last more
  where
    last : x < 128 → A
    last b =
        let same : number x xs ≡ number n rest = sym (read_last k x xs b) ∙ e in
        only b (cc) (cc)

    more : 128 ≤ x → A
    more b =
        let w = behind n rest (x - 128) (read_groups k xs) (sym (read_more k x xs b) ∙ e) in
        before w.0 b w.1 w.2 w.3

-- ---- reading gives back what was written

-- one group more
one-more-written : (k n : ℕ) (rest : List ℕ) → 128 ≤ n → read_groups k (write k (n / 128) ++ rest) ≡ number (n / 128) rest
    → read_groups (suc k) (write (suc k) n ++ rest) ≡ number n rest
one-more-written k n rest h ih =
    let low : 128 + n % 128 - 128 ≡ n % 128 = omega arith in
    let whole : n % 128 + 128 * (n / 128) ≡ n = omega arith in
    rw (write-more k n h, read_more k (128 + n % 128) (write k (n / 128) ++ rest) (omega arith), ih, low)
    (rw (prepend-more (n % 128) (n / 128) rest (omega arith), whole))

-- any number that the groups hold
groups_written : (k n : ℕ) (rest : List ℕ) → n < 128 ^ suc k → read_groups (suc k) (write (suc k) n ++ rest) ≡ number n rest
groups_written zero n rest h = rw (write_last 0 n h) (read_last 0 n rest h)
groups_written (suc k) n rest h =
    by_test n 128 (λ b. rw (write_last (suc k) n b) (read_last (suc k) n rest b))
    (λ b. one-more-written (suc k) n rest b
    (groups_written k (n / 128) rest ((div-lt_iff_lt-mul (omega arith)).1 (rw (pow-suc 128 (suc k)) at h))))

pub reads_what_is-written : ReadsWhatIsWritten
unfolding read
reads_what_is-written zero limit n rest p l h = absurd (omega arith)
reads_what_is-written (suc k) limit n rest p l h = rw (groups_written k n rest (omega arith)) (within limit n rest h)

pub within_the_limit : WithinTheLimit
unfolding read
within_the_limit k limit bytes n rest e = (under_limit n rest limit (read_groups k bytes) e).1

-- ---- only the shortest form is read

-- the parts of a test of two
both : (a b : Bool) → T (a && b) → T a × T b
both true b t = (tt, t)
both false b t = absurd t

-- one group more
one-more_shortest : (k x : ℕ) (xs : List ℕ) (n : ℕ) (rest : List ℕ) (high : ℕ) → 128 ≤ x → x < 256 → (high ≡ 0 → ⊥)
    → n ≡ x - 128 + 128 * high → xs ≡ write k high ++ rest → x ∷ xs ≡ write (suc k) n ++ rest
one-more_shortest k x xs n rest high b small pos whole ih =
    let first : 128 + n % 128 ≡ x = omega arith in
    let above : n / 128 ≡ high = omega arith in
    rw (write-more k n (omega arith), first, above) (ap (λ (l : List ℕ). x ∷ l) ih)

-- with no limit
shortest : (k : ℕ) (bytes : List ℕ) (n : ℕ) (rest : List ℕ) → T (are_bytes bytes) → read_groups k bytes ≡ number n rest → bytes ≡ write k n ++ rest
unfolding are_bytes read_groups
shortest zero bytes n rest t e = invalid-is-none e
shortest (suc k) [] n rest t e = cut-is-none e
shortest (suc k) (x ∷ xs) n rest t e =
    let ts = both (ltb x 256) (are_bytes xs) t in
    by_front k x xs n rest e (λ b p q. rw (write_last k n (omega arith)) (cc))
    (λ high b r z p. one-more_shortest k x xs n rest high b (ltb→lt x 256 ts.0) z p (shortest k xs high rest ts.1 r))

pub only_the_shortest : OnlyTheShortest
unfolding read
only_the_shortest k limit bytes n rest t e = shortest k bytes n rest t (under_limit n rest limit (read_groups k bytes) e).0

-- ---- what follows a number

-- `rest` is a later part of `bytes`
abbrev Tail : List ℕ → List ℕ → Type 0
Tail bytes rest = (length rest < length bytes) × (drop (length bytes - length rest) bytes ≡ rest)

-- all but the first
first_tail : (x : ℕ) (xs rest : List ℕ) → xs ≡ rest → Tail (x ∷ xs) rest
first_tail x xs rest e =
    let same : length xs ≡ length rest = ap length e in
    let one : suc (length xs) - length rest ≡ 1 = omega arith in
    (omega arith, rw one e)

-- one byte more in front
later_tail : (x : ℕ) (xs rest : List ℕ) → Tail xs rest → Tail (x ∷ xs) rest
later_tail x xs rest ih =
    let next : suc (length xs) - length rest ≡ suc (length xs - length rest) = omega arith in
    (omega arith, rw next ih.1)

-- with no limit
tail_of : (k : ℕ) (bytes : List ℕ) (n : ℕ) (rest : List ℕ) → read_groups k bytes ≡ number n rest → Tail bytes rest
unfolding read_groups
tail_of zero bytes n rest e = invalid-is-none e
tail_of (suc k) [] n rest e = cut-is-none e
tail_of (suc k) (x ∷ xs) n rest e =
    by_front k x xs n rest e (λ b p q. first_tail x xs rest q) (λ high b r z p. later_tail x xs rest (tail_of k xs high rest r))

pub rest_is_a_tail : RestIsATail
unfolding read
rest_is_a_tail k limit bytes n rest e = tail_of k bytes n rest (under_limit n rest limit (read_groups k bytes) e).0

-- ---- a front of a number's bytes

-- What a front reads as, where with the tail behind it it is the number n.
abbrev Front : Read → List ℕ → ℕ → List ℕ → Type 0
Front r tail n rest = ((left : List ℕ) × (rest ≡ left ++ tail) × (r ≡ number n left)) ⊎ (r ≡ cut)

-- one byte more in front
one-more_front : (low high n : ℕ) (tail rest : List ℕ) (r : Read) → (high ≡ 0 → ⊥) → n ≡ low + 128 * high → Front r tail high rest
    → Front (prepend low r) tail n rest
unfolding prepend
one-more_front low high n tail rest r z p (inl (left, q, h)) = inl (left, q, rw (h, p) (prepend-more low high left z))
one-more_front low high n tail rest r z p (inr h) = inr (rw h)

-- up to a limit
under_limit_front : (limit n : ℕ) (tail rest : List ℕ) (r : Read) → n ≤ limit → Front r tail n rest → Front (at_most limit r) tail n rest
unfolding at_most
under_limit_front limit n tail rest r l (inl (left, q, h)) = inl (left, q, rw h (within limit n left l))
under_limit_front limit n tail rest r l (inr h) = inr (rw h)

-- with no limit
front_of : (k : ℕ) (front tail : List ℕ) (n : ℕ) (rest : List ℕ) → read_groups k (front ++ tail) ≡ number n rest
    → Front (read_groups k front) tail n rest
unfolding read_groups
front_of zero front tail n rest e = invalid-is-none e
front_of (suc k) [] tail n rest e = inr refl
front_of (suc k) (x ∷ xs) tail n rest e =
    by_front k x (xs ++ tail) n rest e (λ b p q. inl (xs, sym q, read_last k x xs b ∙ ap (λ (m : ℕ). number m xs) p))
    (λ high b r z p. subst (λ (r : Read). Front r tail n rest) (sym (read_more k x xs b))
    (one-more_front (x - 128) high n tail rest (read_groups k xs) z p (front_of k xs tail high rest r)))

pub fronts_of_numbers : FrontsOfNumbers
unfolding read
fronts_of_numbers k limit front tail n rest e =
    let u = under_limit n rest limit (read_groups k (front ++ tail)) e in
    under_limit_front limit n tail rest (read_groups k front) u.1 (front_of k front tail n rest u.0)

-- ---- what is written

-- what the law says of a number's bytes
abbrev Bytes : ℕ → List ℕ → Type 0
Bytes k bytes = T (are_bytes bytes) × (length bytes ≤ k) × (0 < k → 0 < length bytes)

-- one byte more in front
one-more_byte : (k x : ℕ) (xs : List ℕ) → x < 256 → T (are_bytes xs) → length xs ≤ k → Bytes (suc k) (x ∷ xs)
unfolding are_bytes
one-more_byte k x xs small t h = (rw (lt-ltb x 256 small) t, omega arith, λ p. omega arith)

pub writes_bytes : WritesBytes
unfolding are_bytes write
writes_bytes zero n = (tt, omega arith, λ h. absurd (omega arith))
writes_bytes (suc k) n =
    let ih = writes_bytes k (n / 128) in
    by_test n 128 (λ b. subst (Bytes (suc k)) (sym (write_last k n b)) (one-more_byte k n [] (omega arith) tt (omega arith)))
    (λ b. subst (Bytes (suc k)) (sym (write-more k n b)) (one-more_byte k (128 + n % 128) (write k (n / 128)) (omega arith) ih.0 ih.1))
