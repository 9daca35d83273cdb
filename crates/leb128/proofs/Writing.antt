-- What the writer's bytes are at each of its returns, from what was tested on the way there. Assumes nothing.
use mathlib.Core.Path.{◌≡◌, refl, ap, ◌∙◌}
use mathlib.Core.List.{List, [], ◌∷◌, ◌++◌}
use Prim.Native.Nat.{ℕ, suc, ◌+◌, ◌/◌, ◌%◌, ◌≤◌, ◌<◌}
use native.Mathlib.Omega.{arith}
use native.Mathlib.Nat.{zero-add}
use borrow.Author.Tests.{le-leb, lt-leb}
use lib.Bits.{bit_and, bit_or, and_le_r, and_mask, mask_lt, or_lt, or_shifted_r}
use lib.ListN.{length, drop}
use lib.Seq.{sets, sets-eq}
use Rattle.leb128.specs.Number.{write, write_within, max_groups, max_number}
use Rattle.leb128.proofs.Groups.{by_test, write_last, write-more}

-- ---- the bytes of a number

module _ (n : ℕ) where
  -- one byte
  pub one_byte_lem : n < 128 → write max_groups n ≡ n ∷ []
  one_byte_lem h = write_last 2 n h

  -- two
  pub two_bytes_lem : 128 ≤ n → n < 16384 → write max_groups n ≡ (128 + n % 128) ∷ n / 128 ∷ []
  two_bytes_lem l h = rw (write-more 2 n l, write_last 1 (n / 128) (omega arith))

  -- three
  pub three_bytes : 16384 ≤ n → n ≤ max_number → write max_groups n ≡ (128 + n % 128) ∷ (128 + n / 128 % 128) ∷ n / 16384 ∷ []
  three_bytes l h =
      let third : n / 128 / 128 ≡ n / 16384 = omega arith in
      rw (write-more 2 n (omega arith), write-more 1 (n / 128) (omega arith), third, write_last 0 (n / 16384) (omega arith))

  -- one group is one byte, whatever the number
  last_length : length (write 1 n) ≡ 1
  unfolding write
  last_length = by_test n 128 (λ b. ap length (write_last 0 n b)) (λ b. ap length (write-more 0 n b))

-- three groups are three bytes, also above the limit
pub three_long : (n : ℕ) → 16384 ≤ n → length (write max_groups n) ≡ 3
three_long n l = rw (write-more 2 n (omega arith), write-more 1 (n / 128) (omega arith)) (ap (λ (m : ℕ). suc (suc m)) (last_length (n / 128 / 128)))

-- ---- the same, with groups taken by a mask

-- a number masked to a byte, with bits of a byte set, is a byte
pub masked_fits : (n mask bit : ℕ) → mask < 256 → bit < 256 → bit_or (bit_and n mask) bit < 256
masked_fits n mask bit m b = or_lt 8 (bit_and n mask) bit (omega (arith, and_le_r n mask)) b

-- the lowest seven bits, with 80 (hexadecimal) set
abbrev group : ℕ → ℕ
group n = bit_or (bit_and n 127) 128

-- it is the byte that the definition writes
group_byte : (n : ℕ) → group n ≡ 128 + n % 128
group_byte n = or_shifted_r 1 7 (bit_and n 127) (mask_lt n 7) ∙ ap (λ (m : ℕ). 128 + m) (and_mask n 7)

module _ (n : ℕ) where
  -- two groups
  pub two_groups : 128 ≤ n → n < 16384 → write max_groups n ≡ group n ∷ n / 128 ∷ []
  two_groups l h = rw group_byte (two_bytes_lem n l h)

  -- three
  pub three_groups : 16384 ≤ n → n ≤ max_number → write max_groups n ≡ group n ∷ group (n / 128) ∷ n / 16384 ∷ []
  three_groups l h = simp group_byte (three_bytes n l h)

-- ---- what the writer gives

module _ (room n : ℕ) where
  -- a number above the limit is not written
  pub none_above : max_number < n → write_within max_groups max_number room n ≡ []
  unfolding write_within
  none_above h = rw (lt-leb n max_number h)

  module _ (h : n ≤ max_number) (bytes : List ℕ) (w : write max_groups n ≡ bytes) where
    -- nor one that does not fit
    pub none_short : room < length bytes → write_within max_groups max_number room n ≡ []
    unfolding write_within
    none_short s = rw (le-leb n max_number h, w, lt-leb (length bytes) room s)

    -- any other is
    pub all-written : length bytes ≤ room → write_within max_groups max_number room n ≡ bytes
    unfolding write_within
    all-written s = rw (le-leb n max_number h, w, le-leb (length bytes) room s)

-- the contract, for a slice `out` that ends as `end`
abbrev pub Wrote : List ℕ → ℕ → ℕ → List ℕ → Type 0
Wrote out n taken end =
    record { count : taken ≡ length (write_within max_groups max_number (length out) n); bytes : end ≡ write_within max_groups max_number (length out) n ++ drop taken out }

module _ (out : List ℕ) (n : ℕ) where
  -- nothing was to be written
  nothing : write_within max_groups max_number (length out) n ≡ [] → Wrote out n 0 out
  nothing e = rw e (record { count = refl; bytes = refl })

  -- above the limit
  pub wrote_above : max_number < n → Wrote out n 0 out
  wrote_above h = nothing (none_above (length out) n h)

  module _ (h : n ≤ max_number) (bytes : List ℕ) (w : write max_groups n ≡ bytes) where
    -- too short
    pub wrote_short : length out < length bytes → Wrote out n 0 out
    wrote_short s = nothing (none_short (length out) n h bytes w s)

    -- stored one by one from the front
    pub wrote_all : length bytes ≤ length out → Wrote out n (length bytes) (sets out 0 bytes)
    wrote_all s =
        let front : sets out 0 bytes ≡ bytes ++ drop (length bytes) out = rw (← zero-add (length bytes)) (sets-eq bytes out 0 (omega arith)) in
        rw (all-written (length out) n h bytes w s) (record { count = refl; bytes = front })
