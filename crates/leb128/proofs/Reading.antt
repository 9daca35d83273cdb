-- What the reader's answer is at each of its returns, from what was tested on the way there. Assumes nothing.
use mathlib.Core.Path.{◌≡◌, refl, sym}
use mathlib.Core.List.{List}
use Prim.Native.Nat.{ℕ, ◌+◌, ◌*◌, ◌-◌, ◌%◌, ◌≤◌, ◌<◌}
use native.Mathlib.Omega.{arith}
use lib.ListN.{length, get_or, drop}
use Rattle.leb128.specs.Number.{Read, number, cut, invalid, prepend, read_groups, at_most, read, max_groups, max_number}
use Rattle.leb128.specs.Answer.{number_before, placed, read_at, number_of, numbers, read_numbers, numbers_at}
use Rattle.std.specs.Prelude.{Result, Err}
use Rattle.leb128.specs.declared.Number.{Number}
use Rattle.leb128.specs.declared.NumberError.{NumberError}
use Rattle.leb128.specs.declared.NumberError.TheVariants.{Cut, Invalid}
use Rattle.leb128.proofs.Groups.{by_test, group_cut, group_last, group_more, prepend_zero, prepend-more, within, above, placed-next}

-- The group at i, the last one, behind the groups x and y.
abbrev pub third : List ℕ → ℕ → ℕ → ℕ → Result Number NumberError
third s i x y = placed (length s) (at_most max_number (prepend x (prepend y (read_groups 1 (drop i s)))))

module _ (s : List ℕ) (i x y : ℕ) where
  -- past the end
  pub third_cut : length s ≤ i → third s i x y ≡ Err Cut
  unfolding placed at_most prepend
  third_cut h = rw (group_cut 0 s i h)

  module _ (h : i < length s) where
    -- a third byte 0 is no shortest form
    pub third_zero : get_or s i 0 ≡ 0 → third s i x y ≡ Err Invalid
    unfolding placed at_most prepend
    third_zero e = rw (group_last 0 s i h (omega arith), prepend_zero y _ (drop (i + 1) s) e)

    -- the two groups and a third byte that is not 0 and has 80 not set are their sum
    third_sum : (get_or s i 0 ≡ 0 → ⊥) → get_or s i 0 < 128
        → prepend x (prepend y (read_groups 1 (drop i s))) ≡ number (x + 128 * y + 16384 * get_or s i 0) (drop (i + 1) s)
    third_sum e b =
        let z : ℕ = get_or s i 0 in
        let n : x + 128 * (y + 128 * z) ≡ x + 128 * y + 16384 * z = omega arith in
        rw (group_last 0 s i h b, prepend-more y _ (drop (i + 1) s) e, prepend-more x (y + 128 * z) (drop (i + 1) s) (omega arith), n)

    -- a third byte with 80 set is invalid
    third_long : 128 ≤ get_or s i 0 → third s i x y ≡ Err Invalid
    unfolding placed at_most prepend read_groups
    third_long b = rw (group_more 0 s i h b)

    -- any number above the limit is
    pub third_above : (get_or s i 0 ≡ 0 → ⊥) → max_number < x + 128 * y + 16384 * get_or s i 0 → third s i x y ≡ Err Invalid
    unfolding placed
    third_above e m =
        by_test (get_or s i 0) 128 (λ b. rw (third_sum e b, above max_number _ (drop (i + 1) s) m)) (λ b. third_long b)

    -- one up to the limit is read
    pub third_number : (get_or s i 0 ≡ 0 → ⊥) → x + 128 * y + 16384 * get_or s i 0 ≤ max_number
        → third s i x y ≡ number_before (x + 128 * y + 16384 * get_or s i 0) (i + 1)
    third_number e m = rw (third_sum e (omega arith), within max_number _ (drop (i + 1) s) m) (placed-next s i _ h)

-- the answer tells its numbers
pub numbers_told : (s : List ℕ) (i : ℕ) → numbers (read_at max_groups max_number s i) ≡ numbers_at max_groups max_number s i
unfolding read_at numbers_at placed numbers read_numbers number_of
numbers_told s i = go (read max_groups max_number (drop i s))
  where
    go : (x : Read) → numbers (placed (length s) x) ≡ read_numbers (length s) x
    go (number n rest) = refl
    go cut = refl
    go invalid = refl

-- the seven low bits of a byte with 80 set
low_bits : (x : ℕ) → 128 ≤ x → x < 256 → x - 128 ≡ x % 128
low_bits x h b = omega arith

module _ (s : List ℕ) (i : ℕ) where
  -- past the end
  pub first-cut : length s ≤ i → read_at max_groups max_number s i ≡ Err Cut
  unfolding read_at read placed at_most
  first-cut h = rw (group_cut 2 s i h)

  -- a number of one byte
  pub first-number : i < length s → get_or s i 0 < 128 → read_at max_groups max_number s i ≡ number_before (get_or s i 0) (i + 1)
  unfolding read_at read
  first-number h b = rw (group_last 2 s i h b, within max_number (get_or s i 0) (drop (i + 1) s) (omega arith)) (placed-next s i _ h)

  module _ (h : i < length s) (b : 128 ≤ get_or s i 0) where
    -- the bytes end after the first
    pub second_cut : length s ≤ i + 1 → read_at max_groups max_number s i ≡ Err Cut
    unfolding read_at read placed at_most prepend
    second_cut e = rw (group_more 2 s i h b, group_cut 1 s (i + 1) e)

    -- and that is what the answer tells
    pub second_cut_told : length s ≤ i + 1 → numbers (Err Cut) ≡ numbers_at max_groups max_number s i
    second_cut_told e = rw (sym (second_cut e)) (numbers_told s i)

    module _ (g : i + 1 < length s) where
      -- a second byte 0 is no shortest form
      pub second_zero : get_or s (i + 1) 0 ≡ 0 → read_at max_groups max_number s i ≡ Err Invalid
      unfolding read_at read placed at_most
      second_zero e = rw (group_more 2 s i h b, group_last 1 s (i + 1) g (omega arith), prepend_zero _ _ (drop (i + 1 + 1) s) e)

      module _ (f : get_or s i 0 < 256) where
        -- a number of two bytes
        pub second_number : (get_or s (i + 1) 0 ≡ 0 → ⊥) → get_or s (i + 1) 0 < 128
            → read_at max_groups max_number s i ≡ number_before (get_or s i 0 % 128 + 128 * get_or s (i + 1) 0) (i + 1 + 1)
        unfolding read_at read
        second_number e d =
            rw (group_more 2 s i h b, group_last 1 s (i + 1) g d, prepend-more _ _ (drop (i + 1 + 1) s) e, low_bits _ b f)
            (rw (within max_number (get_or s i 0 % 128 + 128 * get_or s (i + 1) 0) (drop (i + 1 + 1) s) (omega arith)) (placed-next s (i + 1) _ g))

        -- two bytes with 80 set stand before the third
        pub to_third : 128 ≤ get_or s (i + 1) 0 → get_or s (i + 1) 0 < 256
            → read_at max_groups max_number s i ≡ third s (i + 1 + 1) (get_or s i 0 % 128) (get_or s (i + 1) 0 % 128)
        unfolding read_at read
        to_third e d = rw (group_more 2 s i h b, group_more 1 s (i + 1) g e, low_bits _ b f, low_bits _ e d)
