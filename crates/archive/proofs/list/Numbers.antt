-- The numbers of a list read one after the other. Assumes nothing.
use Rattle.std.proofs.Common.{◌≡◌, refl, sym, ap, ◌∙◌, List, [], ◌∷◌, ◌++◌, Bool, true, false, not, ◌&&◌, ◌||◌, ℕ, zero, suc, ◌+◌, ◌-◌, ◌≤◌, ◌<◌, zero-add, suc-add, arith, length, set, take, drop, length-set, take-suc-set, take_all, ltb, leb, ltb-true, ltb-false, le-leb}
use borrow.Author.Tests.{lt-leb, not-true, not-false}
use Rattle.std.specs.List.{list_any}
use Rattle.model.specs.Lists.{all}
use Rattle.model.specs.BookBytes.{Parsed, parsed, unparsed, and_then, need, parse_number}
use Rattle.model.specs.Archive.{parse_numbers}
use Rattle.book.proofs.decode.Whole.{left-none, left_some}
use Rattle.archive.specs.list.Listed.{parse_named}

-- Some numbers, and then more.
pub numbers_split : (i k : ℕ) (bytes : List ℕ) → parse_numbers (i + k) bytes ≡
    and_then (parse_numbers i bytes) (λ xs mid. and_then (parse_numbers k mid) (λ ys rest. parsed (xs ++ ys) rest))
unfolding parse_numbers and_then
numbers_split zero k bytes = rw zero-add (go (parse_numbers k bytes))
  where
    go : (p : Parsed (List ℕ)) → p ≡ and_then p (λ ys rest. parsed ys rest)
    go (parsed ys rest) = refl
    go (unparsed n) = refl
numbers_split (suc i) k bytes = rw suc-add (go (parse_number bytes) (numbers_split i k))
  where
    behind : (x : ℕ) (p : Parsed (List ℕ))
        → and_then (and_then p (λ xs mid. and_then (parse_numbers k mid) (λ ys rest. parsed (xs ++ ys) rest))) (λ xs rest'. parsed (x ∷ xs) rest') ≡
        and_then (and_then p (λ xs rest'. parsed (x ∷ xs) rest')) (λ xs mid. and_then (parse_numbers k mid) (λ ys rest. parsed (xs ++ ys) rest))
    behind x (unparsed n) = refl
    behind x (parsed xs mid) = last (parse_numbers k mid)
      where
        last : (q : Parsed (List ℕ))
            → and_then (and_then q (λ ys rest. parsed (xs ++ ys) rest)) (λ zs rest'. parsed (x ∷ zs) rest') ≡
            and_then q (λ ys rest. parsed (x ∷ (xs ++ ys)) rest)
        last (parsed ys rest) = refl
        last (unparsed n) = refl

    go : (q : Parsed ℕ)
        → ((mid : List ℕ) → parse_numbers (i + k) mid ≡
        and_then (parse_numbers i mid) (λ xs mid. and_then (parse_numbers k mid) (λ ys rest. parsed (xs ++ ys) rest)))
        → and_then q (λ x rest. and_then (parse_numbers (i + k) rest) (λ xs rest'. parsed (x ∷ xs) rest')) ≡
        and_then (and_then q (λ x rest. and_then (parse_numbers i rest) (λ xs rest'. parsed (x ∷ xs) rest')))
        (λ xs mid. and_then (parse_numbers k mid) (λ ys rest. parsed (xs ++ ys) rest))
    go (unparsed n) h = refl
    go (parsed x mid) h = rw (h mid) (behind x (parse_numbers i mid))

-- A number of no term is among some where they are not all below n.
any-all : (n : ℕ) (xs : List ℕ) → list_any (λ t. leb n t) xs ≡ not (all (λ t. ltb t n) xs)
unfolding all
any-all n [] = refl
any-all n (x ∷ xs) = go (ltb x n) refl (any-all n xs)
  where
    go : (b : Bool) → ltb x n ≡ b → list_any (λ t. leb n t) xs ≡ not (all (λ t. ltb t n) xs)
        → leb n x || list_any (λ t. leb n t) xs ≡ not (b && all (λ t. ltb t n) xs)
    go true e h = rw (lt-leb n x (ltb-true x n e)) h
    go false e h = rw (le-leb n x (ltb-false x n e))

-- The first i of n numbers are read.
pub record Read (list : List ℕ) (n : ℕ) (listed : List ℕ) (next i : ℕ) : Type 0 where
  pub long : length listed ≡ n
  pub numbers : parse_numbers i list ≡ parsed (take i listed) (drop next list)

module _ {list : List ℕ} {n : ℕ} where
  pub read_none : {listed : List ℕ} → length listed ≡ n → Read list n listed 0 0
  unfolding parse_numbers
  read_none l = record { long = l; numbers = refl }

  module _ {listed : List ℕ} {next i : ℕ} (r : Read list n listed next i) where
    module _ (l : i < n) where
      -- one number more
      pub read_more : (x after : ℕ) → parse_number (drop next list) ≡ parsed x (drop after list) → Read list n (set listed i x) after (i + 1)
      unfolding parse_numbers and_then
      read_more x after e =
          let there : i < length listed = omega (arith, r.long) in
          let grown : take (i + 1) (set listed i x) ≡ take i listed ++ x ∷ [] =
          (let e : i + 1 ≡ suc i = omega arith in rw e (take-suc-set listed i x there)) in
          record { long = rw length-set r.long; numbers = rw (numbers_split i 1 list, r.numbers, e, grown) }

      -- one that is none
      pub read-refused : (k : ℕ) → parse_number (drop next list) ≡ unparsed k → unparsed k ≡ parse_named n list
      unfolding parse_numbers and_then parse_named
      read-refused k e =
          let s : n ≡ i + suc (n - i - 1) = omega arith in
          let none : parse_numbers n list ≡ unparsed k = ap (λ m. parse_numbers m list) s ∙ rw (numbers_split i (suc (n - i - 1)) list, r.numbers, e) in
          rw none

    -- all of them
    module _ (e : i ≡ n) where
      whole : parse_numbers n list ≡ parsed listed (drop next list)
      whole = rw (e, take_all n listed (omega (arith, r.long))) at r.numbers

      pub read_left : next < length list → unparsed 3 ≡ parse_named n list
      unfolding and_then need parse_named
      read_left h = rw (whole, left_some list next h)

      pub read_unnamed : length list ≤ next → true ≡ list_any (λ t. leb n t) listed → unparsed 8 ≡ parse_named n list
      unfolding and_then need parse_named
      read_unnamed h f = rw (whole, left-none list next h, not-true _ (sym (f ∙ any-all n listed)))

      pub read_named : length list ≤ next → false ≡ list_any (λ t. leb n t) listed → parsed listed [] ≡ parse_named n list
      unfolding and_then need parse_named
      read_named h f = rw (whole, left-none list next h, not-false _ (sym (f ∙ any-all n listed)))
