-- Reading a list: the bytes of a list that names every term once are read, and no others. Assumes nothing.
use mathlib.Core.Path.{◌≡◌, refl, ap}
use mathlib.Core.List.{List, [], ◌∷◌, ◌++◌, append-nil, append_assoc}
use Prim.Native.Nat.{ℕ, zero, suc, ◌≤◌, ◌<◌, zero-le, suc-le-suc}
use native.Mathlib.Omega.{arith}
use lib.ListN.{length, get_or}
use lib.Dec.{T, ltb}
use Rattle.leb128.specs.Number.{max_number}
use Rattle.leb128.specs.Laws.{are_bytes}
use Rattle.model.specs.Lists.{all, is_empty}
use Rattle.model.specs.Report.{number_bytes}
use Rattle.model.specs.BookBytes.{parsed, and_then, need, parse_number}
use Rattle.model.specs.Archive.{parse_numbers, all_distinct, parse_list}
use Rattle.theory.specs.Archive.{EachOnce, ReadsLists}
use Rattle.theory.proofs.Book.Gives.{Gives, gives_at, need_gives, and_then_gives, and_then-any}
use Rattle.theory.proofs.Book.Round.{Wrote, wrote_none, number-written, empty-nil}
use Rattle.theory.proofs.Book.Parses.{number-parsed, bytes-none}
use Rattle.theory.proofs.Refusals.Deciding.{tells_of, told, tells_lt}
use Rattle.theory.proofs.Refusals.Archive.{tells_all, tells_distinct}

-- WHAT IS WRITTEN IS READ.
numbers-parsed : (ns rest : List ℕ) → ((i : ℕ) → i < length ns → get_or ns i 0 ≤ max_number)
    → parse_numbers (length ns) (number_bytes ns ++ rest) ≡ parsed ns rest
unfolding parse_numbers and_then
numbers-parsed [] rest h = ap (parsed []) (bytes-none rest)
numbers-parsed (n ∷ ns) rest h =
    rw (number-parsed n ns rest (h 0 (suc-le-suc zero-le)), numbers-parsed ns rest (λ i l. h (suc i) (suc-le-suc l)))

taken : (n : ℕ) (list : List ℕ) → n ≤ max_number → EachOnce n list → parse_list n (number_bytes list) ≡ parsed list []
unfolding parse_list and_then need is_empty
taken n list m o =
    let below : (i : ℕ) → i < length list → get_or list i 0 < n = λ i l. o.terms i (omega (arith, o.as_many)) in
    let numbers : parse_numbers n (number_bytes list) ≡ parsed list [] =
    rw (o.as_many, append-nil) at (numbers-parsed list [] (λ i l. omega (arith, below i l))) in
    rw (numbers, told (tells_all 0 (λ t. t < n) (λ t. ltb t n) (λ t. tells_lt t n) list) below, told (tells_distinct list) o.once)

-- WHAT IS READ WAS WRITTEN.
numbers-long : (k : ℕ) (bytes : List ℕ) → Gives (parse_numbers k bytes) (λ ns rest. length ns ≡ k)
unfolding parse_numbers
numbers-long zero bytes = refl
numbers-long (suc k) bytes =
    and_then-any _ (parse_number bytes) _ λ x rest.
    and_then_gives _ _ (parse_numbers k rest) _ (numbers-long k rest) λ xs rest' e. ap suc e

numbers-written : (bytes : List ℕ) (k : ℕ) (ns mid : List ℕ) → Wrote bytes ns mid
    → Gives (parse_numbers k mid) (λ xs rest. Wrote bytes (ns ++ xs) rest)
unfolding parse_numbers
numbers-written bytes zero ns mid w = rw append-nil w
numbers-written bytes (suc k) ns mid w =
    and_then_gives _ _ (parse_number mid) _ (number-written bytes ns mid w) λ x rest v.
    and_then_gives _ _ (parse_numbers k rest) _ (numbers-written bytes k (ns ++ x ∷ []) rest v) λ xs rest' u.
    simp append_assoc at u

only_these : (n : ℕ) (bytes list rest : List ℕ) → parse_list n bytes ≡ parsed list rest
    → EachOnce n list × (rest ≡ []) × (T (are_bytes bytes) → bytes ≡ number_bytes list)
unfolding parse_list
only_these n bytes list rest e =
    let once = gives_at (λ list rest. EachOnce n list × (rest ≡ [])) (parse_list n bytes) list rest
    (and_then_gives _ _ (parse_numbers n bytes) _ (numbers-long n bytes) λ xs mid l.
    need_gives _ (is_empty mid) 3 _ λ a.
    need_gives _ (all (λ t. ltb t n) xs) 8 _ λ h.
    need_gives _ (all_distinct xs) 14 (parsed xs []) λ d. (
      record {
        as_many = l;
        terms = λ i k. tells_of (tells_all 0 (λ t. t < n) (λ t. ltb t n) (λ t. tells_lt t n) xs) h i (omega arith);
        once = tells_of (tells_distinct xs) d;
      },
      refl,
    )) e in (
      once.0,
      once.1,
      λ w.
          gives_at (λ list rest. bytes ≡ number_bytes list) (parse_list n bytes) list rest
          (and_then_gives _ _ (parse_numbers n bytes) _ (numbers-written bytes n [] bytes (wrote_none bytes w)) λ xs mid v.
          need_gives _ (is_empty mid) 3 _ λ a.
          need_gives _ (all (λ t. ltb t n) xs) 8 _ λ h.
          need_gives _ (all_distinct xs) 14 (parsed xs []) λ d.
          rw (empty-nil mid a, append-nil) at v.whole) e,
    )

pub reads_lists : ReadsLists
reads_lists = record { taken = taken; only_these = only_these }
