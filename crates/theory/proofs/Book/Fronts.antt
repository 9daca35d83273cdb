-- A front of a book that opens, neither empty nor whole, is cut. Assumes nothing.
use mathlib.Core.Path.{◌≡◌, refl, sym, ap, ◌∙◌}
use mathlib.Core.List.{List, [], ◌∷◌, ◌++◌}
use mathlib.Core.Bool.{Bool, true, false}
use mathlib.Core.Logic.{◌⊎◌, inl, inr}
use Prim.Native.Nat.{ℕ, zero, suc, ◌<◌}
use native.Mathlib.Omega.{arith}
use lib.ListN.{length, get_or, take, drop, length-append, take-append-drop}
use lib.Seq.{drop-cons, length-take-le}
use lib.Dec.{ltb, leb}
use Rattle.leb128.specs.Number.{max_groups, max_number, Read, number, cut, invalid, read}
use Rattle.leb128.proofs.Laws.{fronts_of_numbers}
use Rattle.model.specs.Limits.{Limits, max_arity, max_symbol}
use Rattle.model.specs.Lists.{is_empty}
use Rattle.model.specs.Term.{Book}
use Rattle.model.specs.BookBytes.{Parsed, parsed, unparsed, and_then, need, from_read, parse_number, parse_arguments, parse_app, parse_node, parse_terms, parse_written, parse_book}
use Rattle.theory.proofs.Book.Written.{some_written}
use Rattle.theory.proofs.Book.Round.{parsed_whole}

-- What the front of some bytes is parsed as, q, where with the tail behind it it is parsed as p: as the same, with the tail behind what is left;
-- or it is cut.
abbrev Front : {A : Type 0} → List ℕ → Parsed A → Parsed A → Type 0
Front tail (parsed a rest) q = ((left : List ℕ) × (rest ≡ left ++ tail) × (q ≡ parsed a left)) ⊎ (q ≡ unparsed 1)
Front tail (unparsed n) q = Unit {0}

module _ (tail : List ℕ) where
  cut_front : {A : Type 0} (p : Parsed A) → Front tail p (unparsed 1)
  cut_front (parsed a rest) = inr refl
  cut_front (unparsed n) = tt

  -- a test, a sequence and the parsers keep this
  need_front : {A : Type 0} (t : Bool) (n : ℕ) (p q : Parsed A) → Front tail p q → Front tail (need t n p) (need t n q)
  unfolding need
  need_front true n p q h = h
  need_front false n p q h = tt

  then_front : {A B : Type 0} (p q : Parsed A) (f : A → List ℕ → Parsed B) → Front tail p q
      → ((a : A) (left : List ℕ) → Front tail (f a (left ++ tail)) (f a left)) → Front tail (and_then p f) (and_then q f)
  unfolding and_then
  then_front (parsed a rest) q f (inl (left, e, h)) g = rw (e, h) (g a left)
  then_front (parsed a rest) q f (inr h) g = rw h (cut_front (f a rest))
  then_front (unparsed n) q f h g = tt

  number_front : (front : List ℕ) → Front tail (parse_number (front ++ tail)) (parse_number front)
  unfolding parse_number from_read
  number_front front = go (read max_groups max_number (front ++ tail)) refl
    where
      go : (r : Read) → read max_groups max_number (front ++ tail) ≡ r → Front tail (from_read r) (from_read (read max_groups max_number front))
      go (number n rest) e = told (fronts_of_numbers max_groups max_number front tail n rest e)
        where
          told : ((left : List ℕ) × (rest ≡ left ++ tail) × (read max_groups max_number front ≡ number n left)) ⊎ (read max_groups max_number front ≡ cut)
              → Front tail (parsed n rest) (from_read (read max_groups max_number front))
          told (inl (left, q, h)) = inl (left, q, rw h)
          told (inr h) = inr (rw h)
      go cut e = tt
      go invalid e = tt

  arguments_front : (t c : ℕ) (front : List ℕ) → Front tail (parse_arguments t c (front ++ tail)) (parse_arguments t c front)
  unfolding parse_arguments
  arguments_front t zero front = inl (front, refl, refl)
  arguments_front t (suc c) front =
      then_front (parse_number (front ++ tail)) (parse_number front) _ (number_front front) λ a left.
      need_front (ltb a t) 5 _ _
      (then_front (parse_arguments t c (left ++ tail)) (parse_arguments t c left) _ (arguments_front t c left) λ args left'. inl (left', refl, refl))

  node_front : (t tag : ℕ) (front : List ℕ) → Front tail (parse_node t tag (front ++ tail)) (parse_node t tag front)
  unfolding parse_node parse_app
  node_front t zero front = inl (front, refl, refl)
  node_front t (suc s) front =
      need_front (leb s max_symbol) 4 _ _
      (then_front (parse_number (front ++ tail)) (parse_number front) _ (number_front front) λ c left.
      need_front (leb c max_arity) 4 _ _
      (then_front (parse_arguments t c (left ++ tail)) (parse_arguments t c left) _
      (arguments_front t c left) λ args left'. inl (left', refl, refl)))

  terms_front : (k : ℕ) (before : Book) (front : List ℕ) → Front tail (parse_terms k before (front ++ tail)) (parse_terms k before front)
  unfolding parse_terms
  terms_front zero before front = inl (front, refl, refl)
  terms_front (suc k) before front =
      then_front (parse_number (front ++ tail)) (parse_number front) _ (number_front front) λ tag left.
      then_front (parse_node (length before) tag (left ++ tail)) (parse_node (length before) tag left) _ (node_front (length before) tag left) λ n left'.
      terms_front k (before ++ n ∷ []) left'

-- Behind a book nothing is left, so a front that lacks a byte is cut.
module _ (x : ℕ) (xs : List ℕ) where
  none_left : (b : Book) (left : List ℕ) (q : Parsed Book) → Front (x ∷ xs) (need (is_empty (left ++ x ∷ xs)) 3 (parsed b [])) q
  unfolding need is_empty
  none_left b [] q = tt
  none_left b (y ∷ ys) q = tt

  written_front : (lim : Limits) (front : List ℕ) → Front (x ∷ xs) (parse_written lim (front ++ x ∷ xs)) (parse_written lim front)
  unfolding parse_written
  written_front lim front =
      then_front (x ∷ xs) (parse_number (front ++ x ∷ xs)) (parse_number front) _ (number_front (x ∷ xs) front) λ n left.
      need_front (x ∷ xs) (leb n lim.max_terms) 4 _ _
      (then_front (x ∷ xs) (parse_terms n [] (left ++ x ∷ xs)) (parse_terms n [] left) _ (terms_front (x ∷ xs) n [] left) λ b left'.
      none_left b left' _)

pub breaks_off : (lim : Limits) (book : List ℕ) (b : Book) (rest : List ℕ) → parse_book lim book ≡ parsed b rest → (n : ℕ) → 0 < n → n < length book
    → parse_book lim (take n book) ≡ unparsed 1
breaks_off lim book b rest e n some less =
    some_written lim front (omega (arith, length-take-le n book (omega arith)))
    ∙ go (rw (whole, read) at (written_front (get_or book n 0) (drop (suc n) book) lim front))
  where
    front : List ℕ
    front = take n book

    tail : List ℕ
    tail = get_or book n 0 ∷ drop (suc n) book

    whole : front ++ tail ≡ book
    whole = rw (← drop-cons book n 0 less) (take-append-drop n book)

    read : parse_written lim book ≡ parsed b rest
    read = sym (some_written lim book (omega arith)) ∙ e

    go : Front tail (parsed b rest) (parse_written lim front) → parse_written lim front ≡ unparsed 1
    go (inl (left, q, h)) =
        let none : length (left ++ tail) ≡ 0 = ap length (sym q ∙ parsed_whole lim book b rest e) in
        absurd (omega (arith, none, length-append left tail))
    go (inr h) = h
