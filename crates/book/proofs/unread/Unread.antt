-- What is not read of a book stands from the position on up to which it is read; a book that is accepted is read to its end; and of one that is
-- refused, the part at that position is refused. Assumes nothing.
use Rattle.std.proofs.Common.{◌≡◌, refl, sym, ap, ◌∙◌, List, [], ◌∷◌, ◌++◌, ℕ, zero, suc, ◌+◌, ◌-◌, ◌<◌, ◌≤◌, arith, length, drop, length-append, length-drop, ltb, leb}
use Rattle.std.proofs.Math.Nat.{sub-zero}
use Rattle.leb128.specs.Number.{max_groups, max_number, Read, number, cut, invalid, read_groups, at_most, read}
use Rattle.leb128.specs.Answer.{placed, read_at}
use Rattle.model.specs.Limits.{Limits, max_arity, max_symbol}
use Rattle.model.specs.Lists.{is_empty}
use Rattle.model.specs.Term.{Node, Book}
use Rattle.model.specs.BookBytes.{Parsed, parsed, unparsed, and_then, need, from_read, parse_number, parse_arguments, parse_app, parse_node, parse_terms, parse_book}
use Rattle.theory.proofs.Book.Gives.{Gives, need_gives, and_then_gives}
use Rattle.book.specs.parse.Below.{parse_below}
use Rattle.book.specs.unread.Unread.{or_left, unread_terms, number_of_terms, unread_book, read_to, UnreadIsLeft, AcceptedIsRead}
use Rattle.book.specs.unread.Unread.{RefusedAt, number-refused, term-refused, bytes_left, RefusedThere}
use Rattle.book.proofs.reader.Below.{number_of, number_read}
use Rattle.book.proofs.decode.Parsing.{then-then}
use Rattle.book.proofs.decode.Whole.{book-parts, count-below, book_unread, read_none}

-- ---- WHAT IS NOT READ is left of the bytes.

-- these are the bytes from a position on
abbrev Left : List ℕ → List ℕ → Type 0
Left bytes left = (at : ℕ) × (at ≤ length bytes) × (left ≡ drop at bytes)

module _ (bytes : List ℕ) where
  -- behind a number
  number-left : (mid : List ℕ) → Left bytes mid → Gives (parse_number mid) (λ n rest. Left bytes rest)
  unfolding read_at placed
  number-left mid (at, w, e) = rw (e, number_read bytes at) (go (read max_groups max_number (drop at bytes)))
    where
      go : (r : Read) → Gives (number_of bytes (placed (length bytes) r)) (λ n rest. Left bytes rest)
      go (number n rest) = (length bytes - length rest, omega arith, refl)
      go cut = tt
      go invalid = tt

  -- behind arguments
  arguments-left : (t c : ℕ) (mid : List ℕ) → Left bytes mid → Gives (parse_arguments t c mid) (λ args rest. Left bytes rest)
  unfolding parse_arguments
  arguments-left t zero mid l = l
  arguments-left t (suc c) mid l =
      and_then_gives _ _ (parse_number mid) _ (number-left mid l) λ a rest m.
      need_gives _ (ltb a t) 5 _ λ _.
      and_then_gives _ _ (parse_arguments t c rest) _ (arguments-left t c rest m) λ args rest' n. n

  -- behind a term
  node-left : (t tag : ℕ) (mid : List ℕ) → Left bytes mid → Gives (parse_node t tag mid) (λ n rest. Left bytes rest)
  unfolding parse_node parse_app
  node-left t zero mid l = l
  node-left t (suc s) mid l =
      need_gives _ (leb s max_symbol) 4 _ λ _.
      and_then_gives _ _ (parse_number mid) _ (number-left mid l) λ c rest m.
      need_gives _ (leb c max_arity) 4 _ λ _.
      and_then_gives _ _ (parse_arguments t c rest) _ (arguments-left t c rest m) λ args rest' n. n

  -- and where a part is refused
  part_left : {A : Type 0} (p : Parsed A) (mid : List ℕ) (then : A → List ℕ → List ℕ) → Left bytes mid → Gives p (λ a rest. Left bytes rest)
      → ((a : A) (rest : List ℕ) → Left bytes rest → Left bytes (then a rest)) → Left bytes (or_left p mid then)
  unfolding or_left
  part_left (parsed a rest) mid then l g h = h a rest g
  part_left (unparsed k) mid then l g h = l

  terms-left : (k : ℕ) (before : Book) (mid : List ℕ) → Left bytes mid → Left bytes (unread_terms k before mid)
  unfolding unread_terms
  terms-left zero before mid l = l
  terms-left (suc k) before mid l =
      part_left (and_then (parse_number mid) (parse_node (length before))) mid _ l
      (and_then_gives _ _ (parse_number mid) _ (number-left mid l) (node-left (length before)))
      (λ n rest m. terms-left k (before ++ n ∷ []) rest m)

  book-left : (lim : Limits) → Left bytes (unread_book lim bytes)
  unfolding unread_book
  book-left lim =
      let whole : Left bytes bytes = (0, omega arith, refl) in
      part_left _ bytes _ whole
      (and_then_gives _ _ (parse_number bytes) _ (number-left bytes whole) λ n rest m. need_gives _ (leb n lim.max_terms) 4 (parsed n rest) λ _. m)
      (λ n rest m. terms-left n [] rest m)

pub unread_is-left : UnreadIsLeft
unfolding read_to
unread_is-left lim bytes =
    let l = book-left bytes lim in
    let there : length bytes - length (unread_book lim bytes) ≡ l.0 = rw (l.2, length-drop) (omega (arith, l.1)) in
    l.2 ∙ rw there

-- ---- A BOOK THAT IS ACCEPTED.

-- a refusal is not an outcome that holds something
not-parsed : {A : Type 0} {k : ℕ} {a : A} {rest : List ℕ} → unparsed k ≡ parsed a rest → ⊥
not-parsed e = let z : ◌≡◌ {A = ℕ} 0 1 = cc in omega arith

-- behind terms that are accepted just the bytes after them are left
terms_passed : (k : ℕ) (before : Book) (bytes : List ℕ) (b : Book) (rest : List ℕ) → parse_terms k before bytes ≡ parsed b rest
    → unread_terms k before bytes ≡ rest
unfolding parse_terms unread_terms and_then or_left
terms_passed zero before bytes b rest e = cc
terms_passed (suc k) before bytes b rest e =
    go (λ before' bytes'. terms_passed k before' bytes' b rest) (and_then (parse_number bytes) (parse_node (length before)))
    (then-then (parse_number bytes) (parse_node (length before)) (λ n left. parse_terms k (before ++ n ∷ []) left) ∙ e)
  where
    go : ((before' : Book) (bytes' : List ℕ) → parse_terms k before' bytes' ≡ parsed b rest → unread_terms k before' bytes' ≡ rest)
        → (p : Parsed Node) → and_then p (λ n left. parse_terms k (before ++ n ∷ []) left) ≡ parsed b rest
        → or_left p bytes (λ n left. unread_terms k (before ++ n ∷ []) left) ≡ rest
    go more (parsed n left) h = more (before ++ n ∷ []) left h
    go more (unparsed m) h = absurd (not-parsed h)

-- and behind a whole book nothing
nothing_left : (lim : Limits) (bytes : List ℕ) (b : Book) (rest : List ℕ) → parse_book lim bytes ≡ parsed b rest → unread_book lim bytes ≡ []
unfolding and_then need is_empty unread_book or_left parse_number from_read read read_groups at_most
nothing_left lim [] b rest e = refl
nothing_left lim (x ∷ xs) b rest e = book_unread lim bytes ∙ go (parse_below _ 4 bytes) (sym (book-parts lim bytes (omega arith)) ∙ e)
  where
    bytes : List ℕ
    bytes = x ∷ xs

    empty : (c : Book) (end : List ℕ) → need (is_empty end) 3 (parsed c []) ≡ parsed b rest → end ≡ []
    empty c [] h = refl
    empty c (x ∷ xs) h = absurd (not-parsed h)

    ended : (n : ℕ) (left : List ℕ) (q : Parsed Book) → parse_terms n [] left ≡ q
        → and_then q (λ c end. need (is_empty end) 3 (parsed c [])) ≡ parsed b rest → unread_terms n [] left ≡ []
    ended n left (parsed c end) t h = terms_passed n [] left c end t ∙ empty c end h
    ended n left (unparsed m) t h = absurd (not-parsed h)

    go : (p : Parsed ℕ) → and_then p (λ n left. and_then (parse_terms n [] left) (λ c end. need (is_empty end) 3 (parsed c []))) ≡ parsed b rest
        → or_left p bytes (λ n left. unread_terms n [] left) ≡ []
    go (parsed n left) h = ended n left (parse_terms n [] left) refl h
    go (unparsed m) h = absurd (not-parsed h)

pub accepted-is-read : AcceptedIsRead
unfolding read_to
accepted-is-read lim bytes b rest e = rw (nothing_left lim bytes b rest e, sub-zero)

-- ---- A BOOK THAT IS REFUSED.

same-refusal : {A : Type 0} {j k : ℕ} → ◌≡◌ {A = Parsed A} (unparsed j) (unparsed k) → j ≡ k
same-refusal e = cc

-- of k terms that are refused with r: those before the one that is refused, and what is left behind them
record Stopped (k : ℕ) (before : Book) (bytes : List ℕ) (r : ℕ) (left : List ℕ) : Type 0 where
  count : ℕ
  fewer : count < k
  book : Book
  as_many : length book ≡ length before + count
  reads : parse_terms count before bytes ≡ parsed book left
  refuses : and_then (parse_number left) (parse_node (length book)) ≡ unparsed r

terms_stopped : (k : ℕ) (before : Book) (bytes : List ℕ) (r : ℕ) → parse_terms k before bytes ≡ unparsed r
    → Stopped k before bytes r (unread_terms k before bytes)
unfolding parse_terms unread_terms and_then or_left
terms_stopped zero before bytes r e = absurd (not-parsed (sym e))
terms_stopped (suc k) before bytes r e =
    go (λ before' bytes'. terms_stopped k before' bytes' r) (and_then (parse_number bytes) (parse_node (length before))) refl
    (then-then (parse_number bytes) (parse_node (length before)) (λ n left. parse_terms k (before ++ n ∷ []) left) ∙ e)
  where
    go : ((before' : Book) (bytes' : List ℕ) → parse_terms k before' bytes' ≡ unparsed r
        → Stopped k before' bytes' r (unread_terms k before' bytes'))
        → (p : Parsed Node) → and_then (parse_number bytes) (parse_node (length before)) ≡ p
        → and_then p (λ n left. parse_terms k (before ++ n ∷ []) left) ≡ unparsed r
        → Stopped (suc k) before bytes r (or_left p bytes (λ n left. unread_terms k (before ++ n ∷ []) left))
    go more (parsed n left) q h =
        let s = more (before ++ n ∷ []) left h in
        record {
          count = suc s.count;
          fewer = omega (arith, s.fewer);
          book = s.book;
          as_many = s.as_many ∙ rw length-append (omega arith);
          reads =
              sym (then-then (parse_number bytes) (parse_node (length before)) (λ x rest. parse_terms s.count (before ++ x ∷ []) rest)) ∙ rw q s.reads;
          refuses = s.refuses;
        }
    go more (unparsed j) q h =
        record { count = 0; fewer = omega arith; book = before; as_many = omega arith; reads = refl; refuses = q ∙ ap unparsed (same-refusal h) }

module _ (lim : Limits) (bytes : List ℕ) where
  -- what is not read of the terms; and where that is something, the position is before the end
  unread_terms_lem : (n : ℕ) (rest : List ℕ) → number_of_terms lim bytes ≡ parsed n rest → unread_terms n [] rest ≡ drop (read_to lim bytes) bytes
  unfolding unread_book or_left
  unread_terms_lem n rest q =
      let u : unread_book lim bytes ≡ unread_terms n [] rest = rw q in
      sym u ∙ unread_is-left lim bytes

  some_unread : (x : ℕ) (xs : List ℕ) → x ∷ xs ≡ drop (read_to lim bytes) bytes → read_to lim bytes < length bytes
  some_unread x xs e =
      let l : length (x ∷ xs) ≡ length (drop (read_to lim bytes) bytes) = ap length e in
      let m : suc (length xs) ≡ length bytes - read_to lim bytes = rw length-drop at l in
      omega (arith, m)

  module _ (k : ℕ) where
    module _ (n : ℕ) (rest : List ℕ) (q : number_of_terms lim bytes ≡ parsed n rest) where
      -- at what is left behind the terms, at one of them, and at their number
      behind_terms : (b : Book) (end : List ℕ) → parse_terms n [] rest ≡ parsed b end → need (is_empty end) 3 (parsed b []) ≡ unparsed k
          → RefusedAt lim bytes k
      unfolding need is_empty
      behind_terms b [] t h = absurd (not-parsed (sym h))
      behind_terms b (x ∷ xs) t h =
          let left : x ∷ xs ≡ drop (read_to lim bytes) bytes = sym (terms_passed n [] rest b (x ∷ xs) t) ∙ unread_terms_lem n rest q in
          bytes_left n rest b q (t ∙ ap (parsed b) left) (some_unread x xs left) (sym (same-refusal h))

      in_terms : (p : Parsed Book) → parse_terms n [] rest ≡ p → and_then p (λ b end. need (is_empty end) 3 (parsed b [])) ≡ unparsed k
          → RefusedAt lim bytes k
      unfolding and_then
      in_terms (parsed b end) t h = behind_terms b end t h
      in_terms (unparsed j) t h =
          let s = terms_stopped n [] rest k (t ∙ ap unparsed (same-refusal h)) in
          let many : length s.book ≡ s.count = omega (arith, s.as_many) in
          let left = unread_terms_lem n rest q in
          term-refused n rest s.book q (omega (arith, many, s.fewer)) (rw (many, ← left) s.reads) (rw (← left) s.refuses)

    in_book : 0 < length bytes → (p : Parsed ℕ) → number_of_terms lim bytes ≡ p
        → and_then p (λ n rest. and_then (parse_terms n [] rest) (λ b end. need (is_empty end) 3 (parsed b []))) ≡ unparsed k → RefusedAt lim bytes k
    unfolding and_then
    in_book some (parsed n rest) q h = in_terms n rest q (parse_terms n [] rest) refl h
    in_book some (unparsed j) q h =
        let e : number_of_terms lim bytes ≡ unparsed k = q ∙ ap unparsed (same-refusal h) in
        number-refused some e (sym (read_none lim bytes k (sym (count-below lim bytes) ∙ e)))

pub refused-there : RefusedThere
unfolding parse_book
refused-there lim [] k e = absurd (not-parsed (sym e))
refused-there lim (x ∷ xs) k e =
    let bytes : List ℕ = x ∷ xs in
    let some : 0 < length bytes = omega arith in
    in_book lim bytes k some (number_of_terms lim bytes) refl (rw (count-below lim bytes) (sym (book-parts lim bytes some) ∙ e))
