-- Terms moved one after the other. Assumes nothing.
use Rattle.std.proofs.Common.{◌≡◌, refl, ap, ap₂, sym, ◌∙◌, List, [], ◌∷◌, ◌++◌, append-nil, map, Bool, true, false, cond, ◌&&◌, ℕ, zero, suc, ◌+◌, ◌*◌, ◌-◌, ◌≤◌, ◌<◌, zero-le, zero-add, arith, length, get_or, take, drop, replicate, length-append, length-take, eqb, ltb}
use mathlib.Core.Bool.{and-true}
use Rattle.std.proofs.Math.ListN.{length-map, get_or-append}
use Rattle.std.proofs.Math.Seq.{sets, get_or-append_seam}
use Rattle.leb128.specs.Number.{max_groups, write}
use Rattle.model.specs.Limits.{max_arity}
use Rattle.model.specs.Lists.{all, from, concat_map}
use Rattle.model.specs.Term.{Node, var, app, arguments, Book}
use Rattle.model.specs.Area.{term_words, node_words}
use Rattle.model.specs.Report.{number_bytes}
use Rattle.model.specs.BookBytes.{node_numbers, book_bytes}
use Rattle.model.specs.Archive.{renumbered, moved, arguments_lower}
use Rattle.theory.proofs.Lists.Laws.{all_append, from-append, concat_map-append}
use Rattle.theory.proofs.Lists.From.{length-map-from, map-from-append, map-from-same}
use Rattle.theory.proofs.Archive.Formed.{renumbered-count}
use Rattle.layout.specs.limits.Rows.{at, node_of, book_of}
use Rattle.book.specs.decode.Rows.{book_rows}
use Rattle.book.specs.parse.Parts.{node_row}
use Rattle.runs.proofs.Numbers.{numbers-append, numbers-first, length-write, length-numbers}
use Rattle.book.proofs.encode.RowsBook.{node-numbers}
use Rattle.book.proofs.decode.TermRows.{rows_none, rows_more, length_more}
use Rattle.archive.specs.moving.Moving.{RowsMove, moved_book}
use Rattle.archive.proofs.list.OfKind.{book-long, node_at_lem}

-- RULE 5, one term more.
all_same : (p q : ℕ → Bool) (k n : ℕ) → ((i : ℕ) → k ≤ i → i < k + n → p i ≡ q i) → all p (from k n) ≡ all q (from k n)
unfolding all from
all_same p q k zero h = refl
all_same p q k (suc n) h = rw (h k (omega arith) (omega arith), all_same p q (suc k) n (λ i l m. h i (omega arith) (omega arith)))

lower_last : (b : Book) (x : Node)
    → all (λ t. all (λ a. ltb a t) (arguments (get_or (b ++ x ∷ []) t var))) (from (length b) 1) ≡ all (λ a. ltb a (length b)) (arguments x)
unfolding all from
lower_last b x = rw (get_or-append_seam b x [] var, and-true)

lower-more : (b : Book) (x : Node) → arguments_lower (b ++ x ∷ []) ≡ arguments_lower b && all (λ a. ltb a (length b)) (arguments x)
unfolding arguments_lower
lower-more b x =
    rw (length-append b (x ∷ []), from-append 0 (length b) 1, zero-add, all_append (λ t. all (λ a. ltb a t) (arguments (get_or (b ++ x ∷ []) t var))) (from 0 (length b)) (from (length b) 1))
    (ap₂ ◌&&◌
    (all_same (λ t. all (λ a. ltb a t) (arguments (get_or (b ++ x ∷ []) t var))) (λ t. all (λ a. ltb a t) (arguments (get_or b t var))) 0 (length b)
    (λ i k l. rw (get_or-append b (x ∷ []) var i (omega arith)))) (lower_last b x))

-- a node renumbered fits into a row
few_words : (f : ℕ → ℕ) (x : Node) → length (arguments x) ≤ max_arity → length (node_row (renumbered f x)) ≤ term_words
unfolding node_row renumbered arguments
few_words f var h = omega arith
few_words f (app s args) h = omega (arith, length-map args f)

row-few : (rows : List ℕ) (t : ℕ) → at rows (term_words * t + 1) ≤ max_arity → length (arguments (node_of rows t)) ≤ max_arity
unfolding node_of arguments
row-few rows t h = go (eqb (at rows (term_words * t)) 0)
  where
    go : (b : Bool) → length (arguments (cond b var (app (at rows (term_words * t) - 1) (take (at rows (term_words * t + 1)) (drop (term_words * t + 2) rows))))) ≤ max_arity
    go true = zero-le
    go false = rw length-take (omega arith)

-- THE FIRST TERMS.
module _ (rows : List ℕ) (n : ℕ) (source target : List ℕ) where
  abbrev term : ℕ → Node
  term k = renumbered (at target) (node_of rows (at source k))

  -- the first i, moved
  abbrev terms : ℕ → Book
  terms i = map term (from 0 i)

  terms-more : (i : ℕ) → terms (i + 1) ≡ terms i ++ term i ∷ []
  unfolding from
  terms-more i = rw (map-from-append term 0 i 1, zero-add)

  -- They are moved; whether rule 5 holds of them, and how many bytes the number of terms and they take, is known.
  pub record TermsMoved (size : ℕ) (moved : List ℕ) (lower : Bool) (bytes i : ℕ) : Type 0 where
    pub few : i ≤ n
    pub written : moved ≡ book_rows size (terms i)
    pub wide : length (concat_map node_words (terms i)) ≡ term_words * length (terms i)
    pub low : lower ≡ arguments_lower (terms i)
    pub long : bytes ≡ length (write max_groups n) + length (number_bytes (concat_map node_numbers (terms i)))
    pub small : bytes ≤ max_groups + max_groups * term_words * i

  pub terms-none : {size : ℕ} {moved : List ℕ} → moved ≡ replicate size 0 → {bytes : ℕ} → bytes ≡ length (write max_groups n)
      → TermsMoved size moved true bytes 0
  unfolding from all concat_map arguments_lower number_bytes
  terms-none {size} e b =
      record {
        few = omega arith;
        written = e ∙ rows_none size;
        wide = refl;
        low = refl;
        long = omega (arith, b);
        small = omega (arith, b, length-write n);
      }

  module _ (r : RowsMove rows n source target) where
    fits : (i : ℕ) → i < n → length (node_row (term i)) ≤ term_words
    fits i l = few_words (at target) (node_of rows (at source i)) (row-few rows (at source i) (r.row (at source i) (r.sources i l)).few)

    -- a term has few numbers
    numbers : (i : ℕ) → i < n → length (number_bytes (node_numbers (term i))) ≤ max_groups * term_words
    numbers i l =
        let few = row-few rows (at source i) (r.row (at source i) (r.sources i l)).few in
        let most = node-numbers (term i) (rw (renumbered-count (at target)) few) in
        omega (arith, length-numbers (node_numbers (term i)), most)

    pub term-small : (i : ℕ) → i < n → {more : ℕ} → more ≡ length (number_bytes (node_numbers (term i))) → more ≤ max_groups * term_words
    term-small i l e = omega (arith, e, numbers i l)

    pub terms-next : {size : ℕ} {moved moved' : List ℕ} {lower : Bool} {bytes i : ℕ} → TermsMoved size moved lower bytes i → i < n
        → term_words * n ≤ size → (more : ℕ) → more ≡ length (number_bytes (node_numbers (term i)))
        → moved' ≡ sets moved (term_words * i) (node_row (term i)) → (lower' : Bool) → lower' ≡ lower && all (λ a. ltb a i) (arguments (term i))
        → TermsMoved size moved' lower' (bytes + more) (i + 1)
    unfolding concat_map
    terms-next {size} {moved} {moved'} {lower} {bytes} {i} m l room more b w lower' e =
        let long : length (terms i) ≡ i = length-map-from term 0 i in
        record {
          few = omega arith;
          written = rw (terms-more i, w, m.written) (rw long at (rows_more (terms i) (term i) (fits i l) size m.wide (omega (arith, long))));
          wide = rw (terms-more i) (length_more (terms i) (term i) (fits i l) m.wide);
          low = rw (terms-more i, lower-more (terms i) (term i), ← m.low, long) e;
          long =
              rw (terms-more i, concat_map-append, append-nil, numbers-append (concat_map node_numbers (terms i)) (node_numbers (term i)), length-append)
              (omega (arith, m.long, b));
          small = omega (arith, m.small, b, numbers i l);
        }

    -- all of them are the book moved
    whole : terms n ≡ moved_book rows n source target
    unfolding moved_book moved
    whole =
        rw (book-long rows n)
        (map-from-same term (λ i. renumbered (at target) (get_or (book_of rows n) (at source i) var)) var 0 n
        (λ j l. rw zero-add (ap (renumbered (at target)) (sym (node_at_lem rows n (at source j) (r.sources j l))))))

    whole_long : length (write max_groups n) + length (number_bytes (concat_map node_numbers (terms n))) ≡ length (book_bytes (moved_book rows n source target))
    unfolding book_bytes
    whole_long = rw (← whole, length-map-from term 0 n, numbers-first, length-append)

    pub terms-all : {size : ℕ} {moved : List ℕ} {lower : Bool} {bytes i : ℕ} → TermsMoved size moved lower bytes i → n ≤ i
        → (lower ≡ arguments_lower (moved_book rows n source target))
        × ((bytes ≡ length (book_bytes (moved_book rows n source target))) × (moved ≡ book_rows size (moved_book rows n source target)))
    terms-all {size} {moved} {lower} {bytes} {i} m l =
        let e : i ≡ n = omega (arith, m.few) in (
          m.low ∙ ap arguments_lower (ap terms e ∙ whole),
          (m.long ∙ ap (λ k. length (write max_groups n) + length (number_bytes (concat_map node_numbers (terms k)))) e ∙ whole_long, m.written ∙ ap (book_rows size) (ap terms e ∙ whole)),
        )
