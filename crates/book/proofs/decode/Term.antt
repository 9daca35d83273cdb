-- One term: the outcomes of decoding it, and what its row holds after it. Assumes nothing.
use Rattle.std.proofs.Common.{◌≡◌, refl, sym, ◌∙◌, List, ℕ, zero, suc, ◌+◌, ◌*◌, ◌-◌, ◌≤◌, add-one, arith, length, set, drop, Result, Ok, Err}
use native.Mathlib.Numerals.{add-two}
use Rattle.leb128.specs.declared.Number.{Number}
use Rattle.model.specs.Limits.{max_arity, max_symbol}
use Rattle.model.specs.Term.{Node, var, app}
use Rattle.model.specs.Area.{term_words}
use Rattle.model.specs.BookBytes.{Parsed, parsed, unparsed, and_then, parse_number, parse_arguments, parse_node}
use Rattle.refusal.specs.declared.Refusal.{Refusal}
use Rattle.refusal.specs.declared.Refusal.TheVariants.{OutOfRange}
use Rattle.refusal.specs.Numbers.{number_of}
use Rattle.book.specs.declared.parse.Position.{Position}
use Rattle.book.specs.parse.Below.{parse_below}
use Rattle.book.specs.parse.Parts.{head_read, parse_count, parse_head, node_from, parse_node_of, node_row, AdvanceOf, HeadRead, ArgumentsIn, RowIn, TermIn}
use Rattle.book.proofs.reader.Below.{Says, below-small}
use Rattle.book.proofs.decode.Parsing.{parts-parsed}

-- ---- the head: the first number, and the count

module _ (bytes : List ℕ) (at : ℕ) where
  -- the first number is refused
  pub first-refused : (e : Refusal) → Says bytes at (suc (suc max_symbol)) OutOfRange (Err e) → parse_head (drop at bytes) ≡ unparsed (number_of e)
  unfolding parse_head and_then
  first-refused e s = rw s

  module _ (first : Number) (s : Says bytes at (suc (suc max_symbol)) OutOfRange (Ok first)) where
    -- a variable has no count
    pub head-var : first.value ≡ 0 → HeadRead bytes at (record { next = first.next; first = 0; count = 0 })
    unfolding head_read parse_head parse_count and_then
    head-var z = record { reads = rw (s.0, z); within = s.1; few = omega arith }

    module _ (h : first.value ≡ 0 → ⊥) where
      -- any other term
      head-parsed : parse_head (drop at bytes)
          ≡ and_then (parse_below (suc max_arity) 4 (drop first.next bytes)) (λ c rest. parsed (first.value, c) rest)
      unfolding parse_head and_then parse_count
      head-parsed = rw s.0 (go first.value h)
        where
          go : (n : ℕ) → (n ≡ 0 → ⊥) → parse_count n (drop first.next bytes)
              ≡ and_then (parse_below (suc max_arity) 4 (drop first.next bytes)) (λ c rest. parsed (n, c) rest)
          go zero h = absurd (h refl)
          go (suc s) h = refl

      pub head-counted : (count : Number) → Says bytes first.next (suc max_arity) OutOfRange (Ok count)
          → HeadRead bytes at (record { next = count.next; first = first.value; count = count.value })
      unfolding head_read and_then
      head-counted count c = record {
        reads = sym (head-parsed ∙ rw c.0);
        within = c.1;
        few = omega (arith, below-small (suc max_arity) 4 _ count.value _ c.0);
      }

      -- a count that is refused
      pub count-refused : (e : Refusal) → Says bytes first.next (suc max_arity) OutOfRange (Err e)
          → parse_head (drop at bytes) ≡ unparsed (number_of e)
      unfolding and_then
      count-refused e c = head-parsed ∙ rw c

-- ---- the arguments

-- what holds of a part that is made of another
step_made : {A B : Type 0} (bytes : List ℕ) (p : Parsed A) (P : A → Type 0) (q : Parsed B) (Q : B → Type 0) (f : A → B)
    → q ≡ and_then p (λ a rest. parsed (f a) rest) → ((a : A) → P a → Q (f a)) → (r : Result ℕ Refusal) → AdvanceOf bytes p P r → AdvanceOf bytes q Q r
unfolding and_then
step_made bytes p P q Q f e h (Ok n) s = (f s.0, e ∙ rw s.1, s.2, h s.0 s.3)
step_made bytes p P q Q f e h (Err k) s = e ∙ rw s

module _ (bytes : List ℕ) (t : ℕ) (p : Position) (rows rows' : List ℕ) where
  -- what is promised of them
  abbrev Argued : Result ℕ Refusal → Type 0
  Argued = AdvanceOf bytes (and_then (head_read bytes p) (parse_node_of t)) (RowIn t p rows rows')

  -- a variable has none
  pub arguments-var : p.first ≡ 0 → p.next ≤ length bytes → rows' ≡ rows → Argued (Ok p.next)
  unfolding head_read and_then node_from
  arguments-var z w d = (var, rw z, w, (z, d))

  -- any other term
  pub arguments-read : (p.first ≡ 0 → ⊥) → (r : Result ℕ Refusal)
      → AdvanceOf bytes (parse_arguments t p.count (drop p.next bytes)) (ArgumentsIn t p.count (set (set rows (term_words * t) p.first) (term_words * t + 1) p.count) rows') r → Argued r
  unfolding head_read and_then node_from node_row
  arguments-read h =
      step_made bytes (parse_arguments t p.count (drop p.next bytes)) (ArgumentsIn t p.count (set (set rows (term_words * t) p.first) (term_words * t + 1) p.count) rows')
      (and_then (head_read bytes p) (parse_node_of t)) (RowIn t p rows rows') (app (p.first - 1)) (go p.first h) stands
    where
      go : (n : ℕ) → (n ≡ 0 → ⊥) → node_from t n p.count (drop p.next bytes) ≡ and_then (parse_arguments t p.count (drop p.next bytes)) (λ args rest. parsed (app (n - 1) args) rest)
      go zero h = absurd (h refl)
      go (suc s) h = let same : suc s - 1 ≡ s = omega arith in rw same

      first-is : p.first ≡ suc (p.first - 1)
      first-is = omega (arith, h)

      stands : (args : List ℕ) → ArgumentsIn t p.count (set (set rows (term_words * t) p.first) (term_words * t + 1) p.count) rows' args → RowIn t p rows rows' (app (p.first - 1) args)
      stands args a = (first-is, a.as_many, rw (a.as_many, ← first-is) (simp (add-one, add-two) at a.written))

-- ---- a term

module _ (bytes : List ℕ) (at t : ℕ) where
  -- it is refused at its head
  pub term-refused : (k : ℕ) → parse_head (drop at bytes) ≡ unparsed k → and_then (parse_number (drop at bytes)) (parse_node t) ≡ unparsed k
  unfolding and_then
  term-refused k e = sym (parts-parsed t (drop at bytes)) ∙ rw e

  module _ (rows rows' : List ℕ) (q : Position) (head : HeadRead bytes at q) where
    -- the parts make the term
    term-parts : and_then (parse_number (drop at bytes)) (parse_node t) ≡ and_then (head_read bytes q) (parse_node_of t)
    term-parts = sym (parts-parsed t (drop at bytes)) ∙ rw (← head.reads)

    node_in : (n : Node) → RowIn t q rows rows' n → TermIn t rows rows' n
    unfolding node_row
    node_in var (z, d) = record { few = omega arith; written = d }
    node_in (app s args) (f, m, d) = record { few = omega (arith, head.few); written = d }

    -- so a term is read whole
    pub term-read : (r : Result ℕ Refusal) → AdvanceOf bytes (and_then (head_read bytes q) (parse_node_of t)) (RowIn t q rows rows') r
        → AdvanceOf bytes (and_then (parse_number (drop at bytes)) (parse_node t)) (TermIn t rows rows') r
    term-read (Ok next) (n, e, w, row) = (n, term-parts ∙ e, w, node_in n row)
    term-read (Err k) e = term-parts ∙ e
