-- The terms of one kind, one term more; both kinds are the list of a stored book. Assumes nothing.
use Rattle.std.proofs.Common.{◌≡◌, refl, ap, ap₂, sym, ◌∙◌, List, [], ◌∷◌, ◌++◌, append-nil, Bool, true, false, cond, not, ℕ, ◌+◌, ◌*◌, ◌-◌, ◌≤◌, ◌<◌, zero-add, arith, length, get_or, set, length-append, eqb}
use mathlib.Core.Bool.{beq}
use Rattle.std.proofs.Math.Seq.{sets, length-sets}
use Rattle.model.specs.Lists.{keep, from}
use Rattle.model.specs.Term.{var, app}
use Rattle.model.specs.Area.{term_words}
use Rattle.model.specs.Archive.{is_variable, variables_first}
use Rattle.theory.proofs.Lists.Laws.{length_from, from-append}
use Rattle.theory.proofs.Lists.From.{get_or-map-from, length-map-from}
use Rattle.theory.proofs.Lists.Keep.{keep_append, keep-count, keep-more, keep_same}
use Rattle.layout.specs.limits.Rows.{at, node_of, book_of}
use Rattle.book.proofs.decode.TermRows.{sets_append, sets_more}
use Rattle.archive.specs.list.Listed.{is_kind, of_kind}
use Rattle.archive.proofs.list.Stored.{sets_whole}

-- a row holds a variable where its first word is 0
pub row-variable : (rows : List ℕ) (t : ℕ) → is_variable (node_of rows t) ≡ eqb (at rows (term_words * t)) 0
unfolding node_of is_variable
row-variable rows t = go (eqb (at rows (term_words * t)) 0) _ _
  where
    go : (b : Bool) (s : ℕ) (args : List ℕ) → is_variable (cond b var (app s args)) ≡ b
    go true s args = refl
    go false s args = refl

module _ (rows : List ℕ) (variables : Bool) where
  -- it holds a term of the kind where the test of its first word says so
  pub kind_tested : (t : ℕ) → is_kind variables (node_of rows t) ≡ beq (eqb (at rows (term_words * t)) 0) variables
  unfolding is_kind
  kind_tested t = go variables (eqb (at rows (term_words * t)) 0) (row-variable rows t)
    where
      go : (v b : Bool) → is_variable (node_of rows t) ≡ b → is_kind v (node_of rows t) ≡ beq b v
      go true true e = e
      go true false e = e
      go false true e = rw e
      go false false e = rw e

  pub kind-none : of_kind rows variables 0 ≡ []
  unfolding of_kind keep from
  kind-none = refl

  -- one term more, of the kind or not
  pub kind-more : (t : ℕ) → is_kind variables (node_of rows t) ≡ true → of_kind rows variables (t + 1) ≡ of_kind rows variables t ++ t ∷ []
  unfolding of_kind
  kind-more t e = rw (keep-more (λ t. is_kind variables (node_of rows t)) t, e)

  pub kind-same : (t : ℕ) → is_kind variables (node_of rows t) ≡ false → of_kind rows variables (t + 1) ≡ of_kind rows variables t
  unfolding of_kind
  kind-same t e = rw (keep-more (λ t. is_kind variables (node_of rows t)) t, e) (append-nil (keep (λ t. is_kind variables (node_of rows t)) (from 0 t)))

  -- there are no fewer among more rows
  pub kind_grows : (t n : ℕ) → t ≤ n → length (of_kind rows variables t) ≤ length (of_kind rows variables n)
  unfolding of_kind
  kind_grows t n h =
      let e : n ≡ t + (n - t) = omega arith in
      rw (e, from-append 0 t (n - t), zero-add, keep_append (λ t. is_kind variables (node_of rows t)) (from 0 t), length-append) (omega arith)

  -- The first t terms of the kind are listed.
  pub record Kept (n start : ℕ) (listed₀ listed : List ℕ) (next t : ℕ) : Type 0 where
    pub few : t ≤ n
    pub behind : next ≡ start + length (of_kind rows variables t)
    pub written : listed ≡ sets listed₀ start (of_kind rows variables t)

  module _ {n start : ℕ} {listed₀ : List ℕ} where
    pub kept_none : Kept n start listed₀ listed₀ start 0
    kept_none = record { few = omega arith; behind = rw kind-none (omega arith); written = rw kind-none }

    -- a store keeps the length
    pub kept_long : {listed : List ℕ} {next t : ℕ} → Kept n start listed₀ listed next t → length listed ≡ length listed₀
    kept_long {listed} {next} {t} k = rw k.written (length-sets listed₀ start (of_kind rows variables t))

    module _ {listed : List ℕ} {next t : ℕ} (k : Kept n start listed₀ listed next t) (l : t < n) where
      pub kept_more : is_kind variables (node_of rows t) ≡ true → Kept n start listed₀ (set listed next t) (next + 1) (t + 1)
      kept_more e =
          record {
            few = omega arith;
            behind = rw (kind-more t e, length-append) (omega (arith, k.behind));
            written = rw (k.written, k.behind, kind-more t e) (sym (sets_more listed₀ start (of_kind rows variables t) t));
          }

      pub kept_same : is_kind variables (node_of rows t) ≡ false → Kept n start listed₀ listed next (t + 1)
      kept_same e = record { few = omega arith; behind = rw (kind-same t e) k.behind; written = rw (kind-same t e) k.written }

      -- there is a place for one more
      pub kept_room : is_kind variables (node_of rows t) ≡ true → start + length (of_kind rows variables n) ≤ length listed₀ → next < length listed
      kept_room e room =
          let more : length (of_kind rows variables (t + 1)) ≡ length (of_kind rows variables t) + 1 = rw (kind-more t e, length-append) in
          omega (arith, k.behind, more, kept_long k, kind_grows (t + 1) n (omega arith))

    pub kept_all : {listed : List ℕ} {next t : ℕ} → Kept n start listed₀ listed next t → n ≤ t
        → (next ≡ start + length (of_kind rows variables n)) × (listed ≡ sets listed₀ start (of_kind rows variables n))
    kept_all {listed} {next} {t} k l =
        let e : t ≡ n = omega (arith, k.few) in
        (rw (← e) k.behind, rw (← e) k.written)

-- BOTH KINDS.
module _ (rows : List ℕ) (n : ℕ) where
  pub both_kinds : length (of_kind rows true n) + length (of_kind rows false n) ≡ n
  unfolding of_kind is_kind
  both_kinds = keep-count (λ t. is_variable (node_of rows t)) (from 0 n) ∙ length_from 0 n

  pub book-long : length (book_of rows n) ≡ n
  unfolding book_of
  book-long = length-map-from (node_of rows) 0 n

  pub node_at_lem : (i : ℕ) → i < n → get_or (book_of rows n) i var ≡ node_of rows i
  unfolding book_of
  node_at_lem i l = get_or-map-from (node_of rows) 0 n i var l ∙ ap (node_of rows) (zero-add i)

  pub kinds_listed : of_kind rows true n ++ of_kind rows false n ≡ variables_first (book_of rows n)
  unfolding of_kind is_kind variables_first
  kinds_listed =
      rw book-long
      (ap₂ ◌++◌
      (keep_same (λ t. is_variable (node_of rows t)) (λ t. is_variable (get_or (book_of rows n) t var)) 0 n (λ i k l. ap is_variable (sym (node_at_lem i (omega arith)))))
      (keep_same (λ t. not (is_variable (node_of rows t))) (λ t. not (is_variable (get_or (book_of rows n) t var))) 0 n
      (λ i k l. ap (λ x. not (is_variable x)) (sym (node_at_lem i (omega arith))))))

  -- one kind behind the other, over numbers that are as many as the terms
  pub kinds_stored : (listed₀ listed listed' : List ℕ) → length listed₀ ≡ n → listed ≡ sets listed₀ 0 (of_kind rows true n)
      → listed' ≡ sets listed (0 + length (of_kind rows true n)) (of_kind rows false n) → listed' ≡ variables_first (book_of rows n)
  kinds_stored listed₀ listed listed' long e f =
      let both : List ℕ = of_kind rows true n ++ of_kind rows false n in
      let many : length both ≡ n = rw length-append both_kinds in
      let stored : listed' ≡ sets listed₀ 0 both = rw (f, e) (sym (sets_append listed₀ 0 (of_kind rows true n) (of_kind rows false n))) in
      stored ∙ sets_whole listed₀ both (omega arith) ∙ kinds_listed
