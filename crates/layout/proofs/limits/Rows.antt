-- What loaded rows hold, one by one: the terms, the bindings and the entries. Assumes nothing.
use Rattle.std.proofs.Common.{◌≡◌, refl, sym, ◌∙◌, List, map, Bool, true, false, cond, ℕ, ◌+◌, ◌*◌, ◌-◌, ◌≤◌, ◌<◌, zero-le, zero-add, arith, eqb-true, eq-eqb, ne_eqb, length, get_or, take, drop, length-take, length-drop, length-take-le, get_or-take, get_or-drop, eqb}
use Rattle.std.proofs.Math.Option.{none, some}
use Rattle.std.proofs.lemmas.Bool.{eqb-false}
use mathlib.Core.List.{map-map}
use Rattle.model.specs.Lists.{from}
use Rattle.model.specs.Term.{var, app, arguments}
use Rattle.model.specs.Table.{entry, hole_at}
use Rattle.model.specs.Area.{term_words, binding_word}
use Rattle.theory.proofs.Lists.From.{length-map-from, get_or-map-from}
use Rattle.theory.proofs.Lists.Rows.{map-from}
use Rattle.theory.proofs.Soundness.Facts.{Formed}
use Rattle.theory.proofs.Soundness.Terms.{formed_facts}
use Rattle.layout.specs.limits.Rows.{at, node_of, book_of, binding_of, bound_of, loaded_entry, table_of, GoodTerms}

module _ (words : List ℕ) (n : ℕ) where
  -- as many as were asked for
  pub length-book_of : length (book_of words n) ≡ n
  unfolding book_of
  length-book_of = length-map-from (node_of words) 0 n

  pub length-bound_of : length (bound_of words n) ≡ n
  unfolding bound_of
  length-bound_of = length-map-from (binding_of words) 0 n

  pub length-table_of : length (table_of words n) ≡ n
  unfolding table_of
  length-table_of = length-map-from (loaded_entry words) 0 n

  -- the one at place i
  module _ (i : ℕ) (h : i < n) where
    pub get_or-book_of : get_or (book_of words n) i var ≡ node_of words i
    unfolding book_of
    get_or-book_of = rw zero-add at (get_or-map-from (node_of words) 0 n i var h)

    pub get_or-bound_of : get_or (bound_of words n) i none ≡ binding_of words i
    unfolding bound_of
    get_or-bound_of = rw zero-add at (get_or-map-from (binding_of words) 0 n i none h)

    pub get_or-table_of : entry (table_of words n) i ≡ loaded_entry words i
    unfolding table_of
    get_or-table_of = rw zero-add at (get_or-map-from (loaded_entry words) 0 n i (hole_at 0 0 0) h)

-- a term in a row has at most as many arguments as its count says
few-at : (t : Bool) (s c : ℕ) (xs : List ℕ) → length (arguments (cond t var (app s (take c xs)))) ≤ c
unfolding arguments
few-at true s c xs = zero-le
few-at false s c xs = rw length-take (omega arith)

pub few-arguments : (rows : List ℕ) (t : ℕ) → length (arguments (node_of rows t)) ≤ at rows (term_words * t + 1)
unfolding node_of
few-arguments rows t =
    let i = term_words * t in
    few-at (eqb (at rows i) 0) (at rows i - 1) (at rows (i + 1)) (drop (i + 2) rows)

-- the word of the binding in a word is that word
word_at : (x : ℕ) (t : Bool) → eqb x 0 ≡ t → binding_word (cond t none (some (x - 1))) ≡ x
unfolding binding_word
word_at x true e = sym (eqb-true x 0 e)
word_at x false e = let h : x ≡ 0 → ⊥ = eqb-false x 0 e in omega arith

-- the words of the bindings in the first n words are those words
pub binding_words : (bindings : List ℕ) (n : ℕ) → n ≤ length bindings → map binding_word (bound_of bindings n) ≡ take n bindings
unfolding bound_of binding_of
binding_words bindings n h =
    let long : length (take n bindings) ≡ n = length-take-le n bindings h in
    map-map binding_word (binding_of bindings) (from 0 n) ∙
    (rw long at (map-from (λ t. binding_word (binding_of bindings t)) 0 (take n bindings) 0 (λ t l.
    rw (zero-add, get_or-take n bindings t 0 (omega arith)) (word_at (at bindings t) (eqb (at bindings t) 0) refl))))

-- a term and a binding by the first word
module _ (rows : List ℕ) (t : ℕ) where
  pub node-var : at rows (term_words * t) ≡ 0 → node_of rows t ≡ var
  unfolding node_of
  node-var e = rw (eq-eqb (at rows (term_words * t)) 0 e)

  pub node-app : (at rows (term_words * t) ≡ 0 → ⊥)
      → node_of rows t ≡ app (at rows (term_words * t) - 1) (take (at rows (term_words * t + 1)) (drop (term_words * t + 2) rows))
  unfolding node_of
  node-app h = rw (ne_eqb (at rows (term_words * t)) 0 h)

  pub binding_none : at rows t ≡ 0 → binding_of rows t ≡ none
  unfolding binding_of
  binding_none e = rw (eq-eqb (at rows t) 0 e)

  pub binding_some : (at rows t ≡ 0 → ⊥) → binding_of rows t ≡ some (at rows t - 1)
  unfolding binding_of
  binding_some h = rw (ne_eqb (at rows t) 0 h)

module _ {rows bindings : List ℕ} {n : ℕ} (good : GoodTerms rows bindings n) where
  -- the arguments of an application are the words behind its count
  module _ (t : ℕ) (l : t < n) (h : at rows (term_words * t) ≡ 0 → ⊥) where
    pub length-arguments : length (arguments (node_of rows t)) ≡ at rows (term_words * t + 1)
    unfolding arguments
    length-arguments =
        rw (node-app rows t h)
        (length-take-le (at rows (term_words * t + 1)) (drop (term_words * t + 2) rows)
        (rw length-drop (omega (arith, good.few-arguments t l, good.rows_fit))))

    pub get_or-arguments : (i : ℕ) → i < at rows (term_words * t + 1)
        → get_or (arguments (node_of rows t)) i 0 ≡ at rows (term_words * t + 2 + i)
    unfolding arguments
    get_or-arguments i k = rw (node-app rows t h, get_or-take, get_or-drop)

  -- the rules of terms as facts
  pub good_formed : Formed (book_of rows n) (bound_of bindings n)
  good_formed =
      formed_facts (book_of rows n) (bound_of bindings n) (rw (length-bound_of bindings n, length-book_of rows n)) good.rules
