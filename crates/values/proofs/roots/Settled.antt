-- Along a list in which all that a value is made of comes first: a word for each term before a place of the list, of which
-- something holds. Assumes nothing.
use Rattle.std.proofs.Common.{◌≡◌, ap, sym, ◌∙◌, List, ◌++◌, map, ℕ, ◌+◌, ◌≤◌, ◌<◌, zero-add, arith, length, get_or, take, drop, set, take-append-drop, length-take, length-set, get_or-set_same, get_or-set_other, get_or-take, length-take-le, drop-set-lt}
use Rattle.std.proofs.Math.Decide.{ℕ_discrete}
use Rattle.model.specs.Lists.{from}
use Rattle.theory.proofs.Lists.Rows.{map-from}
use Rattle.layout.specs.limits.Rows.{at, node_of, binding_of}
use Rattle.layout.proofs.limits.Rows.{length-book_of, get_or-book_of, get_or-bound_of}
use Rattle.values.specs.order.Order.{parts_of, parts, Before}
use Rattle.values.specs.roots.Reading.{Listed}

-- P holds of each term before place k of the list and its word
abbrev pub Settled : (ℕ → ℕ → Type 0) → List ℕ → ℕ → List ℕ → Type 0
Settled P list k words = (i : ℕ) → i < k → P (at list i) (at words (at list i))

-- the word of the term at place k is set, whether or not that term stands at an earlier place too
pub settled-more : (P : ℕ → ℕ → Type 0) (list words : List ℕ) (k w : ℕ) → at list k < length words
    → Settled P list k words → P (at list k) w → Settled P list (k + 1) (set words (at list k) w)
settled-more P list words k w l h p i j = go (ℕ_discrete (at list i) (at list k))
  where
    go : Dec (at list i ≡ at list k) → P (at list i) (at (set words (at list k) w) (at list i))
    go (yes q) = rw (q, get_or-set_same words (at list k) w 0 l) p
    go (no q) = rw (get_or-set_other words (at list k) (at list i) w 0 q) (h i (earlier (ℕ_discrete i k)))
      where
        earlier : Dec (i ≡ k) → i < k
        earlier (yes e) = absurd (q (ap (at list) e))
        earlier (no e) = omega arith

-- words that f gives for each number below n, with the words behind them as they were
pub words-map : (f : ℕ → ℕ) (n : ℕ) (words words₀ : List ℕ) → n ≤ length words → drop n words ≡ drop n words₀
    → ((t : ℕ) → t < n → at words t ≡ f t) → words ≡ map f (from 0 n) ++ drop n words₀
words-map f n words words₀ l e h =
    sym (take-append-drop n words) ∙ rw (e, front)
  where
    size : length (take n words) ≡ n
    size = length-take-le n words l

    front : take n words ≡ map f (from 0 n)
    front =
        sym
        (rw size at
        (map-from f 0 (take n words) 0 (λ j k. rw (zero-add, get_or-take n words j 0 (rw size at k)) (sym (h j (rw size at k))))))

module _ {rows bindings list : List ℕ} {n : ℕ} (listed : Listed rows bindings list n) where
  -- the list is long enough, and its numbers are terms
  pub list-fits : n ≤ length list
  list-fits = omega (arith, listed.ordered.as_many, length-book_of rows n, length-take n list)

  pub length-list : length (take n list) ≡ n
  length-list = length-take-le n list list-fits

  -- the turn k of a loop along those terms
  pub turn : (k : ℕ) → k < length (take n list) → (k < n) × (at (take n list) k ≡ at list k)
  turn k l = let m : k < n = omega (arith, length-list) in (m, get_or-take n list k 0 m)

  pub term-lt : (k : ℕ) → k < n → at list k < n
  term-lt k l =
      rw (get_or-take n list k 0 l, length-book_of rows n) at (listed.ordered.terms k (rw length-list l))

  module _ (P : ℕ → ℕ → Type 0) (words : List ℕ) (k : ℕ) (h : Settled P list k words) where
    -- P holds of what stands before place k
    settled_at : (t : ℕ) → k ≤ n → Before (take n list) k t → P t (at words t)
    settled_at t l p = rw (sym (get_or-take n list p.place 0 (omega (arith, p.early))) ∙ p.is) at (h p.place p.early)

    -- so of all that the value of the term at place k is made of
    pub settled-parts : k < n → let t = at list k in
        (j : ℕ) → j < length (parts_of (node_of rows t) (binding_of bindings t))
        → P (get_or (parts_of (node_of rows t) (binding_of bindings t)) j 0) (at words (get_or (parts_of (node_of rows t) (binding_of bindings t)) j 0))
    unfolding parts
    settled-parts l j r =
        settled_at (get_or (parts_of (node_of rows (at list k)) (binding_of bindings (at list k))) j 0) (omega arith)
        (rw (get_or-take n list k 0 l, get_or-book_of rows n (at list k) (term-lt k l), get_or-bound_of bindings n (at list k) (term-lt k l)) at
        (listed.ordered.parts_first k j) (rw length-list l) r)

    -- and of every term at the list's end
    pub settled-all : k ≡ n → (t : ℕ) → t < n → P t (at words t)
    settled-all e t l = settled_at t (omega arith) (rw (length-list ∙ sym e) at (listed.ordered.complete t (rw length-book_of l)))

-- After the first k terms of the list: the words behind the first n are as they were, and P holds of each of those terms.
pub record Filled (rows bindings list : List ℕ) (n : ℕ) (P : ℕ → ℕ → Type 0) (words₀ words : List ℕ) (k : ℕ) : Type 0 where
  pub listed : Listed rows bindings list n
  pub fits : n ≤ length words₀
  pub within : k ≤ n
  pub size : length words ≡ length words₀
  pub behind : drop n words ≡ drop n words₀
  pub settled : Settled P list k words

module _ {rows bindings list : List ℕ} {n : ℕ} {P : ℕ → ℕ → Type 0} {words₀ : List ℕ} where
  module _ {words : List ℕ} {k : ℕ} (h : Filled rows bindings list n P words₀ words k) where
    -- the next term is one, and its word is written
    pub next-term : k < n → at list k < n
    next-term l = term-lt h.listed k l

    pub next_fits : k < n → (k < length list) × (at list k < length words)
    next_fits l = (omega (arith, list-fits h.listed), omega (arith, next-term l, h.size, h.fits))

    -- one term more
    pub filled_more : (w : ℕ) → k < n → P (at list k) w → Filled rows bindings list n P words₀ (set words (at list k) w) (k + 1)
    filled_more w l p =
        record {
          listed = h.listed;
          fits = h.fits;
          within = omega arith;
          size = length-set words (at list k) w ∙ h.size;
          behind = drop-set-lt n words (at list k) w (next-term l) ∙ h.behind;
          settled = settled-more P list words k w (next_fits l).1 h.settled p;
        }

    -- at the end P holds of every term
    pub filled_all : n ≤ k → (t : ℕ) → t < n → P t (at words t)
    filled_all l = settled-all h.listed P words k h.settled (omega (arith, h.within))

    -- where it says that the word is f of the term, so is every word
    pub filled_map : (f : ℕ → ℕ) → ((t w : ℕ) → P t w → w ≡ f t) → n ≤ k → words ≡ map f (from 0 n) ++ drop n words₀
    filled_map f is l =
        words-map f n words words₀ (omega (arith, h.size, h.fits)) h.behind (λ t q. is t (at words t) (filled_all l t q))
