-- What holds between the steps of a walk through the terms: each term has a mark, 0 before it is met, 1 in progress and 2
-- once it is finished, and the finished terms are listed. Assumes nothing: these are definitions.
use Rattle.std.specs.Prelude.{◌≡◌, List, Bool, cond, ℕ, zero, suc, ◌≤◌, ◌<◌, length, get_or, T, eqb, Option, MatchOption}
use Rattle.model.specs.Lists.{all}
use Rattle.model.specs.Term.{Book, Bindings, ends}
use Rattle.layout.specs.limits.Rows.{book_of, bound_of, GoodTerms}
use Rattle.values.specs.order.Order.{parts, Before}

-- How many numbers below n pass.
unfoldable pub tally : (ℕ → Bool) → ℕ → ℕ
tally p zero = 0
tally p (suc n) = cond (p n) (suc (tally p n)) (tally p n)

-- How many of the first n marks are m.
abbrev pub marked : List ℕ → ℕ → ℕ → ℕ
marked marks n m = tally (λ t. eqb (get_or marks t 0) m) n

-- As many places of the list are used as terms are finished; they hold these terms, each behind what its value is made of.
pub record Marking (b : Book) (β : Bindings) (marks list : List ℕ) (done : ℕ) : Type 0 where
  pub marks_fit : length b ≤ length marks
  pub list_fit : length b ≤ length list
  pub mark : (t : ℕ) → t < length b → get_or marks t 0 ≤ 2
  pub as_many : done ≡ marked marks (length b) 2
  pub terms : (k : ℕ) → k < done → get_or list k 0 < length b
  pub listed : (t : ℕ) → t < length b → get_or marks t 0 ≡ 2 → Before list done t
  pub parts_first : (k j : ℕ) → k < done → j < length (parts b β (get_or list k 0))
      → Before list k (get_or (parts b β (get_or list k 0)) j 0)

-- A mark a stays, or goes on to finished.
pub data Advanced (a a' : ℕ) : Type 0 where
  stays : a' ≡ a → Advanced a a'
  finishes : a ≡ 0 → a' ≡ 2 → Advanced a a'

-- Where the walk of some terms accepts: they are finished, and no other term is in progress than before.
pub record Finished (b : Book) (β : Bindings) (before : List ℕ) (us : List ℕ) (marks list : List ℕ) (done : ℕ) : Type 0 where
  pub marking : Marking b β marks list done
  pub finished : (j : ℕ) → j < length us → get_or marks (get_or us j 0) 0 ≡ 2
  pub others : (t : ℕ) → t < length b → Advanced (get_or before t 0) (get_or marks t 0)

-- Where it refuses: within no number of steps do all of them end, unless a term in progress does.
abbrev pub Stuck : Book → Bindings → List ℕ → List ℕ → Type 0
Stuck b β marks us = (k : ℕ) → T (all (ends b β k) us)
    → ((t : ℕ) → t < length b → get_or marks t 0 ≡ 1 → T (ends b β k t) → ⊥) → ⊥

-- Rows of words hold n terms (crate layout): what the value of term t is made of, and what a walk of t or of that is given.
abbrev pub parts_in : List ℕ → List ℕ → ℕ → ℕ → List ℕ
parts_in rows bindings n t = parts (book_of rows n) (bound_of bindings n) t

pub record Walkable (rows bindings : List ℕ) (n t : ℕ) (marks list : List ℕ) (done : ℕ) : Type 0 where
  pub good : GoodTerms rows bindings n
  pub term : t < n
  pub marking : Marking (book_of rows n) (bound_of bindings n) marks list done

-- The answer of a walk of the terms us, from the marks before it to the marks and the list behind it: how many terms are
-- finished, or none.
abbrev pub WalkAnswers : List ℕ → List ℕ → ℕ → List ℕ → List ℕ → List ℕ → List ℕ → Option ℕ → Type 0
WalkAnswers rows bindings n us before marks list w =
    MatchOption w (Stuck (book_of rows n) (bound_of bindings n) before us)
    (λ done. Finished (book_of rows n) (bound_of bindings n) before us marks list done)
