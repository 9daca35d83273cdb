-- The closure may be called at each of the terms, and tells whether one has the key.
use Rattle.std.proofs.Common.{◌≡◌, List, ℕ, ◌<◌, ◌≤◌, length, take, get_or, Option, Some, None, MatchOption, ◌∙◌, zero-le, arith, rules, tests}
use Rattle.std.specs.List.{AllWithin, HoldsAt}
use Rattle.std.proofs.lemmas.List.{get_or_default}
use Rattle.std.proofs.lemmas.Iterator.{YieldsList-from_slice, IsFirst-from_position}
use Rattle.std.proofs.lemmas.Iterator.Adapters.{serves_from_places}
use Rattle.std.proofs.Math.Seq.{get_or-take, length-take-le}
use Rattle.layout.specs.limits.Rows.{at}
use Rattle.values.specs.names.Keys.{key_at, FirstTerms, Earlier}
use Rattle.values.proofs.names.Keys.{test_same, test_other}
use Rattle.values.proofs.names.search_keys.Goals as goal

-- what stands at one of the first k places is a term
term_at : {list : List ℕ} {n k : ℕ} → FirstTerms list n k → (j u : ℕ) → j < length (take k list) → u ≡ get_or (take k list) j u → u < n
term_at {list} {n} {k} r j u l e =
    let m : j < k = omega (arith, length-take-le k list r.list-fits) in
    rw (e ∙ get_or_default (take k list) j u 0 l ∙ get_or-take k list j 0 m) (r.term j m)

pub position-requires-clause-callable : goal.position-requires-clause-callable
position-requires-clause-callable c =
    serves_from_places (YieldsList-from_slice (take c.args.k c.args.list.now) cc) (λ x q k. search (rules, tests))
    (λ x j l e. let term : x.now < c.args.terms.n = term_at c.requires.terms.0 j x.now l e in search rules)

-- the first of the places, where there is one
module _ (rows classes list : List ℕ) (k t : ℕ) (fits : k ≤ length list) where
  abbrev pub Same : ℕ → Type 0
  Same u = key_at rows classes t ≡ key_at rows classes u

  abbrev pub Other : ℕ → Type 0
  Other u = Same u → ⊥

  first_place : (r : Option ℕ)
      → MatchOption r (AllWithin Other (take k list) 0 (length (take k list)))
      (λ j. (j < length (take k list)) × HoldsAt Same (take k list) j × AllWithin Other (take k list) 0 j)
      → Earlier rows classes list k t r
  first_place None h = λ j l. let other : Other (at (take k list) j) = h j 0 zero-le (omega (arith, length-take-le k list fits)) in rw (get_or-take k list j 0 l) at other
  first_place (Some j) h =
      let l : j < k = omega (arith, length-take-le k list fits, h.0) in
      let same : Same (at (take k list) j) = h.1 0 in (l, rw (get_or-take k list j 0 l) at same)

pub returns : goal.returns
returns c =
    let rows = c.args.terms.rows.now in
    let classes = c.args.classes.now in
    let list = c.args.list.now in
    let fits = c.requires.terms.0.list-fits in
    first_place rows classes list c.args.k c.args.t fits _
    (IsFirst-from_position _ _ c.position.result (Same rows classes list c.args.k c.args.t fits) (Other rows classes list c.args.k c.args.t fits)
    c.position.ensures.ran (YieldsList-from_slice (take c.args.k list) cc) (λ x q k. search (rules, test_same)) (λ x q k. search (rules, test_other)))
