-- Placing a pair in a loaded table and walking it through: what each part asks, and what they come to. Assumes nothing.
use Rattle.std.proofs.Common.{List, ℕ, suc, arith}
use Rattle.model.specs.Term.{Book, Bindings}
use Rattle.model.specs.Table.{Table, place, walk}
use Rattle.theory.proofs.Table.Place.{walk_extends}
use Rattle.refusal.specs.declared.Refusal.{Refusal}
use Rattle.table.specs.place.Stands.{IsFull, GivenTable, Whatever}
use Rattle.table.specs.place.Placing.{ToPlace, Places}
use Rattle.table.specs.declared.place.Placed.{Placed}
use Rattle.table.proofs.visit.Sizes.{SameSizes}
use Rattle.table.specs.index.Indexing.{ToIndex, IsIndexed}
use Rattle.table.proofs.index.Standing.{indexed-stands}
use Rattle.table.specs.saturate.Walking.{ToWalk, Walks}
use Rattle.table.specs.declared.saturate.Walked.{Walked}
use Rattle.step.specs.grow.Growing.{ToGrow, Grows}

module _ {rows roots names entries lefts₀ rights₀ cells₀ : List ℕ} {capacity m l r : ℕ} where
  -- the index is built
  module _ {lefts rights cells : List ℕ} (indexed : Whatever (ToIndex names entries lefts₀ rights₀ cells₀ m) (IsIndexed lefts rights cells m))
      (sizes : SameSizes entries lefts₀ rights₀ cells₀ entries lefts rights cells) where
    to_place : (b : Book) (β : Bindings) (es : Table) → ToGrow rows roots names entries lefts₀ rights₀ cells₀ capacity m l r b β es
        → ToPlace names entries lefts rights cells capacity m l r b β es
    to_place b β es q =
        record {
          known = q.to_index.known;
          stands = indexed-stands q.to_index (indexed b β es q.to_index) q.long q.room sizes;
          left-term = q.left-term;
          right-term = q.right-term;
        }

    pub place_given : GivenTable (ToGrow rows roots names entries lefts₀ rights₀ cells₀ capacity m l r)
        → GivenTable (ToPlace names entries lefts rights cells capacity m l r)
    place_given g = record { book = g.book; bound = g.bound; table = g.table; known = to_place _ _ _ g.known }

    -- no room for the pair: then there is none for the walk, which drops no entry
    pub grown_full : {e : Refusal} → Whatever (ToPlace names entries lefts rights cells capacity m l r) (λ b β es. IsFull capacity e (place b β es l r))
        → Whatever (ToGrow rows roots names entries lefts₀ rights₀ cells₀ capacity m l r)
        (λ b β es. IsFull capacity e (walk b β (suc capacity) 0 (place b β es l r)))
    grown_full over b β es q =
        let is = over b β es (to_place b β es q) in
        record { full = is.full; beyond = omega (arith, is.beyond, (walk_extends b β (suc capacity) 0 (place b β es l r)).longer) }

    -- the pair is placed
    module _ {p : Placed} {entries' lefts' rights' cells' : List ℕ}
        (placed : Whatever (ToPlace names entries lefts rights cells capacity m l r) (Places entries' lefts' rights' cells' capacity l r p)) where
      to_walk : (b : Book) (β : Bindings) (es : Table) → ToGrow rows roots names entries lefts₀ rights₀ cells₀ capacity m l r b β es
          → ToWalk rows roots names entries' lefts' rights' cells' capacity p.count b β (place b β es l r)
      to_walk b β es q = record { known = q.known; stands = (placed b β es (to_place b β es q)).reaches.stands }

      pub walk_given : GivenTable (ToGrow rows roots names entries lefts₀ rights₀ cells₀ capacity m l r)
          → GivenTable (ToWalk rows roots names entries' lefts' rights' cells' capacity p.count)
      walk_given g =
          record { book = g.book; bound = g.bound; table = place g.book g.bound g.table l r; known = to_walk _ _ _ g.known }

      -- no room for the walk
      pub walked_full : {e : Refusal}
          → Whatever (ToWalk rows roots names entries' lefts' rights' cells' capacity p.count) (λ b β es. IsFull capacity e (walk b β (suc capacity) 0 es))
          → Whatever (ToGrow rows roots names entries lefts₀ rights₀ cells₀ capacity m l r)
          (λ b β es. IsFull capacity e (walk b β (suc capacity) 0 (place b β es l r)))
      walked_full over b β es q = over b β _ (to_walk b β es q)

      -- the table is walked through
      pub grown : {w : Walked} {entries'' lefts'' rights'' cells'' : List ℕ}
          → Whatever (ToWalk rows roots names entries' lefts' rights' cells' capacity p.count) (Walks entries'' lefts'' rights'' cells'' capacity w)
          → Whatever (ToGrow rows roots names entries lefts₀ rights₀ cells₀ capacity m l r)
          (Grows entries'' lefts'' rights'' cells'' capacity l r (record { entry = p.entry; count = w.count }))
      grown walked b β es q =
          record { reaches = (walked b β _ (to_walk b β es q)).reaches; its_entry = (placed b β es (to_place b β es q)).its_entry }
