-- A table whose pairs are apart as values and occur in another right table is no longer than it, and adding a line that
-- occurs there keeps it so. Assumes nothing.
use mathlib.Core.Path.{◌≡◌, refl, sym, ◌∙◌, ap}
use mathlib.Core.List.{List, [], ◌∷◌, ◌++◌}
use mathlib.Core.Bool.{Bool, true, false, cond, ◌&&◌}
use mathlib.Core.Logic.{◌⊎◌, inl, inr}
use Prim.Native.Nat.{ℕ, zero, suc, ◌≤◌, ◌<◌}
use native.Mathlib.Decide.{dec_lt}
use native.Mathlib.Omega.{arith}
use lib.ListN.{length, get_or, set, length-set}
use lib.Dec.{ltb}
use borrow.Author.Tests.{ltb-true, lt-ltb, le-leb}
use Rattle.model.specs.Limits.{Limits}
use Rattle.model.specs.Term.{Node, arguments, alike, Book, Bindings, val, root}
use Rattle.model.specs.Table.{Kind, hole, common, is_hole, Entry, Table, entry, entry_of, place, place_all, turn, visit, walk}
use Rattle.model.specs.Step.{State, accepted, require, saturate, add_line}
use Rattle.theory.proofs.Lists.Pigeonhole.{distinct-values}
use Rattle.theory.proofs.Soundness.Facts.{Formed, Acyclic, Has, KindRight, TableRight, SoundFacts}
use Rattle.theory.proofs.Values.Equations.{alike-values, same-value-count, same-value-argument, root-argument}
use Rattle.theory.proofs.Table.Place.{entry_of_has, entry_of-least, Fresh, place_all-old, place_all-new, place-one, visit_cases}

-- The entries of es are pairwise apart as values, and the two values of each are an entry's of big.
pub record Within (b : Book) (β : Bindings) (big es : Table) : Type 0 where
  pub apart : (i j : ℕ) → i < j → j < length es → Has b β es i (entry es j).left (entry es j).right → ⊥
  pub inside : (i : ℕ) → i < length es → (k : ℕ) × Has b β big k (entry es i).left (entry es i).right

-- Such a table is no longer than big. Each entry goes to the lowest entry of big with its values: distinct numbers below the length of big.
pub within-length : (b : Book) (β : Bindings) (big es : Table) → Within b β big es → length es ≤ length big
within-length b β big es w = distinct-values (length es) (length big) number below distinct
  where
    number : ℕ → ℕ
    number i = entry_of b β big (entry es i).left (entry es i).right

    below : (i : ℕ) → i < length es → number i < length big
    below i p =
        let (k, h) = w.inside i p in
        omega (arith, entry_of-least b β big k (entry es i).left (entry es i).right h)

    found : (i : ℕ) → i < length es → Has b β big (number i) (entry es i).left (entry es i).right
    found i p = entry_of_has b β big (entry es i).left (entry es i).right (below i p)

    distinct : (i j : ℕ) → i < j → j < length es → number i ≡ number j → ⊥
    distinct i j p q e =
        let h : Has b β big (number j) (entry es i).left (entry es i).right = rw e at (found i (omega arith)) in
        let g = found j q in
        w.apart i j p q (record { present = omega arith; left = sym h.left ∙ g.left; right = sym h.right ∙ g.right })

-- writing an entry over by one with the same f keeps f of every entry
set_field : (f : Entry → ℕ) (es : Table) (i : ℕ) (e : Entry) → f e ≡ f (entry es i) → (j : ℕ) → f (entry (set es i e) j) ≡ f (entry es j)
set_field f [] i e h j = refl
set_field f (x ∷ es) zero e h zero = h
set_field f (x ∷ es) zero e h (suc j) = refl
set_field f (x ∷ es) (suc i) e h zero = refl
set_field f (x ∷ es) (suc i) e h (suc j) = set_field f es i e h j

-- a choice has what each outcome has
choose : (P : Table → Type 0) (c : Bool) (x y : Table) → (c ≡ true → P x) → P y → P (cond c x y)
choose P true x y h g = h refl
choose P false x y h g = g

-- The pair (l, r) consists of terms and occurs in big.
record Occurs (b : Book) (β : Bindings) (big : Table) (l r : ℕ) : Type 0 where
  left-term : l < length b
  right-term : r < length b
  at : ℕ
  has : Has b β big at l r

-- What the walk keeps: each pair of the table occurs in big, and no pair has the values of a lower one.
record Keeping (b : Book) (β : Bindings) (big es : Table) : Type 0 where
  apart : (i j : ℕ) → i < j → j < length es → Has b β es i (entry es j).left (entry es j).right → ⊥
  occurs : (i : ℕ) → i < length es → Occurs b β big (entry es i).left (entry es i).right

module _ (b : Book) (β : Bindings) (big : Table) where
  -- a table that keeps it lies within big
  keeping_within : (es : Table) → Keeping b β big es → Within b β big es
  keeping_within es k = record { apart = k.apart; inside = λ i p. ((k.occurs i p).at, (k.occurs i p).has) }

  -- it depends on the pairs alone
  keeping_same : (es es' : Table) → length es' ≡ length es → ((i : ℕ) → (entry es' i).left ≡ (entry es i).left)
      → ((i : ℕ) → (entry es' i).right ≡ (entry es i).right) → Keeping b β big es → Keeping b β big es'
  keeping_same es es' n l r k =
      record {
        apart = λ i j p q h. k.apart i j p (omega arith)
            (record {
              present = omega arith;
              left = ap (val b β) (sym (l i)) ∙ (h.left ∙ ap (val b β) (l j));
              right = ap (val b β) (sym (r i)) ∙ (h.right ∙ ap (val b β) (r j));
            });
        occurs = λ i p. rw (l i, r i) (k.occurs i (omega arith));
      }

  -- placed pairs that occur in big keep it
  module _ (es : Table) (ls rs : List ℕ) (k : Keeping b β big es)
      (o : (j : ℕ) → j < length ls → j < length rs → Occurs b β big (get_or ls j 0) (get_or rs j 0)) where
    placed_apart : (i j : ℕ) → i < j → Dec (j < length es) → j < length (place_all b β es ls rs)
        → Has b β (place_all b β es ls rs) i (entry (place_all b β es ls rs) j).left (entry (place_all b β es ls rs) j).right → ⊥
    placed_apart i j p (yes d) q h =
        let g : Has b β (place_all b β es ls rs) i (entry es j).left (entry es j).right = rw (place_all-old b β es ls rs j d) at h in
        let e : entry (place_all b β es ls rs) i ≡ entry es i = place_all-old b β es ls rs i (omega arith) in
        k.apart i j p d (record { present = omega arith; left = rw e at g.left; right = rw e at g.right })
    placed_apart i j p (no d) q h =
        let n : Fresh b β (place_all b β es ls rs) ls rs j = place_all-new b β es ls rs j (omega arith) q in
        omega (arith, n.lowest, entry_of-least b β (place_all b β es ls rs) i (get_or ls n.place_of 0) (get_or rs n.place_of 0) (rw n.is at h))

    placed-occurs : (i : ℕ) → Dec (i < length es) → i < length (place_all b β es ls rs)
        → Occurs b β big (entry (place_all b β es ls rs) i).left (entry (place_all b β es ls rs) i).right
    placed-occurs i (yes d) p = rw (place_all-old b β es ls rs i d) (k.occurs i d)
    placed-occurs i (no d) p =
        let n : Fresh b β (place_all b β es ls rs) ls rs i = place_all-new b β es ls rs i (omega arith) p in
        rw n.is (o n.place_of n.in_left n.in_right)

    keeping_place_all : Keeping b β big (place_all b β es ls rs)
    keeping_place_all =
        record {
          apart = λ i j p q h. placed_apart i j p (dec_lt j (length es)) q h;
          occurs = λ i p. placed-occurs i (dec_lt i (length es)) p;
        }

  -- a right table that lies within big keeps it
  within_keeping : (es : Table) → TableRight b β es → Within b β big es → Keeping b β big es
  within_keeping es t w =
      record {
        apart = w.apart;
        occurs = λ i p.
            record { left-term = t.left-term i p; right-term = t.right-term i p; at = (w.inside i p).0; has = (w.inside i p).1 };
      }

  -- and so does placing one pair
  keeping_place : (es : Table) (l r : ℕ) → Keeping b β big es → Occurs b β big l r → Keeping b β big (place b β es l r)
  keeping_place es l r k o = rw (place-one b β es l r) (keeping_place_all es (l ∷ []) (r ∷ []) k one)
    where
      one : (j : ℕ) → j < 1 → j < 1 → Occurs b β big (get_or (l ∷ []) j 0) (get_or (r ∷ []) j 0)
      one zero p q = o
      one (suc j) p q = absurd (omega arith)

module _ (b : Book) (β : Bindings) (formed : Formed b β) (acyclic : Acyclic b β) (big : Table) (right : TableRight b β big) where
  -- an entry of big with alike roots is common, so its argument pairs have entries
  kind-argument : (l r : ℕ) (kind : Kind) → KindRight b β big kind (root b β l) (root b β r) → alike (root b β l) (root b β r) ≡ true
      → (j : ℕ) → j < length (arguments (root b β l))
      → (k : ℕ) × Has b β big k (get_or (arguments (root b β l)) j 0) (get_or (arguments (root b β r)) j 0)
  kind-argument l r hole h a j p = let z : ◌≡◌ {A = ℕ} 0 1 = cc in absurd (omega arith)
  kind-argument l r (common s args) h a j p = (get_or args j 0, h.argument j (omega (arith, h.count_left)))

  -- the argument pairs of a pair of alike roots occur in big where the pair does
  occurs-argument : (l r : ℕ) → Occurs b β big l r → alike (root b β l) (root b β r) ≡ true
      → (j : ℕ) → j < length (arguments (root b β l)) → j < length (arguments (root b β r))
      → Occurs b β big (get_or (arguments (root b β l)) j 0) (get_or (arguments (root b β r)) j 0)
  occurs-argument l r o a j p q =
      let (k, h) = kind-argument l' r' (entry big o.at).kind (right.kind-right o.at o.has.present) alike' j
      (omega (arith, same-value-count b β formed acyclic l' l l'_term o.left-term o.has.left)) in
      record {
        left-term = root-argument b β formed acyclic l o.left-term j p;
        right-term = root-argument b β formed acyclic r o.right-term j q;
        at = k;
        has =
            record {
              present = h.present;
              left = h.left ∙ same-value-argument b β formed acyclic l' l l'_term o.left-term o.has.left j;
              right = h.right ∙ same-value-argument b β formed acyclic r' r r'_term o.right-term o.has.right j;
            };
      }
    where
      l' : ℕ
      l' = (entry big o.at).left

      r' : ℕ
      r' = (entry big o.at).right

      l'_term : l' < length b
      l'_term = right.left-term o.at o.has.present

      r'_term : r' < length b
      r'_term = right.right-term o.at o.has.present

      alike' : alike (root b β l') (root b β r') ≡ true
      alike' = alike-values b β formed acyclic l' r' l'_term r'_term
          ∙ (rw (o.has.left, o.has.right) (sym (alike-values b β formed acyclic l r o.left-term o.right-term) ∙ a))

  -- a visit keeps it: a hole that turns keeps its pair, and its argument pairs occur in big
  keeping_visit : (es : Table) (i : ℕ) → i < length es → Keeping b β big es → Keeping b β big (visit b β es i)
  unfolding turn
  keeping_visit es i p k = go (visit_cases b β es i)
    where
      l : Node
      l = root b β (entry es i).left

      r : Node
      r = root b β (entry es i).right

      es' : Table
      es' = place_all b β es (arguments l) (arguments r)

      go : ((is_hole (entry es i).kind && alike l r ≡ false) × (visit b β es i ≡ es))
          ⊎ ((is_hole (entry es i).kind ≡ true) × (alike l r ≡ true) × (visit b β es i ≡ turn b β es i (entry es i) l r))
          → Keeping b β big (visit b β es i)
      go (inl e) = rw e.1 k
      go (inr e) =
          let old : entry es' i ≡ entry es i = place_all-old b β es (arguments l) (arguments r) i p in
          rw e.2
          (keeping_same b β big es' _ (length-set es' i _)
          (set_field (λ (x : Entry). x.left) es' i _ (ap (λ (x : Entry). x.left) (sym old)))
          (set_field (λ (x : Entry). x.right) es' i _ (ap (λ (x : Entry). x.right) (sym old)))
          (keeping_place_all b β big es (arguments l) (arguments r) k
          (occurs-argument (entry es i).left (entry es i).right (k.occurs i p) e.1)))

  -- and so does the walk
  keeping_walk : (n i : ℕ) (es : Table) → Keeping b β big es → Keeping b β big (walk b β n i es)
  unfolding walk
  keeping_walk zero i es k = k
  keeping_walk (suc n) i es k =
      choose (Keeping b β big) (ltb i (length es)) (walk b β n (suc i) (visit b β es i)) es
      (λ e. keeping_walk n (suc i) (visit b β es i) (keeping_visit es i (ltb-true i (length es) e) k)) k

-- A line that occurs in big is accepted where big fits the capacity, and the table after it lies within big.
pub add-within : (lim : Limits) (s : State) (big : Table) (l r : ℕ) → SoundFacts lim s → TableRight s.book s.bound big
    → Within s.book s.bound big s.entries → length big ≤ s.capacity → l < length s.book → r < length s.book
    → ((k : ℕ) × Has s.book s.bound big k l r) → length s.lines < lim.max_lines
    → (i : ℕ) × (s' : State) × (add_line lim s l r ≡ accepted (i ∷ []) s') × Within s.book s.bound big s'.entries
unfolding add_line require saturate
add-within lim s big l r f t w c p q h g = (
  i,
  record { book = s.book; bound = s.bound; entries = es; lines = s.lines ++ i ∷ []; capacity = s.capacity },
  rw (
    lt-ltb l (length s.book) p,
    lt-ltb r (length s.book) q,
    lt-ltb (length s.lines) lim.max_lines g,
    le-leb (length es) s.capacity (omega (arith, within-length s.book s.bound big es within)),
  ),
  within,
)
  where
    placed : Table
    placed = place s.book s.bound s.entries l r

    i : ℕ
    i = entry_of s.book s.bound placed l r

    es : Table
    es = saturate s s.bound placed

    within : Within s.book s.bound big es
    within =
        keeping_within s.book s.bound big es
        (keeping_walk s.book s.bound f.formed f.acyclic big t (suc s.capacity) 0 placed
        (keeping_place s.book s.bound big s.entries l r
        (within_keeping s.book s.bound big s.entries f.table w)
        (record { left-term = p; right-term = q; at = h.0; has = h.1 })))
