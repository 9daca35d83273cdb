-- The pairs of a table's sides, each number under a function, pushed in order: what each push answers. Assumes nothing.
use Rattle.std.proofs.Common.{◌≡◌, ap, sym, ◌∙◌, List, map, ℕ, ◌+◌, ◌<◌, not-suc-le-zero, add-one, arith, below_more, length, get_or, set, T}
use Rattle.model.specs.Term.{Book, Bindings, name}
use Rattle.model.specs.Table.{Entry, Table, hole_at, entry, entry_of}
use Rattle.model.specs.Area.{distinct}
use Rattle.theory.proofs.Soundness.Table.{distinct_facts, facts_distinct}
use Rattle.theory.proofs.Table.Search.{get_or-map-lt}
use Rattle.pairs.specs.Pairs.{place_of}
use Rattle.pairs.specs.Index.{Indexed, Pushed}
use Rattle.pairs.proofs.Laws.{Holds, Kept, place-least, place_none, place_at, place_kept, kept_set, holds-set}
use Rattle.soundness.specs.kinds.Sides.{SideNames}
use Rattle.soundness.proofs.kinds.Names.{entry_of-place}

-- one side of each entry under f
pub lefts_by : (ℕ → ℕ) → Table → List ℕ
lefts_by f es = map (λ (e : Entry). f e.left) es

pub rights_by : (ℕ → ℕ) → Table → List ℕ
rights_by f es = map (λ (e : Entry). f e.right) es

-- the first place of the pair of entry i among the pairs before it, or i
pub place_by : (ℕ → ℕ) → Table → ℕ → ℕ
place_by f es i = place_of (lefts_by f es) (rights_by f es) i (f (entry es i).left) (f (entry es i).right)

-- The pairs of the first i entries are pushed.
pub record Filled (f : ℕ → ℕ) (es : Table) (lefts rights cells : List ℕ) (i : ℕ) : Type 0 where
  pub indexed : Indexed lefts rights cells i
  pub kept : Kept (lefts_by f es) (rights_by f es) lefts rights i

module _ (f : ℕ → ℕ) (es : Table) where
  -- entry i has its pair at place i
  side_pair : (i : ℕ) → i < length es → Holds (lefts_by f es) (rights_by f es) i (f (entry es i).left) (f (entry es i).right)
  unfolding lefts_by rights_by
  side_pair i h =
      record {
        left = get_or-map-lt (λ (e : Entry). f e.left) es i (hole_at 0 0 0) 0 h;
        right = get_or-map-lt (λ (e : Entry). f e.right) es i (hole_at 0 0 0) 0 h;
      }

  -- none are pushed
  pub filled_none : {lefts rights cells : List ℕ} → Indexed lefts rights cells 0 → Filled f es lefts rights cells 0
  filled_none none =
      record {
        indexed = none;
        kept = record { left = λ j l. absurd (not-suc-le-zero l); right = λ j l. absurd (not-suc-le-zero l) };
      }

  -- one more is pushed: the answer, and the pairs after it
  module _ {lefts rights cells lefts' rights' cells' : List ℕ} {i a b r : ℕ} (there : i < length es)
      (s : Filled f es lefts rights cells i) (p : Pushed lefts rights lefts' rights' cells' i a b r)
      (l : a ≡ f (entry es i).left) (h : b ≡ f (entry es i).right) where
    pub filled_place : r ≡ place_by f es i
    unfolding place_by
    filled_place = p.place ∙ rw (l, h) (place_kept s.kept i _ _ (omega arith))

    pub filled_more : i < length lefts → i < length rights → Filled f es lefts' rights' cells' (i + 1)
    filled_more room-left room-right =
        let own = side_pair i there in
        let new = holds-set lefts rights i a b room-left room-right in
        let old = kept_set lefts rights i a b in
        rw (p.left, p.right) (record {
          indexed = rw (add-one, ← p.left, ← p.right) p.indexed;
          kept = record {
            left = below_more (λ j. get_or (set lefts i a) j 0 ≡ get_or (lefts_by f es) j 0) i (λ j k. old.left j k ∙ s.kept.left j k)
                (new.left ∙ l ∙ sym own.left);
            right = below_more (λ j. get_or (set rights i b) j 0 ≡ get_or (rights_by f es) j 0) i (λ j k. old.right j k ∙ s.kept.right j k)
                (new.right ∙ h ∙ sym own.right);
          };
        })

  -- under names the answer is the lowest entry with the values of entry i
  module _ (b : Book) (β : Bindings) (named : (t : ℕ) → t < length b → f t ≡ name b β t)
      (left-term : (i : ℕ) → i < length es → (entry es i).left < length b) (right-term : (i : ℕ) → i < length es → (entry es i).right < length b) where
    side_names : SideNames b β es (lefts_by f es) (rights_by f es)
    side_names =
        record {
          left-term = left-term;
          right-term = right-term;
          left-name = λ i h. (side_pair i h).left ∙ named _ (left-term i h);
          right-name = λ i h. (side_pair i h).right ∙ named _ (right-term i h);
        }

    pub entry_of_place_by : (i : ℕ) → i < length es → entry_of b β es (entry es i).left (entry es i).right ≡ place_by f es i
    unfolding place_by
    entry_of_place_by i h =
        entry_of-place b β es (lefts_by f es) (rights_by f es) side_names _ _ (left-term i h) (right-term i h)
        ∙ rw (← named (entry es i).left (left-term i h), ← named (entry es i).right (right-term i h))
        (place_at (lefts_by f es) (rights_by f es) (length es) i _ _ h (side_pair i h))

-- No two entries hold one pair where each pair, under some function, has its first place at its own entry, and only where each
-- pair has it there as it is.
pub alone_distinct : (f : ℕ → ℕ) (es : Table) → ((i : ℕ) → i < length es → place_by f es i ≡ i) → T (distinct es)
unfolding place_by
alone_distinct f es h =
    facts_distinct es (λ i j l k p q.
    let there = side_pair f es i (omega arith) in
    let low = place-least (lefts_by f es) (rights_by f es) j _ _ i l (record { left = there.left ∙ ap f p; right = there.right ∙ ap f q }) in
    omega (arith, low, h j k))

pub distinct_alone : (es : Table) → T (distinct es) → (i : ℕ) → i < length es → place_by (λ t. t) es i ≡ i
unfolding place_by
distinct_alone es d i h =
    place_none (lefts_by (λ t. t) es) (rights_by (λ t. t) es) i _ _ (λ j l g.
    let there = side_pair (λ t. t) es j (omega arith) in
    distinct_facts es d j i l h (sym there.left ∙ g.left) (sym there.right ∙ g.right))
