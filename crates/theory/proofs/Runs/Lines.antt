-- Along a run the lines are those accepted, in their order, and the entry of each holds the values of its two terms under the
-- bindings in force. Assumes nothing.
use mathlib.Core.Path.{◌≡◌, refl, ap, ap₂, ◌∙◌}
use mathlib.Core.List.{List, [], ◌∷◌, ◌++◌, map, append_assoc, append-nil}
use mathlib.Core.Bool.{Bool, true, false, ◌&&◌}
use mathlib.Core.Option.{some}
use Prim.Native.Nat.{ℕ, suc, ◌<◌}
use native.Mathlib.Omega.{arith}
use lib.ListN.{length, set}
use Rattle.model.specs.Limits.{Limits}
use Rattle.model.specs.Term.{Book, Bindings, Tree, val}
use Rattle.model.specs.Table.{Table, entry}
use Rattle.model.specs.Step.{State, Answer, refused, accepted}
use Rattle.model.specs.Pattern.{left_value, right_value}
use Rattle.theory.specs.Run.{Request, add, fix, ask, is_line, left_term, right_term, is_accepted, after, answer, next, state_run}
use Rattle.theory.proofs.Soundness.Facts.{Has, SoundFacts}
use Rattle.theory.proofs.Values.Binding.{bound_equal}
use Rattle.theory.proofs.Table.Place.{has_extends}
use Rattle.theory.proofs.Steps.Kept.{Added, Bound}
use Rattle.theory.proofs.Runs.States.{picked, accepted_in, moved, next-sound}

-- The request is a line of terms of the book, and entry i has their values.
pub record Line (b : Book) (β : Bindings) (es : Table) (i : ℕ) (q : Request) : Type 0 where
  pub is-line : is_line q ≡ true
  pub left-term : left_term q < length b
  pub right-term : right_term q < length b
  pub has : Has b β es i (left_term q) (right_term q)

-- Entries and requests one for one, each pair related by P.
pub data Pairs (P : ℕ → Request → Type 0) : List ℕ → List Request → Type 0 where
  none : Pairs P [] []
  more : {i : ℕ} {q : Request} {is : List ℕ} {qs : List Request} → P i q → Pairs P is qs → Pairs P (i ∷ is) (q ∷ qs)

-- each pair by itself
pub pairs_imply : {P Q : ℕ → Request → Type 0} → ((i : ℕ) (q : Request) → P i q → Q i q) → {is : List ℕ} {qs : List Request}
    → Pairs P is qs → Pairs Q is qs
pairs_imply h none = none
pairs_imply h (more {i = i} {q = q} p ps) = more (h i q p) (pairs_imply h ps)

-- one pair more at the end
pub pairs_snoc : {P : ℕ → Request → Type 0} {is : List ℕ} {qs : List Request} {i : ℕ} {q : Request} → Pairs P is qs → P i q
    → Pairs P (is ++ i ∷ []) (qs ++ q ∷ [])
pairs_snoc none p = more p none
pairs_snoc (more r rs) p = more r (pairs_snoc rs p)

-- the lists have one length
pub pairs-length : {P : ℕ → Request → Type 0} {is : List ℕ} {qs : List Request} → Pairs P is qs → length is ≡ length qs
pairs-length none = refl
pairs-length (more p ps) = ap suc (pairs-length ps)

-- functions that agree on each pair give one list
pub pairs-map : {P : ℕ → Request → Type 0} (f : ℕ → Tree) (g : Request → Tree) → ((i : ℕ) (q : Request) → P i q → f i ≡ g q)
    → {is : List ℕ} {qs : List Request} → Pairs P is qs → map f is ≡ map g qs
pairs-map f g h none = refl
pairs-map f g h (more {i = i} {q = q} p ps) = ap₂ ◌∷◌ (h i q p) (pairs-map f g h ps)

-- The lines of the state are the requests.
abbrev pub Lines : State → List Request → Type 0
Lines s qs = Pairs (Line s.book s.bound s.entries) s.lines qs

-- so the values of the lines are those of the requests' terms
pub lines_left : (s : State) (qs : List Request) → Lines s qs
    → map (left_value s) s.lines ≡ map (λ (q : Request). val s.book s.bound (left_term q)) qs
unfolding left_value
lines_left s qs k = pairs-map (left_value s) (λ (q : Request). val s.book s.bound (left_term q)) (λ i q p. p.has.left) k

pub lines-right : (s : State) (qs : List Request) → Lines s qs
    → map (right_value s) s.lines ≡ map (λ (q : Request). val s.book s.bound (right_term q)) qs
unfolding right_value
lines-right s qs k = pairs-map (right_value s) (λ (q : Request). val s.book s.bound (right_term q)) (λ i q p. p.has.right) k

-- a conjunction with false
pub and-false : (t : Bool) → t && false ≡ false
and-false true = refl
and-false false = refl

module _ (lim : Limits) where
  -- an added line is one more
  pub lines_added : (s s' : State) (l r i : ℕ) (qs : List Request) → Added lim s s' l r i → Lines s qs → Lines s' (qs ++ add l r ∷ [])
  unfolding is_line left_term right_term
  lines_added s s' l r i qs a k =
      rw (a.same-book, a.same-bound, a.one_line)
      (pairs_snoc
      (pairs_imply
      (λ j q p.
      record {
        is-line = p.is-line;
        left-term = p.left-term;
        right-term = p.right-term;
        has = has_extends s.book s.bound s.entries s'.entries j (left_term q) (right_term q) a.extends p.has;
      })
      k)
      (record { is-line = refl; left-term = a.left-term; right-term = a.right-term; has = a.has }))

  -- under new bindings an entry keeps the values of its terms
  line-bound : (s s' : State) (v t : ℕ) → SoundFacts lim s → Bound s s' v t → (i : ℕ) (q : Request)
      → Line s.book s.bound s.entries i q → Line s.book (set s.bound v (some t)) s'.entries i q
  line-bound s s' v t f c i q p =
      record {
        is-line = p.is-line;
        left-term = p.left-term;
        right-term = p.right-term;
        has =
            record {
              present = omega (arith, c.extends.longer, p.has.present);
              left =
                  ap (val s.book (set s.bound v (some t))) (c.extends.left i p.has.present)
                  ∙ stays (entry s.entries i).left (left_term q) (f.table.left-term i p.has.present) p.left-term p.has.left;
              right =
                  ap (val s.book (set s.bound v (some t))) (c.extends.right i p.has.present)
                  ∙ stays (entry s.entries i).right (right_term q) (f.table.right-term i p.has.present) p.right-term p.has.right;
            };
      }
    where
      stays : (u w : ℕ) → u < length s.book → w < length s.book → val s.book s.bound u ≡ val s.book s.bound w
          → val s.book (set s.bound v (some t)) u ≡ val s.book (set s.bound v (some t)) w
      stays =
          bound_equal s.book s.bound f.formed f.acyclic v t c.v_term c.t_term c.v_var c.v_free c.absent

  -- so a choice keeps the lines
  lines-bound : (s s' : State) (v t : ℕ) (qs : List Request) → SoundFacts lim s → Bound s s' v t → Lines s qs → Lines s' qs
  lines-bound s s' v t qs f c k =
      rw (c.same-book, c.now_bound, c.same_lines) (pairs_imply (line-bound s s' v t f c) k)

  -- one call, then a list of calls
  lines-accepted : (s s' : State) (q : Request) (ns : List ℕ) (qs : List Request) → SoundFacts lim s → answer lim s q ≡ accepted ns s'
      → Lines s qs → Lines s' (qs ++ picked (is_line q && true) q)
  unfolding is_line
  lines-accepted s s' (add l r) ns qs f e k =
      let m = moved lim s s' (add l r) ns f e in lines_added s s' l r m.0 qs m.1 k
  lines-accepted s s' (fix v t) ns qs f e k =
      rw append-nil (lines-bound s s' v t qs f (moved lim s s' (fix v t) ns f e) k)
  lines-accepted s s' (ask out) ns qs f e k = rw (append-nil, moved lim s s' (ask out) ns f e) k

  -- whatever a call answers
  lines_after : (s : State) (q : Request) (a : Answer) (qs : List Request) → SoundFacts lim s → answer lim s q ≡ a → Lines s qs
      → Lines (after s a) (qs ++ picked (is_line q && is_accepted a) q)
  lines_after s q (refused n) qs f e k = rw (and-false (is_line q), append-nil) k
  lines_after s q (accepted ns s') qs f e k = lines-accepted s s' q ns qs f e k

  -- from the lines before, the lines of the end are these and the accepted ones
  pub lines-run : (s : State) (calls before : List Request) → SoundFacts lim s → Lines s before
      → Lines (state_run lim s calls) (before ++ accepted_in lim is_line s calls)
  lines-run s [] before f k = rw append-nil k
  lines-run s (q ∷ calls) before f k =
      rw (← append_assoc)
      (lines-run (next lim s q) calls (before ++ picked (is_line q && is_accepted (answer lim s q)) q) (next-sound lim s q f)
      (lines_after s q (answer lim s q) before f refl k))
