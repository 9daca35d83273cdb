-- Soundness is kept by accepted steps, and what a step leaves. Assumes nothing.
use mathlib.Core.Path.{◌≡◌, refl, ap, subst}
use mathlib.Core.List.{List, [], ◌∷◌, ◌++◌}
use mathlib.Core.Bool.{false}
use mathlib.Core.Logic.{◌⊎◌, inl, inr}
use mathlib.Core.Option.{none, some}
use Prim.Native.Nat.{ℕ, zero, suc, ◌≤◌, ◌<◌, ◌*◌}
use native.Mathlib.Omega.{arith}
use lib.ListN.{length, get_or, set, length-append, get_or-append}
use lib.Seq.{get_or-append_seam}
use Rattle.model.specs.Limits.{Limits}
use Rattle.model.specs.Term.{var, occurs, val}
use Rattle.model.specs.Table.{Entry, Table, entry, settle}
use Rattle.model.specs.Step.{State, accepted, add_line, bind}
use Rattle.theory.specs.Choice.{Turned, Kept, Chosen, Choice}
use Rattle.theory.proofs.Soundness.Facts.{Has, TableRight, SoundFacts}
use Rattle.theory.proofs.Table.Place.{Extends, extends_trans, has_extends, entry_of_has, lt-or-le, place_all_extends, place_all_has, place-one, walk_extends, settle_extends, length-settle, entry-settle}
use Rattle.theory.proofs.Table.WalkInvariant.{Holding, place_all_holding, walk-right}
use Rattle.theory.proofs.Table.WalkRight.{table_holding, walked_right, settled-right}
use Rattle.theory.proofs.Steps.Choice.{bound_holding, bound-same_as, turned-stood}
use Rattle.theory.proofs.Values.Binding.{bound_formed, bound-acyclic}
use Rattle.theory.proofs.Table.WalkEntries.{SameAs, Track, stays, turns, place_all-same_as, walk-same_as, walk_tracked, turned-settle}
use Rattle.theory.proofs.Soundness.Test.{sound_facts}
use Rattle.theory.proofs.Table.Size.{pairs-few}
use Rattle.theory.proofs.Steps.Answers.{placed, line-entry, line-table, line-state, LineAccepted, line-accepted, now_bound, choice_table, choice_state, ChoiceAccepted, choice_accepted}

-- What an accepted line leaves.
pub record Added (lim : Limits) (s s' : State) (l r i : ℕ) : Type 0 where
  pub left-term : l < length s.book
  pub right-term : r < length s.book
  pub line-room : length s.lines < lim.max_lines
  pub same-book : s'.book ≡ s.book
  pub same-bound : s'.bound ≡ s.bound
  pub same-capacity : s'.capacity ≡ s.capacity
  pub one_line : s'.lines ≡ s.lines ++ i ∷ []
  pub extends : Extends s.entries s'.entries
  pub has : Has s.book s.bound s'.entries i l r

-- the entry of an accepted line has its values; the table extends the old one
module _ (s : State) (l r : ℕ) where
  placed_extends : Extends s.entries (placed s l r)
  placed_extends = rw place-one (place_all_extends s.book s.bound s.entries (l ∷ []) (r ∷ []))

  line_found : line-entry s l r < length (placed s l r)
  line_found =
      rw place-one (place_all_has s.book s.bound s.entries (l ∷ []) (r ∷ []) 0 (omega arith) (omega arith))

  line_walk : Extends (placed s l r) (line-table s l r)
  line_walk = walk_extends s.book s.bound (suc s.capacity) 0 (placed s l r)

  line_extends : Extends s.entries (line-table s l r)
  line_extends = extends_trans s.entries (placed s l r) (line-table s l r) placed_extends line_walk

  line_has : Has s.book s.bound (line-table s l r) (line-entry s l r) l r
  line_has =
      has_extends s.book s.bound (placed s l r) (line-table s l r) _ l r line_walk
      (entry_of_has s.book s.bound (placed s l r) l r line_found)

-- an accepted line: its answer is its entry, and what it leaves
pub added : (lim : Limits) (s s' : State) (l r : ℕ) (ns : List ℕ) → SoundFacts lim s → add_line lim s l r ≡ accepted ns s'
    → (i : ℕ) × (ns ≡ i ∷ []) × Added lim s s' l r i
added lim s s' l r ns f h =
    let a = line-accepted s l r lim s' ns h in (
      line-entry s l r,
      a.answer,
      subst (λ (s'' : State). Added lim s s'' l r (line-entry s l r)) a.state
          (record {
            left-term = a.left-term;
            right-term = a.right-term;
            line-room = a.line-room;
            same-book = refl;
            same-bound = refl;
            same-capacity = refl;
            one_line = refl;
            extends = line_extends s l r;
            has = line_has s l r;
          }),
    )

-- the number of a pair's one term is a term
one-term : (n l : ℕ) → l < n → (j : ℕ) → j < length (l ∷ []) → get_or (l ∷ []) j 0 < n
one-term n l h zero p = h
one-term n l h (suc j) p = absurd (omega arith)

-- an accepted line leaves a sound state
module _ (lim : Limits) (s : State) (l r : ℕ) (f : SoundFacts lim s) (s' : State) (ns : List ℕ) (a : LineAccepted s l r lim s' ns) where
  placed_holding : Holding s.book s.bound (placed s l r)
  placed_holding =
      rw place-one
      (place_all_holding s.book s.bound s.entries (l ∷ []) (r ∷ [])
      (table_holding s.book s.bound s.entries f.table) (one-term _ l a.left-term) (one-term _ r a.right-term))

  placed-same_as : SameAs s.book s.bound (placed s l r)
  placed-same_as =
      rw place-one
      (place_all-same_as s.book s.bound s.entries (l ∷ []) (r ∷ []) (record { same_as = f.table.same_as }))

  -- the walk leaves a right table
  line-right : TableRight s.book s.bound (line-table s l r)
  line-right =
      walked_right s.book s.bound (line-table s l r)
      (walk-right s.book s.bound f.formed f.acyclic s.capacity (placed s l r) placed_holding a.fits)
      (walk-same_as s.book s.bound s.capacity (placed s l r) placed-same_as a.fits)

  -- every line has its entry
  line-entries-at : (k : ℕ) → k < length (s.lines ++ line-entry s l r ∷ []) → (k < length s.lines) ⊎ (length s.lines ≤ k)
      → get_or (s.lines ++ line-entry s l r ∷ []) k 0 < length (line-table s l r)
  line-entries-at k h (inl p) =
      rw (get_or-append s.lines (line-entry s l r ∷ []) 0 k p)
      (omega (arith, f.line-entries k p, (line_extends s l r).longer))
  line-entries-at k h (inr p) =
      let e : k ≡ length s.lines = omega (arith, simp length-append at h) in
      rw (e, get_or-append_seam) (line_has s l r).present

  -- so the state is sound
  line-sound : SoundFacts lim (line-state s l r)
  line-sound =
      record {
        some_capacity = f.some_capacity;
        capacity-fits = f.capacity-fits;
        few-terms = f.few-terms;
        few-entries = a.fits;
        few-lines = simp length-append (omega (arith, a.line-room));
        formed = f.formed;
        acyclic = f.acyclic;
        table = line-right;
        line-entries = λ k h. line-entries-at k h (lt-or-le k (length s.lines));
      }

-- an accepted line keeps soundness
pub added_sound : (lim : Limits) (s s' : State) (l r : ℕ) (ns : List ℕ) → SoundFacts lim s → add_line lim s l r ≡ accepted ns s' → SoundFacts lim s'
added_sound lim s s' l r ns f h =
    let a = line-accepted s l r lim s' ns h in
    subst (SoundFacts lim) a.state (line-sound lim s l r f s' ns a)

-- What an accepted choice leaves.
pub record Bound (s s' : State) (v t : ℕ) : Type 0 where
  pub v_term : v < length s.book
  pub t_term : t < length s.book
  pub v_var : get_or s.book v var ≡ var
  pub v_free : get_or s.bound v none ≡ none
  pub absent : occurs v (val s.book s.bound t) ≡ false
  pub same-book : s'.book ≡ s.book
  pub now_bound : s'.bound ≡ set s.bound v (some t)
  pub same-capacity : s'.capacity ≡ s.capacity
  pub same_lines : s'.lines ≡ s.lines
  pub extends : Extends s.entries s'.entries

-- a choice changes no old pair
choice_extends : (s : State) (v t : ℕ) → Extends s.entries (choice_state s v t).entries
choice_extends s v t =
    extends_trans s.entries (choice_table s v t) _
    (walk_extends s.book (now_bound s v t) (suc s.capacity) 0 s.entries)
    (settle_extends s.book (now_bound s v t) (choice_table s v t))

-- an accepted choice: what it leaves
pub bound : (s s' : State) (v t : ℕ) (ns : List ℕ) → bind s v t ≡ accepted ns s' → Bound s s' v t
bound s s' v t ns h =
    let a = choice_accepted s v t s' ns h in
    subst (λ (s'' : State). Bound s s'' v t) a.state
    (record {
      v_term = a.v_term;
      t_term = a.t_term;
      v_var = a.v_var;
      v_free = a.v_free;
      absent = a.absent;
      same-book = refl;
      now_bound = refl;
      same-capacity = refl;
      same_lines = refl;
      extends = choice_extends s v t;
    })

-- an accepted choice keeps soundness
pub bound-sound : (lim : Limits) (s s' : State) (v t : ℕ) (ns : List ℕ) → SoundFacts lim s → bind s v t ≡ accepted ns s' → SoundFacts lim s'
bound-sound lim s s' v t ns f h =
    let a = choice_accepted s v t s' ns h in
    let b = s.book in
    let formed = bound_formed b s.bound f.formed f.acyclic v t a.v_term a.t_term a.v_var a.v_free a.absent in
    let acyclic = bound-acyclic b s.bound f.formed f.acyclic v t a.v_term a.t_term a.v_var a.v_free a.absent in
    let holding =
    bound_holding b s.bound f.formed f.acyclic v t a.v_term a.t_term a.v_var a.v_free a.absent
    s.entries f.table in
    let walking = walk-right b (now_bound s v t) formed acyclic s.capacity s.entries holding a.fits in
    subst (SoundFacts lim) a.state
    (record {
      some_capacity = f.some_capacity;
      capacity-fits = f.capacity-fits;
      few-terms = f.few-terms;
      few-entries = rw length-settle a.fits;
      few-lines = f.few-lines;
      formed = formed;
      acyclic = acyclic;
      table = settled-right b (now_bound s v t) (choice_table s v t) walking;
      line-entries = λ k h. omega (arith, f.line-entries k h, (choice_extends s v t).longer);
    })

-- an accepted choice keeps each old entry but for what it turns
module _ (lim : Limits) (s : State) (v t : ℕ) (f : SoundFacts lim s) (s' : State) (ns : List ℕ) (a : ChoiceAccepted s v t s' ns) where
  abbrev old : Table
  old = s.entries

  abbrev new : Table
  new = choice_table s v t

  abbrev settled : Table
  settled = settle s.book (now_bound s v t) new

  -- every old entry is still there
  still-there : (j : ℕ) → j < length old → j < length new
  still-there j h = omega (arith, (walk_extends s.book (now_bound s v t) (suc s.capacity) 0 old).longer)

  -- its kind stays, or it turned and one of its sides stood for v
  choice_kind : (j : ℕ) → j < length old → Track s.book (now_bound s v t) (entry old j) (entry new j)
      → Turned s.book s.bound v (entry old j) (entry settled j) ⊎ ((entry settled j).kind ≡ (entry old j).kind)
  choice_kind j h (stays e) =
      rw (entry-settle s.book (now_bound s v t) new j (still-there j h)) (inr (ap (λ (x : Entry). x.kind) e))
  choice_kind j h (turns p q e) =
      rw (entry-settle s.book (now_bound s v t) new j (still-there j h))
      (inl
      (record {
        was_hole = p;
        is-common = q;
        stood =
            turned-stood s.book s.bound f.formed f.acyclic v t a.v_term a.t_term a.v_var a.v_free a.absent
            old f.table j h p e;
      }))

  -- its same-as does not rise
  choice_same_as : (j : ℕ) → j < length old → (entry settled j).same_as ≤ (entry old j).same_as
  choice_same_as j h =
      let x = walk_extends s.book (now_bound s v t) (suc s.capacity) 0 old in
      rw (entry-settle s.book (now_bound s v t) new j (still-there j h), x.left j h, x.right j h)
      (bound-same_as s.book s.bound f.formed f.acyclic v t a.v_term a.t_term a.v_var a.v_free a.absent
      old f.table new x j h)

  choice_kept : (j : ℕ) → j < length old → Kept s.book s.bound v (entry old j) (entry settled j)
  choice_kept j h =
      let k = walk_tracked s.book (now_bound s v t) s.capacity old a.fits in
      record {
        left = (choice_extends s v t).left j h;
        right = (choice_extends s v t).right j h;
        kind = choice_kind j h (k.track j h);
        same_as = choice_same_as j h;
      }

  choice_chosen : Chosen s (choice_state s v t) v ns
  choice_chosen =
      record {
        old_stay = (choice_extends s v t).longer;
        counts = rw (turned-settle, length-settle) a.answer;
        old-entries = choice_kept;
      }

-- what a choice does to the old entries
pub choice : Choice
choice lim s s' v t ns h e =
    let a = choice_accepted s v t s' ns e in
    subst (λ (s'' : State). Chosen s s'' v ns) a.state (choice_chosen lim s v t (sound_facts lim s h) s' ns a)

-- no two entries hold the same two term numbers, so there are at most as many as pairs of terms
pub table_size : (lim : Limits) (s : State) → SoundFacts lim s → length s.entries ≤ length s.book * length s.book
table_size lim s f = pairs-few s.book s.bound s.entries f.table
