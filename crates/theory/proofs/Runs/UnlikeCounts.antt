-- Terms of one symbol and unlike counts: where entries are common, what covers two such values, a line over two such terms, and books in
-- which there are none. Assumes nothing.
use mathlib.Core.Path.{◌≡◌, refl, ap, ap₂, sym, ◌∙◌}
use mathlib.Core.List.{List, [], ◌∷◌, ◌++◌, map}
use mathlib.Core.Bool.{Bool, true, false, cond, ◌&&◌, true≢false, false≢true}
use mathlib.Core.Option.{none}
use Prim.Native.Nat.{ℕ, suc, ◌<◌, zero-le}
use native.Mathlib.Decide.{dec_lt}
use native.Mathlib.Omega.{arith}
use borrow.Author.Tests.{eq-eqb}
use lib.ListN.{length, take, length-append, length-map, get_or-append}
use lib.Seq.{get_or_at}
use lib.Dec.{T, eqb, ltb, leb, lt→ltb, le→leb}
use Rattle.model.specs.Limits.{Limits}
use Rattle.model.specs.Lists.{eq_numbers}
use Rattle.model.specs.Term.{Node, app, symbol, arguments, alike, Book, Bindings, count, root}
use Rattle.model.specs.Table.{Kind, hole, common, is_hole, Table, hole_at, entry, entry_of, place, walk}
use Rattle.model.specs.Step.{State, Answer, refused, accepted, add_line}
use Rattle.model.specs.Pattern.{variable, apply, fill, entry_reading}
use Rattle.model.specs.Area.{area_length, area_bytes, state_of, kind_ok, entry_ok, sound_state, sound}
use Rattle.model.specs.Call.{accept, stepped, call_add}
use Rattle.theory.specs.SoundArea.{OneRoot, KindAsWritten}
use Rattle.theory.specs.Walk.{Ended}
use Rattle.theory.specs.Run.{add, call, is_accepted, after}
use Rattle.theory.specs.UnlikeCounts.{AlikeExactly, CommonExactly, OpensByTerms, CoversUnlike, OneOpenPlace, KindBefore, StaysSound, AsBefore}
use Rattle.theory.proofs.Lists.Laws.{T_true, not-T_false, all_intro, eq_numbers_refl}
use Rattle.theory.proofs.Lists.Conjunctions.{and₃, and₄}
use Rattle.theory.proofs.Soundness.Facts.{KindRight, SoundFacts}
use Rattle.theory.proofs.Soundness.Table.{eq-T, argument_facts, facts_kind}
use Rattle.theory.proofs.Soundness.Test.{tests}
use Rattle.theory.proofs.Soundness.AsWritten.{terms_formed, one-root-alike, alike-one-root}
use Rattle.theory.proofs.Values.Equations.{alike_trees, alike-values, subtrees}
use Rattle.theory.proofs.Area.Sound.{soundness_as_written}
use Rattle.theory.proofs.Patterns.Lgg.{fill-counts}
use Rattle.theory.proofs.Patterns.Readings.{reads_as}
use Rattle.theory.proofs.Book.Round.{nothing_bound}
use Rattle.theory.proofs.Book.Parses.{formed_opens}
use Rattle.theory.proofs.Table.WalkLength.{walk-stays}
use Rattle.theory.proofs.Steps.Answers.{placed, line-table, line-accepted}
use Rattle.theory.proofs.Steps.Line.{right-ended}
use Rattle.theory.proofs.Steps.Kept.{Added, added, added_sound}
use Rattle.theory.proofs.Runs.Simulation.{sound_lives, lives_state, call_lives, follows, accepts}

-- ALIKE, as two roots that are one.
pub alike_exactly : AlikeExactly
alike_exactly l r = (λ t. (symbol l, length (arguments l), alike-one-root l r t), λ (s, c, o). one-root-alike s c l r o)

-- A BOOK whose terms obey the rules, each by itself.
pub opens_by_terms : OpensByTerms
opens_by_terms lim modest b few h =
    let β = map (λ (n : Node). none) b in
    formed_opens lim b β (terms_formed b β h (length-map b (λ (n : Node). none)) (λ t u e. absurd (nothing_bound b t u e))) few
    (omega (arith, modest.terms))

-- COMMON ENTRIES. A kind as written, of two terms with one root, is common with that root.
rooted_kind : (b : Book) (β : Bindings) (es : Table) (k : Kind) (l r : Node) (s c : ℕ) → KindAsWritten b β es k l r → OneRoot s c l r
    → (args : List ℕ) × (k ≡ common s args) × (length args ≡ c)
unfolding symbol arguments
rooted_kind b β es hole l r s c h o = absurd (h s c o)
rooted_kind b β es (common s' args) l r s c h o =
    let p = h.one-root in
    let e : app s' p.left-arguments ≡ app s o.left-arguments = sym p.left ∙ o.left in
    (args, ap (λ (z : ℕ). common z args) (ap symbol e), sym p.left-count ∙ ap (λ n. length (arguments n)) e ∙ o.left-count)

-- and a common kind has its root
kind_rooted : (b : Book) (β : Bindings) (es : Table) (k : Kind) (l r : Node) (s c : ℕ) (args : List ℕ) → KindAsWritten b β es k l r
    → k ≡ common s args → length args ≡ c → OneRoot s c l r
kind_rooted b β es k l r s c args h e n = rw n at (rw e at h).one-root

pub common_exactly : CommonExactly
common_exactly lim area h i s c here =
    let st = state_of area lim in
    let k = (((soundness_as_written lim area).0 h).state.entries-right i here).kind in (
      λ p. kind_rooted st.book st.bound st.entries (entry st.entries i).kind _ _ s c p.0 k p.1 p.2,
      λ o. rooted_kind st.book st.bound st.entries (entry st.entries i).kind _ _ s c k o,
    )

-- COVERING. A symbol over patterns has as many parts in every filling.
pub covers_unlike : CoversUnlike
unfolding fill subtrees
covers_unlike (variable x) σ τ s ts us p q unlike = (x, refl)
covers_unlike (apply s' ps) σ τ s ts us p q unlike =
    absurd (unlike (sym (ap (λ t. count (subtrees t)) p) ∙ fill-counts σ τ ps ∙ ap (λ t. count (subtrees t)) q))

-- A LINE over two terms of one symbol and unlike counts.
unlike_terms : (s : ℕ) (ls rs : List ℕ) (l r : Node) → l ≡ app s ls → r ≡ app s rs → (length ls ≡ length rs → ⊥) → alike l r ≡ false
unfolding arguments
unlike_terms s ls rs l r p q unlike =
    not-T_false (alike l r) (λ t.
    let o = alike-one-root l r t in
    unlike (
    sym (ap (λ n. length (arguments n)) p) ∙ sym o.right-count ∙ sym (ap (λ n. length (arguments n)) o.right)
    ∙ ap (λ n. length (arguments n)) q
    ))

-- an entry of two terms that are not alike is open
unlike_open : (b : Book) (β : Bindings) (es : Table) (k : Kind) (l r : Node) → KindRight b β es k l r → alike l r ≡ false → k ≡ hole
unlike_open b β es hole l r h e = refl
unlike_open b β es (common s args) l r h e = absurd (true≢false (sym h.alike-roots ∙ e))

-- What is said of the line (l, r), from the state before it to the one after it.
abbrev Opened : State → ℕ → ℕ → State → List ℕ → Type 0
Opened s l r s' ns =
    (i : ℕ) × (ns ≡ i ∷ []) × ((entry s'.entries i).kind ≡ hole) × (entry_reading s' i ≡ variable (entry s'.entries i).same_as)
    × (s'.entries ≡ place s.book s.bound s.entries l r)

-- a table in which nothing is to turn, with such a pair behind it
unlike_ended : (b : Book) (β : Bindings) (es : Table) (l r : ℕ) → Ended b β es → alike (root b β l) (root b β r) ≡ false
    → Ended b β (place b β es l r)
unfolding place is_hole
unlike_ended b β es l r h unlike = go (ltb (entry_of b β es l r) (length es))
  where
    behind : (i : ℕ) → i < length (es ++ hole_at (length es) l r ∷ []) → Dec (i < length es)
        → is_hole (entry (es ++ hole_at (length es) l r ∷ []) i).kind
        && alike (root b β (entry (es ++ hole_at (length es) l r ∷ []) i).left) (root b β (entry (es ++ hole_at (length es) l r ∷ []) i).right) ≡ false
    behind i k (yes l') = rw (get_or-append es (hole_at (length es) l r ∷ []) (hole_at 0 0 0) i l') (h i l')
    behind i k (no n) =
        let e : length es ≡ i = omega (arith, n, length-append es (hole_at (length es) l r ∷ [])) in
        rw (get_or_at es (hole_at (length es) l r) [] (hole_at 0 0 0) i e) unlike

    go : (t : Bool) → Ended b β (cond t es (es ++ hole_at (length es) l r ∷ []))
    go true = h
    go false = λ i k. behind i k (dec_lt i (length es))

unlike_entry : (lim : Limits) (s s' : State) (l r i : ℕ) → SoundFacts lim s → SoundFacts lim s' → Added lim s s' l r i
    → alike (root s.book s.bound l) (root s.book s.bound r) ≡ false → (entry s'.entries i).kind ≡ hole
unlike_entry lim s s' l r i f f' k unlike =
    let here = k.has.present in
    let l' = (entry s'.entries i).left in
    let r' = (entry s'.entries i).right in
    let left : l' < length s.book = rw k.same-book at (f'.table.left-term i here) in
    let right : r' < length s.book = rw k.same-book at (f'.table.right-term i here) in
    let values = alike-values s.book s.bound f.formed f.acyclic in
    unlike_open s.book s.bound s'.entries (entry s'.entries i).kind (root s.book s.bound l') (root s.book s.bound r')
    (rw (k.same-book, k.same-bound) at (f'.table.kind-right i here))
    (values l' r' left right ∙ ap₂ alike_trees k.has.left k.has.right ∙ sym (values l r k.left-term k.right-term) ∙ unlike)

unlike_line : (lim : Limits) (s : State) (area : List ℕ) (l r : ℕ) → SoundFacts lim s
    → alike (root s.book s.bound l) (root s.book s.bound r) ≡ false → (a : Answer) → add_line lim s l r ≡ a → is_accepted a ≡ true
    → Opened s l r (after s a) (stepped lim 1 area a).numbers
unfolding stepped accept walk
unlike_line lim s area l r f unlike (refused n) e h = absurd (false≢true h)
unlike_line lim s area l r f unlike (accepted ns s') e h =
    let (i, answer, k) = added lim s s' l r ns f e in
    let f' = added_sound lim s s' l r ns f e in
    let open-kind = unlike_entry lim s s' l r i f f' k unlike in
    let ended = unlike_ended s.book s.bound s.entries l r (right-ended s.book s.bound s.entries f.table) unlike in
    let table : line-table s l r ≡ placed s l r = walk-stays s.book s.bound 0 (suc s.capacity) (placed s l r) ended zero-le in (
      i,
      answer,
      open-kind,
      (reads_as lim s' f').of_hole i k.has.present open-kind,
      sym (ap (λ (t : State). t.entries) (line-accepted s l r lim s' ns e).state) ∙ table,
    )

pub one_open_place : OneOpenPlace
unfolding call
one_open_place lim modest area l r s ls rs h p q unlike z =
    let st = state_of area lim in
    let v = sound_lives lim area h in
    let took = sym (accepts lim modest st area (add l r) v) ∙ eq-eqb (call_add lim area l r).refusal 0 z in
    let on : call_add lim area l r ≡ stepped lim 1 area (add_line lim st l r) = call_lives lim modest st area (add l r) v in
    rw (lives_state lim modest _ (call_add lim area l r).area (follows lim modest st area (add l r) v).lives, on)
    (unlike_line lim st area l r v.facts (unlike_terms s ls rs _ _ p q unlike) (add_line lim st l r) refl took)

-- BEFORE. A kind that was right is right.
kind_before : (b : Book) (β : Bindings) (es : Table) (k : Kind) (l r : Node) → KindBefore b β es k l r → KindRight b β es k l r
unfolding symbol arguments
kind_before b β es hole l r h = not-T_false (alike l r) (λ t. let o = alike-one-root l r t in h _ _ _ o.left o.right)
kind_before b β es (common s args) l r (ls, rs, p, q, h) =
    let f = argument_facts b β es args ls rs h in
    let o : OneRoot s (length ls) l r =
    record {
      left-arguments = ls;
      right-arguments = rs;
      left = p;
      right = q;
      left-count = refl;
      right-count = sym f.count-right ∙ f.count_left;
    } in
    record {
      alike-roots = T_true _ (one-root-alike s (length ls) l r o);
      the_symbol = rw p;
      count_left = rw p f.count_left;
      count-right = rw q f.count-right;
      argument = rw (p, q) f.argument;
    }

pub stays-sound : StaysSound
unfolding sound entry_ok
stays-sound lim area w =
    let s = state_of area lim in
    let es = s.entries in
    let right : (i : ℕ) → i < length es → T (entry_ok s.book s.bound es (entry es i)) =
    λ i l. let e = entry es i in
    (and₄ (ltb e.left (length s.book)) (ltb e.right (length s.book))
    (kind_ok s.book s.bound es e.kind (root s.book s.bound e.left) (root s.book s.bound e.right))
    (eqb e.same_as (entry_of s.book s.bound es e.left e.right))).1 (
      lt→ltb _ _ (w.left-term i l),
      lt→ltb _ _ (w.right-term i l),
      facts_kind s.book s.bound es e.kind _ _ (kind_before s.book s.bound es e.kind _ _ (w.kind i l)),
      eq-T _ _ (w.same_as i l),
    ) in
    (and₃ (leb (area_length lim s.capacity) (length area)) (sound_state lim s) (eq_numbers (take (area_length lim s.capacity) area) (area_bytes lim s))).1 (
      le→leb _ _ w.long_enough,
      (tests lim s).1 (
        w.ranges,
        w.terms,
        w.no_cycle,
        all_intro (entry_ok s.book s.bound es) es (hole_at 0 0 0) right,
        w.distinct-pairs,
        w.line-entries,
      ),
      rw w.words (eq_numbers_refl (area_bytes lim s)),
    )

-- Where each symbol has one count, one symbol is one root.
pub as_before : AsBefore
unfolding root
as_before b β one l r = (
  λ t. let o = alike-one-root (root b β l) (root b β r) t in (_, o.left-arguments, o.right-arguments, o.left, o.right),
  λ (s, ls, rs, p, q). one-root-alike s (length ls) (root b β l) (root b β r)
      (record {
        left-arguments = ls;
        right-arguments = rs;
        left = p;
        right = q;
        left-count = refl;
        right-count = sym (one _ _ s ls rs p q);
      }),
)
