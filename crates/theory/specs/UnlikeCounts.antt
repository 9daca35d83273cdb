-- Unlike counts (document 02, request 3): a symbol may stand over one argument here and over two there. Terms are alike only where both
-- symbol and count agree, a pair of one symbol with unlike counts is an open place, and refusal 6 is not given any more. Statements only.
use Rattle.std.specs.Prelude.{◌≡◌, List, [], ◌∷◌, ◌↔◌, ℕ, ◌≤◌, ◌<◌, length, get_or, take, T, ltb}
use Rattle.model.specs.Limits.{Limits}
use Rattle.model.specs.Lists.{all}
use Rattle.model.specs.Term.{Node, var, app, alike, Book, Bindings, Tree, node, Trees, count, root, acyclic}
use Rattle.model.specs.Table.{Kind, hole, common, Table, entry, entry_of, place}
use Rattle.model.specs.Step.{State}
use Rattle.model.specs.Pattern.{Pattern, variable, fill, entry_reading}
use Rattle.model.specs.BookBytes.{unparsed, parse_book}
use Rattle.model.specs.Area.{area_length, area_bytes, state_of, ranges_ok, terms_ok, arguments_ok, distinct, sound}
use Rattle.model.specs.Call.{call_open, call_add, call_bind, call_entry, call_report, call_write, call_copy}
use Rattle.model.specs.Archive.{call_store, call_restore}
use Rattle.model.specs.Session.{session}
use Rattle.theory.specs.Modest.{Modest}
use Rattle.theory.specs.SoundArea.{TermAsWritten, OneRoot}
use Rattle.theory.specs.Archive.{OpensAs}

-- Reading a book never gives 6, with any limits; so no call does, and no line of a session is this refusal.
pub record NoSix : Type 0 where
  pub parses : (lim : Limits) (bytes : List ℕ) → parse_book lim bytes ≡ unparsed 6 → ⊥
  pub opening : (lim : Limits) (capacity : ℕ) (book area : List ℕ) → (call_open lim capacity book area).refusal ≡ 6 → ⊥
  pub adding : (lim : Limits) (area : List ℕ) (l r : ℕ) → (call_add lim area l r).refusal ≡ 6 → ⊥
  pub fixing : (lim : Limits) (area : List ℕ) (v t : ℕ) → (call_bind lim area v t).refusal ≡ 6 → ⊥
  pub reading : (lim : Limits) (area : List ℕ) (i : ℕ) → (call_entry lim area i).refusal ≡ 6 → ⊥
  pub reporting : (lim : Limits) (area out : List ℕ) → (call_report lim area out).refusal ≡ 6 → ⊥
  pub writing : (lim : Limits) (area out : List ℕ) → (call_write lim area out).refusal ≡ 6 → ⊥
  pub copying : (lim : Limits) (book out : List ℕ) → (call_copy lim book out).refusal ≡ 6 → ⊥
  pub storing : (lim : Limits) (book out list : List ℕ) → (call_store lim book out list).refusal ≡ 6 → ⊥
  pub restoring : (lim : Limits) (book list out : List ℕ) → (call_restore lim book list out).refusal ≡ 6 → ⊥
  pub in_sessions : (bytes : List ℕ) (i : ℕ) → get_or (session bytes) i [] ≡ 6 ∷ [] → ⊥

-- Terms are alike exactly where they are applications of one symbol, with as many arguments.
abbrev pub AlikeExactly : Type 0
AlikeExactly = (l r : Node) → T (alike l r) ↔ ((s : ℕ) × (c : ℕ) × OneRoot s c l r)

-- An entry of a sound area is common, with symbol s and c arguments, exactly where its sides stand for terms of this symbol and this count.
abbrev pub CommonExactly : Type 0
CommonExactly = (lim : Limits) (area : List ℕ) → T (sound lim area) → let st = state_of area lim in
    (i s c : ℕ) → i < length st.entries
    → ((args : List ℕ) × ((entry st.entries i).kind ≡ common s args) × (length args ≡ c))
    ↔ OneRoot s c (root st.book st.bound (entry st.entries i).left) (root st.book st.bound (entry st.entries i).right)

-- Nothing is asked of two terms together: every book opens whose terms obey, each by itself, the rules that remain.
abbrev pub OpensByTerms : Type 0
OpensByTerms = (lim : Limits) → Modest lim → (b : Book) → length b ≤ lim.max_terms
    → ((t s : ℕ) (args : List ℕ) → t < length b → get_or b t var ≡ app s args → TermAsWritten t s args) → OpensAs lim b

-- Whatever covers two values of one symbol and unlike counts is an open place: no narrower pattern does.
abbrev pub CoversUnlike : Type 0
CoversUnlike = (p : Pattern) (σ τ : ℕ → Tree) (s : ℕ) (ts us : Trees) → fill σ p ≡ node s ts → fill τ p ≡ node s us
    → (count ts ≡ count us → ⊥) → (x : ℕ) × (p ≡ variable x)

-- So a line over two terms that stand for terms of one symbol and unlike counts is one open place: its entry i, the answer (that the line has
-- it: Line.antt, `LineOnAreas`), is open, reads as the place of its class, and nothing else turns or is appended.
abbrev pub OneOpenPlace : Type 0
OneOpenPlace = (lim : Limits) → Modest lim → (area : List ℕ) (l r s : ℕ) (ls rs : List ℕ) → T (sound lim area) → let st = state_of area lim in
    root st.book st.bound l ≡ app s ls → root st.book st.bound r ≡ app s rs → (length ls ≡ length rs → ⊥)
    → let o = call_add lim area l r in o.refusal ≡ 0 → let st' = state_of o.area lim in
    (i : ℕ) × (o.numbers ≡ i ∷ []) × ((entry st'.entries i).kind ≡ hole) × (entry_reading st' i ≡ variable (entry st'.entries i).same_as)
    × (st'.entries ≡ place st.book st.bound st.entries l r)

-- AREAS OF BEFORE. A kind by document 01's rule: common exactly where both sides stand for terms of one symbol, over the entries of the
-- argument pairs, one for one.
abbrev pub KindBefore : Book → Bindings → Table → Kind → Node → Node → Type 0
KindBefore b β es hole l r = (s : ℕ) (ls rs : List ℕ) → l ≡ app s ls → r ≡ app s rs → ⊥
KindBefore b β es (common s args) l r =
    (ls : List ℕ) × (rs : List ℕ) × (l ≡ app s ls) × (r ≡ app s rs) × T (arguments_ok b β es args ls rs)

-- What was asked of an area with the state s before this request, item by item; one count for each symbol is left out, since it is not
-- needed.
pub record SoundBefore (lim : Limits) (area : List ℕ) (s : State) : Type 0 where
  pub long_enough : area_length lim s.capacity ≤ length area
  pub words : take (area_length lim s.capacity) area ≡ area_bytes lim s
  pub ranges : T (ranges_ok lim s)
  pub terms : T (terms_ok s.book s.bound)
  pub no_cycle : T (acyclic s.book s.bound)
  pub left-term : (i : ℕ) → i < length s.entries → (entry s.entries i).left < length s.book
  pub right-term : (i : ℕ) → i < length s.entries → (entry s.entries i).right < length s.book
  pub kind : (i : ℕ) → i < length s.entries → KindBefore s.book s.bound s.entries (entry s.entries i).kind
      (root s.book s.bound (entry s.entries i).left) (root s.book s.bound (entry s.entries i).right)
  pub same_as : (i : ℕ) → i < length s.entries
      → (entry s.entries i).same_as ≡ entry_of s.book s.bound s.entries (entry s.entries i).left (entry s.entries i).right
  pub distinct-pairs : T (distinct s.entries)
  pub line-entries : T (all (λ i. ltb i (length s.entries)) s.lines)

-- It stays sound.
abbrev pub StaysSound : Type 0
StaysSound = (lim : Limits) (area : List ℕ) → SoundBefore lim area (state_of area lim) → T (sound lim area)

-- A book in which each symbol has one count: document 01's rule, which this request lifts.
abbrev pub OneCount : Book → Type 0
OneCount b = (t u s : ℕ) (args args' : List ℕ) → get_or b t var ≡ app s args → get_or b u var ≡ app s args' → length args ≡ length args'

-- In such a book terms are alike exactly where they have one symbol, as document 01 has it. The walk and the test of a kind look at two terms
-- by `alike`, and all else that compares two goes by their values (`eq_tree`), which is as it was. So each step on such a book is the one of
-- before: an argument in words, since the definitions of before are gone.
abbrev pub AsBefore : Type 0
AsBefore = (b : Book) (β : Bindings) → OneCount b → (l r : ℕ)
    → T (alike (root b β l) (root b β r))
    ↔ ((s : ℕ) × (ls : List ℕ) × (rs : List ℕ) × (root b β l ≡ app s ls) × (root b β r ≡ app s rs))

pub record UnlikeCounts : Type 0 where
  pub no_six : NoSix
  pub alike_exactly : AlikeExactly
  pub common_exactly : CommonExactly
  pub opens_by_terms : OpensByTerms
  pub covers_unlike : CoversUnlike
  pub one_open_place : OneOpenPlace
  pub stays-sound : StaysSound
  pub as_before : AsBefore
