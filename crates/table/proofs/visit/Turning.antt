-- Turning an entry in slices: its argument pairs are placed, and its row is put anew. Assumes nothing.
use Rattle.std.proofs.Common.{◌≡◌, ap, sym, ◌∙◌, List, [], true, ℕ, ◌+◌, ◌*◌, ◌-◌, ◌≤◌, ◌<◌, arith, length, get_or, length-append}
use Rattle.std.proofs.Math.Seq.{paste, get_or_at}
use Rattle.model.specs.Limits.{max_arity}
use Rattle.model.specs.Lists.{pairwise}
use Rattle.model.specs.Term.{Node, symbol, arguments, alike, Book, Bindings}
use Rattle.model.specs.Table.{common, Entry, Table, entry, entry_of, place_all, turn}
use Rattle.model.specs.Area.{term_words, entry_row_words, entry_words, kind_words}
use Rattle.model.specs.Report.{kind_arguments}
use Rattle.theory.proofs.Lists.Laws.{length-pairwise}
use Rattle.theory.proofs.Area.Rows.{width_entry}
use Rattle.theory.proofs.Values.Equations.{alike-counts}
use Rattle.theory.proofs.Table.Place.{grown, turn-length, turn_grown, place_all-longer}
use Rattle.layout.specs.limits.Rows.{at, node_of}
use Rattle.layout.proofs.limits.Rows.{node-app}
use Rattle.layout.proofs.limits.Symbols.{left-applied, right-applied}
use Rattle.layout.specs.entry.Row.{row_of}
use Rattle.layout.specs.declared.entry.Entry.{Entry as Row}
use Rattle.soundness.specs.kinds.Known.{RowsKnown}
use Rattle.soundness.proofs.kinds.Rows.{formed, term-row, row-end, argument-terms}
use Rattle.refusal.specs.declared.Refusal.{Refusal}
use Rattle.table.specs.place.Stands.{Stands, Reaches, IsFull}
use Rattle.table.specs.visit.Visiting.{arguments_at, ToPlaceAll, PlacesAll, turned_row}
use Rattle.table.specs.declared.visit.Arguments.{Arguments}
use Rattle.table.proofs.place.Held.{held-set}
use Rattle.table.proofs.place.Names.{names_same}
use Rattle.table.proofs.place.Placing.{stands-reaches}
use Rattle.table.proofs.visit.PlacingAll.{length-row}

-- a row with the words of an entry has its sides and its same-as
module _ (e : Row) (x : Entry) (same : row_of e ≡ entry_words x) (wide : length (entry_words x) ≡ entry_row_words) where
  pub row-left : e.left ≡ x.left
  unfolding row_of entry_words
  row-left = ap (λ (ws : List ℕ). get_or ws 0 0) same

  pub row-right : e.right ≡ x.right
  unfolding row_of entry_words
  row-right = ap (λ (ws : List ℕ). get_or ws 1 0) same

  pub row-kind : e.kind ≡ get_or (entry_words x) 2 0
  unfolding row_of
  row-kind = ap (λ (ws : List ℕ). get_or ws 2 0) same

  row-same_as : e.same_as ≡ x.same_as
  unfolding row_of entry_words
  row-same_as =
      let long : length e.arguments ≡ 8 = omega (arith, simp length-append at (ap length same ∙ wide)) in
      let kind : length (kind_words x.kind) ≡ 11 = omega (arith, simp length-append at wide) in
      sym (get_or_at e.arguments e.same_as [] 0 8 long) ∙ ap (λ (ws : List ℕ). get_or ws 13 0) same ∙
      get_or_at (kind_words x.kind) x.same_as [] 0 11 kind

-- the words behind the count of an application are its arguments
module _ (rows : List ℕ) (t : ℕ) (d : at rows (term_words * t) ≡ 0 → ⊥) where
  row-arguments : arguments_at rows t ≡ arguments (node_of rows t)
  unfolding arguments
  row-arguments = rw (node-app rows t d)

  applied-symbol : symbol (node_of rows t) ≡ at rows (term_words * t) - 1
  unfolding symbol
  applied-symbol = rw (node-app rows t d)

-- An entry whose sides stand for the terms l and r, which are alike, before its argument pairs are placed.
pub record Turnable (rows names entries lefts rights cells : List ℕ) (capacity m i : ℕ) (e : Row) (l r : ℕ) (b : Book) (β : Bindings) (es : Table) : Type 0 where
  pub known : RowsKnown b β rows names [] 0
  pub stands : Stands entries lefts rights cells capacity m b β es
  pub there : i < m
  pub is-entry : row_of e ≡ entry_words (entry es i)
  pub left-term : l < length b
  pub right-term : r < length b
  pub are_alike : alike (node_of rows l) (node_of rows r) ≡ true

module _ {rows names entries lefts rights cells : List ℕ} {capacity m i : ℕ} {e : Row} {l r : ℕ} {b : Book} {β : Bindings} {es : Table}
    (q : Turnable rows names entries lefts rights cells capacity m i e l r b β es) where
  abbrev n : Node
  n = node_of rows l

  abbrev o : Node
  o = node_of rows r

  pub left-app : at rows (term_words * l) ≡ 0 → ⊥
  left-app = left-applied rows l r q.are_alike

  right-app : at rows (term_words * r) ≡ 0 → ⊥
  right-app = right-applied rows l r q.are_alike

  -- the terms have as many arguments, and those are few
  counts : length (arguments n) ≡ length (arguments o)
  counts = alike-counts n o q.are_alike

  few : length (arguments n) ≤ max_arity
  few = rw (term-row q.known l q.left-term) at ((formed q.known).small_arity l q.left-term)

  arity : length (arguments n) ≡ at rows (term_words * l + 1)
  arity = rw (← row-arguments rows l left-app) (length-row rows l (row-end q.known l q.left-term))

  -- what placing the argument pairs asks
  pub to_place-all : ToPlaceAll names entries lefts rights cells capacity m (arguments_at rows l) (arguments_at rows r) b β es
  to_place-all =
      record {
        known = q.known.named;
        stands = q.stands;
        left-terms = argument-terms q.known l q.left-term left-app;
        right-terms = argument-terms q.known r q.right-term right-app;
        pairs = rw (row-arguments rows l left-app, row-arguments rows r right-app) counts;
        few = rw (row-arguments rows l left-app) few;
      }

  -- they need entries beyond the capacity
  pub turn_full : {x : Refusal} → IsFull capacity x (place_all b β es (arguments_at rows l) (arguments_at rows r))
      → IsFull capacity x (turn b β es i (entry es i) n o)
  turn_full f =
      record { full = f.full; beyond = rw turn-length (rw (row-arguments rows l left-app, row-arguments rows r right-app) at f.beyond) }

  -- they are placed
  module _ {a : Arguments} {entries' lefts' rights' cells' : List ℕ}
      (placed : PlacesAll entries' lefts' rights' cells' capacity (arguments_at rows l) (arguments_at rows r) a b β es) where
    done : PlacesAll entries' lefts' rights' cells' capacity (arguments n) (arguments o) a b β es
    done = rw (row-arguments rows l left-app, row-arguments rows r right-app) at placed

    abbrev args : List ℕ
    args = pairwise (entry_of b β (grown b β es i n o)) (arguments n) (arguments o)

    abbrev turned_entry : Entry
    turned_entry = record { left = (entry es i).left; right = (entry es i).right; kind = common (symbol n) args; same_as = (entry es i).same_as }

    here : i < length es
    here = omega (arith, q.there, q.stands.count)

    there : i < length (grown b β es i n o)
    there = omega (arith, here, place_all-longer b β es (arguments n) (arguments o))

    args_length : length args ≡ length (arguments n)
    args_length = length-pairwise _ (arguments n) (arguments o) counts

    turned-row : row_of (turned_row rows l e a.entries) ≡ entry_words turned_entry
    unfolding row_of entry_words kind_words
    turned-row =
        let wide = q.stands.held.wide i here in
        rw (
          row-left e (entry es i) q.is-entry wide,
          row-right e (entry es i) q.is-entry wide,
          row-same_as e (entry es i) q.is-entry wide,
          ← applied-symbol rows l left-app,
          ← arity,
          ← args_length,
          done.their_entries,
        )

    turned-wide : length (entry_words turned_entry) ≡ entry_row_words
    unfolding kind_arguments
    turned-wide = width_entry turned_entry (omega (arith, args_length, few))

    -- so turning leads to the turned table
    module _ {entries'' : List ℕ} (put : entries'' ≡ paste entries' (entry_row_words * i) (row_of (turned_row rows l e a.entries)) entry_row_words)
        (size : length entries'' ≡ length entries') where
      turn-stands : Stands entries'' lefts' rights' cells' capacity a.count b β (turn b β es i (entry es i) n o)
      unfolding turn
      turn-stands =
          let s = done.reaches.stands in
          record {
            count = s.count ∙ sym (turn-length b β es i n o);
            held = rw (put, turned-row) (held-set s.held turned_entry turned-wide i there);
            long = size ∙ s.long;
            room = s.room;
            indexed = s.indexed;
            names = names_same s.names _ (turn_grown b β es i n o here) (turn-length b β es i n o);
          }

      pub turn-reaches : Reaches entries'' lefts' rights' cells' capacity a.count b β (turn b β es i (entry es i) n o)
      turn-reaches = stands-reaches turn-stands
