-- What adding a line answers, test by test, and the words that an accepted line leaves. Assumes nothing.
use Rattle.std.proofs.Common.{◌≡◌, refl, ◌∙◌, List, [], ◌∷◌, ℕ, ◌+◌, ◌*◌, ◌≤◌, ◌<◌, arith, lt-ltb, le-ltb, le-leb, leb, length, set, length-append, length-set, suc, Ok, Err}
use borrow.Author.Tests.{lt-leb}
use Rattle.model.specs.Limits.{Limits}
use Rattle.model.specs.Step.{State, refused, accepted, require, saturate, add_line}
use Rattle.model.specs.Area.{entry_row_words}
use Rattle.theory.proofs.Steps.Answers.{line-entry, line-table, line-state}
use Rattle.layout.specs.limits.Rows.{Loaded, Sized, loaded_state}
use Rattle.layout.specs.declared.header.Header.{Header}
use Rattle.layout.specs.header.Held.{held}
use Rattle.soundness.proofs.sound.Parts.{Holds}
use Rattle.pairs.specs.Index.{Room}
use Rattle.area.specs.load.Ready.{Ready}
use Rattle.area.proofs.load.Uses.{ready_facts, ready-sized, ready-holds}
use Rattle.refusal.specs.declared.Refusal.{Refusal}
use Rattle.refusal.specs.declared.Refusal.TheVariants.{NamesNothing, TooManyLines}
use Rattle.refusal.specs.Numbers.{number_of}
use Rattle.model.specs.Table.{place, walk}
use Rattle.table.specs.place.Stands.{HoldsTable, IsFull, GivenTable, Whatever}
use Rattle.table.specs.declared.place.Placed.{Placed}
use Rattle.table.proofs.visit.Lists.{padded-set}
use Rattle.table.proofs.place.Placing.{few-entries}
use Rattle.step.specs.declared.answer.Step.TheVariants.{Add}
use Rattle.step.specs.declared.answer.Accepted.TheVariants.{Added}
use Rattle.step.specs.answer.Stepped.{step_numbers, accepted_as, Leaves}
use Rattle.step.proofs.answer.Tables.{ready-known, to_index}
use Rattle.step.proofs.answer.Leaving.{table-words, leaves, gives_refused, gives_accepted}
use Rattle.step.specs.grow.Growing.{ToGrow, Grows}
use Rattle.step.specs.add_line.Adding.{GivenBindings, AddsLine}

-- the tests in their order
module _ (lim : Limits) (s : State) (l r : ℕ) where
  no_left : length s.book ≤ l → add_line lim s l r ≡ refused 8
  unfolding add_line require
  no_left h = rw (le-ltb l (length s.book) h)

  module _ (left : l < length s.book) where
    no_right : length s.book ≤ r → add_line lim s l r ≡ refused 8
    unfolding add_line require
    no_right h = rw (lt-ltb l (length s.book) left, le-ltb r (length s.book) h)

    module _ (right : r < length s.book) where
      no_line : lim.max_lines ≤ length s.lines → add_line lim s l r ≡ refused 12
      unfolding add_line require
      no_line h = rw (lt-ltb l (length s.book) left, lt-ltb r (length s.book) right, le-ltb (length s.lines) lim.max_lines h)

      module _ (room : length s.lines < lim.max_lines) where
        past : add_line lim s l r ≡ require (leb (length (line-table s l r)) s.capacity) 11 (accepted (line-entry s l r ∷ []) (line-state s l r))
        unfolding add_line require saturate
        past =
            rw (
              lt-ltb l (length s.book) left,
              lt-ltb r (length s.book) right,
              lt-ltb (length s.lines) lim.max_lines room,
            )

        no_entries : s.capacity < length (line-table s l r) → add_line lim s l r ≡ refused 11
        unfolding require
        no_entries h = past ∙ rw (lt-leb (length (line-table s l r)) s.capacity h)

        taken : length (line-table s l r) ≤ s.capacity → add_line lim s l r ≡ accepted (line-entry s l r ∷ []) (line-state s l r)
        unfolding require
        taken h = past ∙ rw (le-leb (length (line-table s l r)) s.capacity h)

-- the words after an accepted line, part by part
line_leaves : {lim : Limits} {w : Loaded} {s : State} → Sized lim w → Holds lim w s → (l r i m : ℕ) {entries : List ℕ} → length s.lines < lim.max_lines
    → i ≡ line-entry s l r → m ≡ length (line-table s l r) → HoldsTable entries (line-table s l r) → length entries ≡ entry_row_words * w.capacity
    → Leaves lim (line-state s l r)
    (record {
      capacity = w.capacity;
      terms = w.terms;
      entries = m;
      lines = w.lines + 1;
      term_rows = w.term_rows;
      binding_words = w.binding_words;
      line_words = set w.line_words w.lines i;
      entry_rows = entries;
    })
line_leaves {lim} {w} {s} z h l r i m room is-entry is-count table long =
    leaves
    (record {
      terms-long = z.terms-long;
      bindings-long = z.bindings-long;
      lines_long = length-set w.line_words w.lines i ∙ z.lines_long;
      entries-long = long;
    })
    (record {
      the_capacity = h.the_capacity;
      terms-count = h.terms-count;
      entries-count = is-count;
      lines-count = rw (length-append, h.lines-count);
      term_words = h.term_words;
      binding_words = h.binding_words;
      line-words = rw (h.line-words, h.lines-count, is-entry) (padded-set lim.max_lines s.lines (line-entry s l r) room);
      entry-words = table-words s.capacity table (rw (← h.the_capacity) long);
    })

-- A loaded state.
module _ {lim : Limits} {h : Header} {rows roots names lines entries : List ℕ} where
  -- a refusal, where the line is refused by it whatever the bindings are
  line_refused : (e : Refusal) (l r : ℕ) (lines' entries' : List ℕ)
      → ((bindings list : List ℕ) → let w = held h rows bindings lines entries in
      Ready lim w list roots names → add_line lim (loaded_state w) l r ≡ refused (number_of e))
      → AddsLine lim h rows roots names lines entries l r (Err e) lines' entries'
  line_refused e l r lines' entries' f bindings list q = gives_refused lim _ (Add l r) e (f bindings list q)

  module _ (l r : ℕ) (lines' entries' : List ℕ) where
    -- no term
    pub left-refused : h.terms ≤ l → AddsLine lim h rows roots names lines entries l r (Err NamesNothing) lines' entries'
    left-refused n = line_refused NamesNothing l r lines' entries' (λ bindings list q. no_left lim _ l r (rw (ready-holds q).terms-count at n))

    pub right-refused : l < h.terms → h.terms ≤ r → AddsLine lim h rows roots names lines entries l r (Err NamesNothing) lines' entries'
    right-refused left n =
        line_refused NamesNothing l r lines' entries'
        (λ bindings list q.
        let k = (ready-holds q).terms-count in no_right lim _ l r (rw k at left) (rw k at n))

    -- no room for a line
    pub lines-refused : l < h.terms → r < h.terms → lim.max_lines ≤ h.lines
        → AddsLine lim h rows roots names lines entries l r (Err TooManyLines) lines' entries'
    lines-refused left right n =
        line_refused TooManyLines l r lines' entries'
        (λ bindings list q.
        let k = ready-holds q in no_line lim _ l r (rw k.terms-count at left) (rw k.terms-count at right) (rw k.lines-count at n))

  -- what growing its table asks
  module _ {lefts rights cells : List ℕ} (room : Room lefts rights cells h.capacity) {l r : ℕ} (left : l < h.terms) (right : r < h.terms) where
    to_grow : {bindings list : List ℕ} → Ready lim (held h rows bindings lines entries) list roots names →
        let s = loaded_state (held h rows bindings lines entries) in
        ToGrow rows roots names entries lefts rights cells h.capacity h.entries l r s.book s.bound s.entries
    to_grow q =
        let known = ready-known q in
        let k = (ready-holds q).terms-count in
        record {
          known = known;
          to_index = to_index (ready_facts q) (ready-holds q) known.held.named room;
          long = q.sizes.entries_size;
          room = room;
          left-term = rw k at left;
          right-term = rw k at right;
        }

    pub grow_given : GivenBindings lim h rows roots names lines entries
        → GivenTable (ToGrow rows roots names entries lefts rights cells h.capacity h.entries l r)
    grow_given g =
        let s = loaded_state (held h rows g.bindings lines entries) in
        record { book = s.book; bound = s.bound; table = s.entries; known = to_grow g.ready }

    module _ (some-line : h.lines < lim.max_lines) where
      -- it needs more entries than the capacity
      pub full_refused : {e : Refusal}
          → Whatever (ToGrow rows roots names entries lefts rights cells h.capacity h.entries l r)
          (λ b β es. IsFull h.capacity e (walk b β (suc h.capacity) 0 (place b β es l r)))
          → (lines' entries' : List ℕ) → AddsLine lim h rows roots names lines entries l r (Err e) lines' entries'
      unfolding loaded_state
      full_refused {e} over lines' entries' bindings list q =
          let g = to_grow q in
          let is = over _ _ _ g in
          gives_refused lim _ (Add l r) e
          (rw is.full
          (no_entries lim (loaded_state (held h rows bindings lines entries)) l r g.left-term g.right-term (omega (arith, (ready-holds q).lines-count)) is.beyond))

      module _ {p : Placed} {entries' lefts' rights' cells' : List ℕ}
          (grown : Whatever (ToGrow rows roots names entries lefts rights cells h.capacity h.entries l r)
          (Grows entries' lefts' rights' cells' h.capacity l r p)) where
        -- its entries are counted in a word
        pub count_fits : GivenBindings lim h rows roots names lines entries → p.count ≤ h.capacity
        count_fits g = few-entries (grown _ _ _ (to_grow g.ready)).reaches.stands

        -- it is added
        pub line_added : AddsLine lim h rows roots names lines entries l r
            (Ok (record { accepted = Added p.entry; entries = p.count; lines = h.lines + 1 })) (set lines h.lines p.entry) entries'
        unfolding loaded_state accepted_as step_numbers
        line_added bindings list q =
            let w = held h rows bindings lines entries in
            let s = loaded_state w in
            let k = ready-holds q in
            let g = to_grow q in
            let done = grown _ _ _ g in
            let stood = done.reaches.stands in
            let some : length s.lines < lim.max_lines = omega (arith, k.lines-count) in
            rw done.its_entry
            (gives_accepted (Add l r) (taken lim s l r g.left-term g.right-term some done.reaches.within) refl
            (line_leaves (ready-sized q) k l r (line-entry s l r) p.count some refl stood.count stood.held stood.long))
