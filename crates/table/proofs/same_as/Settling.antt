-- Setting same-as: after i entries those have it, and the others are as they were. Assumes nothing.
use Rattle.std.proofs.Common.{◌≡◌, ap, sym, ◌∙◌, List, [], ◌∷◌, ◌++◌, append-nil, append_assoc, ℕ, suc, ◌+◌, ◌*◌, ◌≤◌, ◌<◌, add-one, arith, length, take, drop, set, length-append, drop_of_length-le, take_at, take_all, take-suc, drop-cons, length-take-le}
use Rattle.std.proofs.Math.Seq.{paste, set_at, get_or_at}
use Rattle.model.specs.Term.{Book, Bindings}
use Rattle.model.specs.Table.{Entry, Table, hole_at, entry, entry_of, settle}
use Rattle.model.specs.Area.{entry_row_words, entry_words, kind_words}
use Rattle.theory.proofs.Table.Place.{length-settle, entry-settle, entry_of-le}
use Rattle.layout.specs.limits.Rows.{at}
use Rattle.pairs.specs.Pairs.{place_of}
use Rattle.layout.specs.entry.Row.{row_of}
use Rattle.layout.specs.declared.entry.Entry.{Entry as Row}
use Rattle.soundness.proofs.kinds.Names.{entry_of-place}
use Rattle.table.specs.place.Stands.{HoldsTable, Whatever}
use Rattle.table.proofs.place.Held.{held-row, held-set}
use Rattle.table.specs.same_as.Settling.{ToSettle}

-- A row and an entry with another same-as.
abbrev pub resame_row : Row → ℕ → Row
resame_row e k =
    record { left = e.left; right = e.right; kind = e.kind; symbol = e.symbol; count = e.count; arguments = e.arguments; same_as = k }

abbrev resame : Entry → ℕ → Entry
resame x k = record { left = x.left; right = x.right; kind = x.kind; same_as = k }

-- they have the same words where they had
module _ (e : Row) (x : Entry) (k : ℕ) (wide : length (entry_words x) ≡ entry_row_words) where
  resame_wide : length (entry_words (resame x k)) ≡ entry_row_words
  unfolding entry_words
  resame_wide = rw length-append (rw length-append at wide)

  resame_row_lem : row_of e ≡ entry_words x → row_of (resame_row e k) ≡ entry_words (resame x k)
  unfolding row_of entry_words
  resame_row_lem same =
      let before : List ℕ = e.left ∷ e.right ∷ e.kind ∷ e.symbol ∷ e.count ∷ e.arguments in
      let before' : List ℕ = x.left ∷ x.right ∷ kind_words x.kind in
      let long : length before ≡ 13 = omega (arith, simp length-append at (ap length same ∙ wide)) in
      let long' : length before' ≡ 13 = omega (arith, simp length-append at wide) in
      let equal : before ≡ before' =
      sym (take_at before (e.same_as ∷ []) 13 long) ∙ ap (take 13) same ∙ take_at before' (x.same_as ∷ []) 13 long' in
      ap (λ (ws : List ℕ). ws ++ k ∷ []) equal

-- The first i entries of one table, and the others of another.
abbrev mixed : ℕ → Table → Table → Table
mixed i new old = take i new ++ drop i old

module _ (new old : Table) (size : length new ≡ length old) (i : ℕ) (l : i < length old) where
  long : length (take i new) ≡ i
  long = length-take-le i new (omega arith)

  mixed-at : mixed i new old ≡ take i new ++ entry old i ∷ drop (suc i) old
  mixed-at = ap (◌++◌ (take i new)) (drop-cons old i (hole_at 0 0 0) l)

  mixed-entry : entry (mixed i new old) i ≡ entry old i
  mixed-entry = rw mixed-at (get_or_at (take i new) (entry old i) (drop (suc i) old) (hole_at 0 0 0) i long)

  mixed-here : i < length (mixed i new old)
  mixed-here = rw (mixed-at, length-append) (omega (arith, long))

  mixed-set : set (mixed i new old) i (entry new i) ≡ mixed (i + 1) new old
  mixed-set =
      let more : take (i + 1) new ≡ take i new ++ entry new i ∷ [] = rw add-one (take-suc new i (hole_at 0 0 0) (omega arith)) in
      rw (mixed-at, set_at (take i new) (entry old i) (drop (suc i) old) (entry new i) i long, more, add-one)
      (sym (append_assoc (take i new) (entry new i ∷ []) (drop (suc i) old)))

-- What holds at the loop's head.
pub record Settling (entries₀ lefts rights cells : List ℕ) (m : ℕ) (entries : List ℕ) (i : ℕ) : Type 0 where
  pub size : length entries ≡ length entries₀
  pub so_far : Whatever (ToSettle entries₀ lefts rights cells m) (λ b β es. HoldsTable entries (mixed i (settle b β es) es))

-- the search finds same-as
module _ {entries₀ lefts rights cells : List ℕ} {m : ℕ} {b : Book} {β : Bindings} {es : Table}
    (q : ToSettle entries₀ lefts rights cells m b β es) {i f : ℕ} (t : i < m)
    (found : f ≡ place_of lefts rights m (at lefts i) (at rights i)) where
  same_as : f ≡ entry_of b β es (entry es i).left (entry es i).right
  same_as =
      let l : i < length es = omega (arith, q.count) in
      let names = q.is-indexed.names in
      found ∙ rw (names.left-name i l, names.right-name i l, q.count)
      (sym (entry_of-place b β es lefts rights names _ _ (names.left-term i l) (names.right-term i l)))

  pub same_as_word : f < 4294967296
  same_as_word =
      let indexed = q.is-indexed.indexed in
      omega (arith, same_as, entry_of-le b β es (entry es i).left (entry es i).right, q.count, indexed.room.lefts_fit, indexed.room.words)

module _ {entries₀ lefts rights cells : List ℕ} {m : ℕ} {entries : List ℕ} {i : ℕ} (h : Settling entries₀ lefts rights cells m entries i) where
  -- one entry more
  module _ (t : i < m) {f : ℕ} (found : f ≡ place_of lefts rights m (at lefts i) (at rights i)) (e : Row)
      (read : row_of e ≡ take entry_row_words (drop (entry_row_words * i) entries)) {entries' : List ℕ}
      (put : entries' ≡ paste entries (entry_row_words * i) (row_of (resame_row e f)) entry_row_words) where
    settled-more : (b : Book) (β : Bindings) (es : Table) → ToSettle entries₀ lefts rights cells m b β es
        → HoldsTable entries' (mixed (i + 1) (settle b β es) es)
    settled-more b β es q =
        let l : i < length es = omega (arith, q.count) in
        let new = settle b β es in
        let size = length-settle b β es in
        let held = h.so_far b β es q in
        let there = mixed-here new es size i l in
        let old = mixed-entry new es size i l in
        let wide : length (entry_words (entry es i)) ≡ entry_row_words = rw old at (held.wide i there) in
        let is-entry : row_of e ≡ entry_words (entry es i) = rw old at (read ∙ held-row held i there) in
        let new-entry : entry new i ≡ resame (entry es i) f = entry-settle b β es i l ∙ rw (same_as q t found) in
        rw (put, resame_row_lem e (entry es i) f wide is-entry, ← mixed-set new es size i l, new-entry)
        (held-set held (resame (entry es i) f) (resame_wide e (entry es i) f wide) i there)

    pub settling_more : length entries' ≡ length entries → Settling entries₀ lefts rights cells m entries' (i + 1)
    settling_more size = record { size = size ∙ h.size; so_far = settled-more }

  -- all entries have it
  pub settling_all : m ≤ i → Whatever (ToSettle entries₀ lefts rights cells m) (λ b β es. HoldsTable entries (settle b β es))
  settling_all l b β es q =
      let all_new : take i (settle b β es) ≡ settle b β es = take_all i (settle b β es) (omega (arith, length-settle b β es, q.count)) in
      let over : length es ≤ i = omega (arith, q.count) in
      let no_old : drop i es ≡ [] = drop_of_length-le es over in
      rw (all_new, no_old, append-nil) at (h.so_far b β es q)
