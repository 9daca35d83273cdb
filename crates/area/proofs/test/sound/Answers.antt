-- `test::sound` meets its contract. A header that is not in order decides; else the words are loaded and tested, and what one
-- test finds is what the next one asks. Assumes nothing.
use Rattle.std.proofs.Common.{rules, ◌≡◌, true, sym, ◌∙◌, T}
use Rattle.std.proofs.Math.Seq.{length-take-le}
use Rattle.model.specs.Term.{acyclic}
use Rattle.theory.proofs.Lists.Laws.{true_T}
use Rattle.layout.specs.limits.Limits.{limits_of}
use Rattle.layout.specs.limits.Rows.{Loaded, book_of, bound_of}
use Rattle.layout.specs.header.Held.{held}
use Rattle.layout.proofs.limits.Modest.{modest}
use Rattle.pairs.specs.Lent.{SameSlices}
use Rattle.pairs.proofs.Rooms.{room_kept}
use Rattle.soundness.specs.sound.Sound.{header_ok, rows_ok}
use Rattle.values.specs.evaluate.Valued.{Valued}
use Rattle.area.proofs.test.Tested.{good-terms, table-known, rows-refused, cycle_refused, table_decides}
use Rattle.area.proofs.test.Whole.{are_bytes_lem, used, room-terms, room-entries, decides, area-read}
use Rattle.area.proofs.test.Cut.{header_refused, header_within, cut_fits, cut-sizes, cut-read}
use Rattle.area.proofs.test.sound.Goals as goal
use Rattle.area.proofs.test.sound.Goals.{Else-not-header_ok, After-load, Then-name_terms, then-rows_ok, else-rows_ok}

-- past the first test the header is in order
in_order : (c : Else-not-header_ok) → T (header_ok (limits_of c.args.lim) c.args.area.now)
in_order c = true_T _ (sym c.header_ok.ensures ∙ c.if-not-header_ok.false)

-- the state that was loaded
abbrev state-at : After-load → Loaded
state-at c = held c.load_header-header.result c.load.new.rows c.load.new.bindings c.load.new.lines c.load.new.entries

-- past the test of the rows and the naming, the rows are in order and the values of the terms are known
named : (c : Then-name_terms) →
    let w = held c.load_header-header.result c.load.new.rows c.load.new.bindings c.load.new.lines c.load.new.entries in
    (rows_ok w ≡ true) × (acyclic (book_of w.term_rows w.terms) (bound_of w.binding_words w.terms) ≡ true) × Valued w.term_rows w.binding_words c.if-rows_ok.list c.if-rows_ok.roots c.if-rows_ok.names w.terms
named c =
    elim c.if-rows_ok.branch [
      | then-rows_ok w ↦
          let yes = sym w.value-is ∙ c.if-name_terms.true in
          (sym c.rows_ok.ensures ∙ w.if-rows_ok.true, sym w.name_terms.ensures.acyclic ∙ yes, rw (w.list-is, w.roots-is, w.names-is) (w.name_terms.ensures.values yes))
      | else-rows_ok w ↦ absurd cc
    ]

-- and the index lends the same slices
same_index : (c : Then-name_terms) → SameSlices c.args.index.now c.if-rows_ok.index
same_index c =
    elim c.if-rows_ok.branch [
      | then-rows_ok w ↦ rw w.index-is w.name_terms.ensures.same_slices
      | else-rows_ok w ↦ rw w.index-is (search rules)
    ]

pub returns-then-not-header_ok-clause-sound : goal.returns-then-not-header_ok-clause-sound
returns-then-not-header_ok-clause-sound c =
    header_refused _ _ (modest c.args.lim) (are_bytes_lem _ c.type_inv.area) (sym c.header_ok.ensures ∙ c.if-not-header_ok.true)

pub load_header-header-requires : goal.load_header-header-requires
load_header-header-requires c = header_within _ _ (in_order c)

pub slice_bounds-table-end : goal.slice_bounds-table-end
slice_bounds-table-end c =
    cut_fits _ _ (in_order (goal.at.slice_bounds-table-end c).Else-not-header_ok) _ c.load_header-header.ensures c.requires.sizes

pub slice_bounds-table-end-2 : goal.slice_bounds-table-end-2
slice_bounds-table-end-2 c =
    sym (length-take-le _ _ (cut_fits _ _ (in_order (goal.at.slice_bounds-table-end-2 c).Else-not-header_ok) _ c.load_header-header.ensures c.requires.sizes))

pub load-requires : goal.load-requires
load-requires c =
    let ok = in_order (goal.at.load-requires c).Else-not-header_ok in
    (ok, cut-sizes _ _ ok _ c.load_header-header.ensures c.requires.sizes)

pub rows_ok-requires : goal.rows_ok-requires
rows_ok-requires c =
    used _ _ (in_order (goal.at.rows_ok-requires c).Else-not-header_ok) _ c.load_header-header.ensures c.load.ensures

pub invariant_of-name_terms : goal.invariant_of-name_terms
invariant_of-name_terms c =
    let ok = in_order (goal.at.invariant_of-name_terms c).Else-not-header_ok in
    record { good = good-terms (state-at (goal.at.invariant_of-name_terms c).After-load) (used _ _ ok _ c.load_header-header.ensures c.load.ensures) (true_T _ (sym c.rows_ok.ensures ∙ c.if-rows_ok.true)) }

pub name_terms-requires : goal.name_terms-requires
name_terms-requires c = room-terms _ _ (in_order (goal.at.name_terms-requires c).Else-not-header_ok) _ c.load_header-header.ensures c.requires.lent

pub table_ok-requires-clause-known : goal.table_ok-requires-clause-known
table_ok-requires-clause-known c =
    let at = goal.at.table_ok-requires-clause-known c in
    let n = named at.Then-name_terms in
    record {
      book = _;
      bound = _;
      known = table-known (state-at at.After-load) (used _ _ (in_order at.Else-not-header_ok) _ c.load_header-header.ensures c.load.ensures) (true_T _ n.0) n.2;
    }

pub table_ok-requires-clause-room : goal.table_ok-requires-clause-room
table_ok-requires-clause-room c =
    let kept = same_index (goal.at.table_ok-requires-clause-room c).Then-name_terms in
    room_kept (room-entries _ _ (in_order (goal.at.table_ok-requires-clause-room c).Else-not-header_ok) _ c.load_header-header.ensures c.requires.lent) kept.lefts_long kept.rights_long kept.cells_long

pub returns-then-name_terms-clause-sound : goal.returns-then-name_terms-clause-sound
returns-then-name_terms-clause-sound c =
    let at = goal.at.returns-then-name_terms-clause-sound c in
    let ok = in_order at.Else-not-header_ok in
    let head = c.load_header-header.ensures in
    let n = named at.Then-name_terms in
    decides _ _ ok _ head c.load.ensures (modest c.args.lim) (are_bytes_lem _ c.type_inv.area)
    (table_decides (state-at at.After-load) n.0 n.1 (c.table_ok.ensures.right _ _ (table-known (state-at at.After-load) (used _ _ ok _ head c.load.ensures) (true_T _ n.0) n.2)))

pub returns-then-name_terms-clause-read : goal.returns-then-name_terms-clause-read
returns-then-name_terms-clause-read c =
    let at = goal.at.returns-then-name_terms-clause-read c in
    let ok = in_order at.Else-not-header_ok in
    let head = c.load_header-header.ensures in
    let n = named at.Then-name_terms in
    let size = c.load.auto.entries ∙ length-take-le _ _ (cut_fits _ _ ok _ head c.requires.sizes) in
    let e = table_decides (state-at at.After-load) n.0 n.1 (c.table_ok.ensures.right _ _ (table-known (state-at at.After-load) (used _ _ ok _ head c.load.ensures) (true_T _ n.0) n.2)) in
    λ h. cut-read _ _ _ head size (area-read _ _ ok _ head c.load.ensures (modest c.args.lim) (are_bytes_lem _ c.type_inv.area) e h n.2) _

pub returns-else-name_terms-clause-sound : goal.returns-else-name_terms-clause-sound
returns-else-name_terms-clause-sound c =
    let at = goal.at.returns-else-name_terms-clause-sound c in
    let w = state-at at.After-load in
    decides _ _ (in_order at.Else-not-header_ok) _ c.load_header-header.ensures c.load.ensures (modest c.args.lim) (are_bytes_lem _ c.type_inv.area)
    (c.if-name_terms.false ∙ elim c.if-rows_ok.branch [
      | then-rows_ok v ↦ cycle_refused w (sym c.rows_ok.ensures ∙ v.if-rows_ok.true) (sym v.name_terms.ensures.acyclic ∙ (sym v.value-is ∙ c.if-name_terms.false))
      | else-rows_ok v ↦ rows-refused w (sym c.rows_ok.ensures ∙ v.if-rows_ok.false)
    ])
