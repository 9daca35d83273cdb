-- The tests of a whole table: same-as by the places of names, and all tests together. Assumes nothing.
use Rattle.std.proofs.Common.{◌≡◌, List, ◌&&◌, ℕ, ◌+◌, ◌*◌, ◌-◌, ◌<◌, eqb}
use Rattle.model.specs.Lists.{all}
use Rattle.model.specs.Term.{Book, Bindings}
use Rattle.model.specs.Table.{Table, entry}
use Rattle.model.specs.Area.{entry_row_words}
use Rattle.theory.proofs.Lists.Laws.{all-and}
use Rattle.layout.specs.limits.Rows.{at, table_of}
use Rattle.layout.proofs.limits.Rows.{length-table_of}
use Rattle.soundness.specs.sound.Sound.{values_ok}
use Rattle.soundness.specs.kinds.Known.{Named}
use Rattle.soundness.specs.kinds.KindTests.{kind_right}
use Rattle.soundness.specs.entries.SameAsTest.{same_as_right}
use Rattle.soundness.proofs.distinct.Places.{place_by, entry_of_place_by}
use Rattle.soundness.proofs.kinds.Rows.{entry-same_as, left-term, right-term}

-- same-as is right where it is the place of the entry's names
pub same_as_place : {b : Book} {β : Bindings} {names entries : List ℕ} {m : ℕ} → Named b β names entries m → {i : ℕ} → i < m →
    let es = table_of entries m in
    same_as_right b β es (entry es i) ≡ eqb (at entries (entry_row_words * i + entry_row_words - 1)) (place_by (at names) es i)
unfolding same_as_right
same_as_place {b} {β} {names} {entries} {m} k {i} l =
    let es = table_of entries m in
    let size = length-table_of entries m in
    rw (
      entry_of_place_by (at names) es b β k.is_name (λ j h. left-term k (rw size at h)) (λ j h. right-term k (rw size at h)) i (rw size l),
      entry-same_as entries m i l,
    )

-- the values are right where all kinds and all same-as are
pub table-values : (b : Book) (β : Bindings) (es : Table) → all (values_ok b β es) es ≡ (all (kind_right b β es) es && all (same_as_right b β es) es)
unfolding values_ok kind_right same_as_right
table-values b β es = all-and (kind_right b β es) (same_as_right b β es) es
