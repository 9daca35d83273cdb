-- Reporting an area: what was read of it tells its state, and what is emitted of it is the outcome of the call. Assumes nothing.
use Rattle.std.proofs.Common.{◌≡◌, refl, List, [], true, false, ℕ, ◌*◌, arith, take}
use Rattle.model.specs.Limits.{office}
use Rattle.model.specs.Area.{entry_row_words, word, sound, state_of}
use Rattle.model.specs.Report.{report_bytes}
use Rattle.model.specs.Call.{emit, call_report}
use Rattle.layout.specs.limits.Rows.{Loaded, loaded_state}
use Rattle.layout.proofs.limits.Rows.{length-table_of}
use Rattle.runs.specs.Emits.{Writes}
use Rattle.runs.proofs.Emitted.{tested_seven, tested_written}
use Rattle.area.specs.load.Loading.{header_of}
use Rattle.area.specs.load.Ready.{Ready}
use Rattle.area.proofs.test.Tested.{table-known}
use Rattle.report.specs.write.Shown.{Told}
use Rattle.office.specs.read.Viewed.{Viewed}

-- An area that is not sound.
pub report_seven : (area out : List ℕ) → sound office area ≡ false → Writes (call_report office area out) 7 0 out
unfolding call_report
report_seven area out e = tested_seven _ area out e

-- what is loaded of a state can be reported
ready_told : {w : Loaded} {list roots names : List ℕ} → Ready office w list roots names
    → Told (loaded_state w) names (take w.lines w.line_words) w.entry_rows
unfolding loaded_state
ready_told {w} r =
    let known = (table-known w r.used r.rows r.valued).held.named in
    record {
      held = record {
        limits = office;
        modest = record { terms = omega arith; capacity = omega arith; lines = omega arith };
        sound = r.sound;
        rows_fit = rw length-table_of r.used.entries_fit;
        is-table = rw length-table_of;
      };
      is-lines = refl;
      named = record { names_fit = known.names_fit; is_name = known.is_name };
    }

-- An area that is, and what was read of it.
module _ {area rows names lines entries : List ℕ} (h : Viewed area rows names lines entries) where
  -- they are told with the names
  pub read_told : (n k : ℕ) → n ≡ word area 0 → k ≡ word area 3 → Told (state_of area office) names (take k lines) (take (entry_row_words * n) entries)
  unfolding header_of
  read_told n k e f = rw (e, f, ← h.read.is_state) (ready_told h.read.ready)

  -- and what is emitted of them is the report
  pub written-report : sound office area ≡ true → (out : List ℕ) {refusal written : ℕ} {out' : List ℕ}
      → Writes (emit (report_bytes (state_of area office)) [] out) refusal written out' → Writes (call_report office area out) refusal written out'
  unfolding call_report
  written-report e out w = tested_written _ area out e w
