-- `entry::entry` meets its contract: each return is a case of reading an entry (proofs/entry/EntryCases.antt). Assumes nothing.
use Rattle.std.proofs.Common.{arith, ◌∙◌, ◌<◌}
use Rattle.std.proofs.lemmas.Result.{err_from_is_err_and}
use Rattle.model.specs.Area.{word}
use Rattle.area.proofs.load.Uses.{read-entries, entry-within, entry_row}
use Rattle.office.proofs.read.Headed.{headed}
use Rattle.office.proofs.entry.EntryCases.{entry_seven, entry_eight, entry-there}
use Rattle.office.proofs.entry.entry.Goals as goal
use Rattle.office.proofs.entry.entry.Goals.{Else-h-i}

-- past the test there is such an entry
is-there : (c : Else-h-i) → c.args.i < word c.args.area.now 2
is-there c = omega (arith, c.if-h-i.false, (headed _ _ c.in_ok-h.ensures.1).2)

pub returns-in_err-h : goal.returns-in_err-h
returns-in_err-h c =
    let p = err_from_is_err_and c.from_residual.result c.from_residual.ensures.1 in
    let no = c.in_err-h.ensures in
    let e = entry_seven _ _ _ no.0 in
    rw (p.1, p.2, no.1) (record { refusal = e.0; fields = e.1 })

pub returns-then-h-i : goal.returns-then-h-i
returns-then-h-i c =
    let r = c.in_ok-h.ensures in
    let e = entry_eight _ _ _ r.0 (read-entries r.2.read) (omega (arith, c.if-h-i.true, (headed _ _ r.1).2)) in
    record { refusal = e.0; fields = e.1 }

pub entry_at-requires : goal.entry_at-requires
entry_at-requires c = entry-within _ c.in_ok-h.ensures.2.read _ (is-there (goal.at.entry_at-requires c).Else-h-i)

pub returns : goal.returns
returns c =
    let r = c.in_ok-h.ensures in
    let there = is-there (goal.at.returns c).Else-h-i in
    let e = entry-there _ _ _ r.0 (read-entries r.2.read) there _ (c.entry_at.ensures ∙ entry_row _ r.2.read _ there) in
    record { refusal = e.0; fields = e.1 }
