-- `calls::call_step` meets its contract: 7 where the area is not sound; else the step is on the state that is loaded, and kept
-- where it is accepted. Assumes nothing.
use Rattle.std.proofs.Common.{◌≡◌, true, ◌*◌, take, sym, ◌∙◌}
use Rattle.std.proofs.Math.Seq.{length-take-le}
use Rattle.std.proofs.lemmas.Result.{err_from_is_err_and}
use Rattle.model.specs.Area.{entry_row_words, sound}
use Rattle.theory.proofs.Lists.Laws.{true_T}
use Rattle.layout.specs.limits.Limits.{limits_of}
use Rattle.layout.specs.header.Held.{held}
use Rattle.area.specs.load.Ready.{ReadFrom}
use Rattle.area.proofs.load.Uses.{sound_header}
use Rattle.calls.specs.Called.{call_step, Called}
use Rattle.step.specs.answer.Stepped.{answer_of}
use Rattle.calls.proofs.Outcomes.{answer-sized, called_seven, called, stored_fits}
use Rattle.calls.proofs.Loading.{front_fits, front_read}
use Rattle.calls.proofs.call_step.Goals as goal
use Rattle.calls.proofs.call_step.Goals.{Else-not-sound, After-load_header-header, After-keep}

-- past the test the area is sound
is-sound : (c : Else-not-sound) → sound (limits_of c.args.lim) c.args.area.now ≡ true
is-sound c = sym c.sound.ensures.sound ∙ c.if-not-sound.false

-- and its state is loaded
is_read : (c : After-load_header-header) → let w = c.sound.new in
    ReadFrom (limits_of c.args.lim) c.args.area.now (held c.load_header-header.result w.rows w.bindings w.lines (take (entry_row_words * c.load_header-header.result.capacity) w.entries))
    w.list w.roots w.names
is_read c = front_read _ c.load_header-header.ensures (c.sound.ensures.read c.if-not-sound.false)

pub returns-then-not-sound-clause-called : goal.returns-then-not-sound-clause-called
returns-then-not-sound-clause-called c = called_seven _ _ _ (sym c.sound.ensures.sound ∙ c.if-not-sound.true)

pub load_header-header-requires : goal.load_header-header-requires
load_header-header-requires c = sound_header _ _ (true_T _ (is-sound c))

pub slice_bounds-table-end : goal.slice_bounds-table-end
slice_bounds-table-end c = front_fits _ c.load_header-header.ensures (c.sound.ensures.read c.if-not-sound.false)

pub slice_bounds-table-end-2 : goal.slice_bounds-table-end-2
slice_bounds-table-end-2 c = sym (length-take-le _ _ (front_fits _ c.load_header-header.ensures (c.sound.ensures.read c.if-not-sound.false)))

pub take-s-requires-clause-ready : goal.take-s-requires-clause-ready
take-s-requires-clause-ready c = (is_read (goal.at.take-s-requires-clause-ready c).After-load_header-header).ready

pub keep-requires-clause-fits : goal.keep-requires-clause-fits
keep-requires-clause-fits c =
    let at = goal.at.keep-requires-clause-fits c in
    stored_fits _ _ _ (is-sound at.Else-not-sound) (is_read at.After-load_header-header).is_state

pub keep-requires-clause-sized : goal.keep-requires-clause-sized
keep-requires-clause-sized c = answer-sized _ _ _ _ _ c.take-s.ensures.gives

-- what is kept is what the call leaves
kept : (c : After-keep) → sound (limits_of c.args.lim) c.args.area.now ≡ true
    → ReadFrom (limits_of c.args.lim) c.args.area.now (held c.load_header-header.result c.sound.new.rows c.sound.new.bindings c.sound.new.lines (take (entry_row_words * c.load_header-header.result.capacity) c.sound.new.entries))
    c.sound.new.list c.sound.new.roots c.sound.new.names
    → Called (call_step (limits_of c.args.lim) c.args.step c.args.area.now) c.args.step (answer_of c.take-s.result) c.keep.new.area
kept c t read = called _ _ _ _ _ t read.is_state c.take-s.result c.take-s.ensures.gives c.keep.ensures

pub returns-in_err-s-clause-called : goal.returns-in_err-s-clause-called
returns-in_err-s-clause-called c =
    let at = goal.at.returns-in_err-s-clause-called c in
    let p = err_from_is_err_and c.from_residual.result c.from_residual.ensures.1 in
    rw (p.1, p.2) (rw c.in_err-s.was at (kept at.After-keep (is-sound at.Else-not-sound) (is_read at.After-load_header-header)))

pub returns-clause-called : goal.returns-clause-called
returns-clause-called c =
    let at = goal.at.returns-clause-called c in
    rw c.in_ok-s.was at (kept at.After-keep (is-sound at.Else-not-sound) (is_read at.After-load_header-header))
