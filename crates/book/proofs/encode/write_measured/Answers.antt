-- `write_measured` meets its contract: an output that is too short, or one that the encoder has written to. Assumes nothing.
use Rattle.runs.proofs.Emitted.{emit_short, emit_whole}
use Rattle.book.proofs.encode.write_measured.Goals as goal

pub returns-then-out-bytes : goal.returns-then-out-bytes
returns-then-out-bytes c = emit_short _ _ _ (rw c.requires.2 at c.if-out-bytes.true)

pub returns : goal.returns
returns c =
    let e = c.encode-count.ensures in
    emit_whole _ _ _ (rw c.requires.2 at c.if-out-bytes.false) _ _ e.count e.bytes
