-- The first numbers of the list are put behind the first (proofs/text/Lines.antt, `Some`).
use Rattle.session.proofs.text.Lines.{Some}
use Rattle.session.proofs.text.put_line.Given as goal

abbrev pub invariant-loop-n : goal.invariant-loop-n
invariant-loop-n l = Some l.initial.line l.others l.line l.n-index
