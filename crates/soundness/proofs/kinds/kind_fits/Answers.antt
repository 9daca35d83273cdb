-- `kinds::kind_fits`: each return follows the tests that lead there. Assumes nothing.
use Rattle.std.proofs.Common.{◌≡◌, ◌+◌, ◌*◌, true, sym, ◌∙◌, arith}
use Rattle.std.proofs.lemmas.Bool.{eq-eqb, ne_eqb}
use Rattle.model.specs.Term.{alike}
use Rattle.model.specs.Area.{entry_row_words}
use Rattle.layout.specs.limits.Rows.{at, node_of}
use Rattle.layout.proofs.limits.Symbols.{left-applied}
use Rattle.soundness.proofs.kinds.Rows.{entry-kind, is-kind, is-symbol, few, are_arguments}
use Rattle.soundness.proofs.kinds.EntryKind.{unlike_kind, hole-kind, common-kind, arguments-known}
use Rattle.soundness.proofs.kinds.kind_fits.Goals as goal
use Rattle.soundness.proofs.kinds.kind_fits.Goals.{After-entry_at-e, Else-not-alike, then-e-eq0-via-then-e-eq0, then-e-eq0-via-else-e-eq0+then-e-rows}

-- the kind of the entry
kind : (c : After-entry_at-e) → let a = c.args in c.entry_at-e.result.kind ≡ at a.entries.now (entry_row_words * a.i + 2)
kind c = is-kind c.requires.known.known.0.named c.requires.there _ c.entry_at-e.ensures

-- the terms are alike
are_alike : (c : Else-not-alike) → let a = c.args in alike (node_of a.rows.now a.l) (node_of a.rows.now a.r) ≡ true
are_alike c = sym c.alike.ensures ∙ c.if-not-alike.false

pub returns-then-not-alike : goal.returns-then-not-alike
returns-then-not-alike c b β k =
    rw (entry-kind _ _ _ c.requires.there, kind (goal.at.returns-then-not-alike c).After-entry_at-e)
    (unlike_kind b β _ _ _ _ _ _ (sym c.alike.ensures ∙ c.if-not-alike.true))

pub overflow_sub-rows : goal.overflow_sub-rows
overflow_sub-rows c =
    let applied = left-applied _ _ _ (are_alike (goal.at.overflow_sub-rows c).Else-not-alike) in omega arith

pub returns-then-e-eq0 : goal.returns-then-e-eq0
returns-then-e-eq0 c b β k =
    let n = c.requires.known.known.0.named in
    let l = c.requires.there in
    let at-kind = kind (goal.at.returns-then-e-eq0 c).After-entry_at-e in
    let e = are_alike (goal.at.returns-then-e-eq0 c).Else-not-alike in
    let symbol = is-symbol n l _ c.entry_at-e.ensures in
    rw (entry-kind _ _ _ l)
    (elim c.then-e-eq0.branch [
      | then-e-eq0-via-then-e-eq0 w ↦ hole-kind b β _ _ _ _ _ _ e (sym at-kind ∙ w.if-e-eq0.true)
      | then-e-eq0-via-else-e-eq0+then-e-rows w ↦
          sym (common-kind b β _ _ _ _ _ _ e (λ z. w.if-e-eq0.false (at-kind ∙ z)) ∙ rw (ne_eqb _ _ (rw symbol at w.if-e-rows.true)))
    ])

pub shared_ref_as_front-arguments_ok : goal.shared_ref_as_front-arguments_ok
shared_ref_as_front-arguments_ok c = few c.requires.known.known.0.named c.requires.there _ c.entry_at-e.ensures

pub arguments_ok-requires : goal.arguments_ok-requires
arguments_ok-requires c =
    let g = c.requires.known in
    let e = are_alike (goal.at.arguments_ok-requires c).Else-not-alike in
    record {
      book = g.book;
      bound = g.bound;
      known = arguments-known g.known.0 _ _ g.known.1 g.known.2 e c.arguments_of.ensures c.arguments_of-2.ensures;
    }

pub returns : goal.returns
returns c b β k =
    let n = c.requires.known.known.0.named in
    let l = c.requires.there in
    let at-kind = kind (goal.at.returns c).After-entry_at-e in
    let e = are_alike (goal.at.returns c).Else-not-alike in
    let symbol = is-symbol n l _ c.entry_at-e.ensures in
    let known = arguments-known k.0 _ _ k.1 k.2 e c.arguments_of.ensures c.arguments_of-2.ensures in
    rw (entry-kind _ _ _ l)
    (c.arguments_ok.ensures b β known
    ∙ rw (are_arguments n l _ c.entry_at-e.ensures, c.arguments_of.ensures, c.arguments_of-2.ensures)
    (sym (common-kind b β _ _ _ _ _ _ e (λ z. c.if-e-eq0.false (at-kind ∙ z)) ∙ rw (eq-eqb _ _ (rw symbol at c.if-e-rows.false)))))
