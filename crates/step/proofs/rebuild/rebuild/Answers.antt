-- `rebuild::rebuild` meets its contract: the terms have names, so the table is indexed by them, and then walked through. Assumes
-- nothing.
use Rattle.std.proofs.Common.{refl, ◌∙◌}
use Rattle.std.proofs.lemmas.Bool.{false≢true}
use Rattle.theory.proofs.Lists.Laws.{T_true}
use Rattle.table.proofs.visit.Sizes.{index_sizes}
use Rattle.step.proofs.rebuild.Rebuilt.{to_index, to_walk}
use Rattle.values.specs.evaluate.Valued.{Valued}
use Rattle.step.proofs.rebuild.rebuild.Goals as goal
use Rattle.step.proofs.rebuild.rebuild.Goals.{Else-not-name_terms}

-- the terms have names
valued : (c : Else-not-name_terms) → Valued c.args.terms.rows.now c.args.terms.bindings.now c.name_terms.new.list c.name_terms.new.roots c.name_terms.new.names c.args.h.terms
valued c = rw c.requires.terms at (c.name_terms.ensures.values c.if-not-name_terms.false)

pub name_terms-requires : goal.name_terms-requires
name_terms-requires c = rw c.requires.terms c.requires.table.for_terms

pub returns-then-not-name_terms-clause-settled : goal.returns-then-not-name_terms-clause-settled
returns-then-not-name_terms-clause-settled c =
    absurd (false≢true (c.if-not-name_terms.ensures.acyclic ∙ rw c.requires.terms (T_true _ c.requires.table.no_cycle)))

pub index-requires : goal.index-requires
index-requires c =
    record {
      book = _;
      bound = _;
      table = _;
      known = to_index c.requires.table (valued (goal.at.index-requires c).Else-not-name_terms) (index_sizes refl c.name_terms.ensures.same_slices);
    }

pub walk_and_settle-requires : goal.walk_and_settle-requires
walk_and_settle-requires c =
    record {
      book = _;
      bound = _;
      table = _;
      known = to_walk c.requires.table (valued (goal.at.walk_and_settle-requires c).Else-not-name_terms) (index_sizes refl c.name_terms.ensures.same_slices)
          (index_sizes refl c.index.ensures.same_slices) c.index.ensures.indexed;
    }

pub returns-clause-settled : goal.returns-clause-settled
returns-clause-settled c =
    c.walk_and_settle.ensures.settled _ _ _
    (to_walk c.requires.table (valued (goal.at.returns-clause-settled c).Else-not-name_terms) (index_sizes refl c.name_terms.ensures.same_slices)
    (index_sizes refl c.index.ensures.same_slices) c.index.ensures.indexed)
