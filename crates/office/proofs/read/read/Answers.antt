-- `read::read` meets its contract: the arrays have the sizes of the limits. Assumes nothing.
use Rattle.std.proofs.Common.{sym, ◌∙◌}
use Rattle.model.specs.Limits.{office}
use Rattle.theory.proofs.Lists.Laws.{true_T}
use Rattle.area.proofs.load.Uses.{sound_header}
use Rattle.area.proofs.test.Cut.{is_header}
use Rattle.office.proofs.read.read.Goals as goal

pub load_header-requires : goal.load_header-requires
load_header-requires c = sound_header office _ (true_T _ (sym c.sound.ensures.sound ∙ c.if-not-sound.false))

pub returns : goal.returns
returns c =
    let w = c.sound.new in (
      sym c.sound.ensures.sound ∙ c.if-not-sound.false,
      is_header _ _ c.load_header.ensures,
      record { bindings = w.bindings; list = w.list; roots = w.roots; read = c.sound.ensures.read c.if-not-sound.false },
    )
