-- `Index::clear` meets its contract: no bucket has a link. Assumes nothing.
use Rattle.std.proofs.Common.{refl}
use Rattle.pairs.proofs.Growth.{indexed-none}
use Rattle.pairs.proofs.Rooms.{room_kept}
use Rattle.pairs.proofs.Index.clear.Goals as goal

pub returns-clause-indexed : goal.returns-clause-indexed
returns-clause-indexed c = indexed-none (room_kept c.requires refl refl c.clear.auto.words) c.args.self.now.cells.now c.clear.ensures
