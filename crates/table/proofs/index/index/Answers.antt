-- `index::index` meets its contract: the sides of the entry are terms, and its names are indexed behind the others. Assumes nothing.
use Rattle.std.proofs.Common.{refl, arith, rules}
use Rattle.table.proofs.index.Indexing.{indexing_none, left_lt, right_lt, next-room, indexing_more, indexing_all}
use Rattle.table.proofs.visit.Sizes.{index_sizes}
use Rattle.table.proofs.index.index.Goals as goal

pub loop-i-init : goal.loop-i-init
loop-i-init c =
    let s = c.clear.ensures.same_slices in record { indexing = indexing_none c.clear.ensures.indexed (index_sizes refl s); same = s }

pub bounds-names-e : goal.bounds-names-e
bounds-names-e c =
    let q = c.requires.known in omega (arith, left_lt q c.loop-i-test.true _ c.entry_at-e.ensures, q.known.names_fit)

pub bounds-names-e-in-loop-i : goal.bounds-names-e-in-loop-i
bounds-names-e-in-loop-i c =
    let q = c.requires.known in omega (arith, right_lt q c.loop-i-test.true _ c.entry_at-e.ensures, q.known.names_fit)

pub push-requires-clause-indexed : goal.push-requires-clause-indexed
push-requires-clause-indexed c = (next-room c.loop-i.invariant.indexing c.requires.known c.loop-i-test.true).0

pub loop-i-preserved : goal.loop-i-preserved
loop-i-preserved c =
    record {
      indexing =
          indexing_more c.loop-i.invariant.indexing c.loop-i-test.true _ c.entry_at-e.ensures c.push.ensures.pushed
          (index_sizes refl c.push.ensures.same_slices);
      same = search rules;
    }

pub returns-clause-indexed : goal.returns-clause-indexed
returns-clause-indexed c = indexing_all c.loop-i.invariant.indexing c.loop-i-test.false
