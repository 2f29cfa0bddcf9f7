use Rattle.table.proofs.DataBlocks.{AreReadSoFar}
use Rattle.table.specs.Views.{pairs_of}
use Rattle.table.proofs.data.read_all.Given as goal

abbrev pub invariant-loop-place : goal.invariant-loop-place
invariant-loop-place g l = AreReadSoFar g.K.KeyOrder.cmp (g.S.Store.facts l.initial.store) (g.S.Store.facts l.store) l.name l.places l.place-index (pairs_of l.found.items)
