use Rattle.table.proofs.Seeks.{AreSoughtSoFar}
use Rattle.table.proofs.seeking.seek_from.Given as goal

abbrev pub invariant-loop-place : goal.invariant-loop-place
invariant-loop-place g l = AreSoughtSoFar g.K.KeyOrder.cmp l.target (g.S.Store.facts l.initial.store) (g.S.Store.facts l.store) l.name l.places l.place-index
