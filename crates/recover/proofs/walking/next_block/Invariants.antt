use Rattle.recover.proofs.WalkSteps.{HasSkipped}
use Rattle.recover.proofs.walking.next_block.Given as goal

-- the blocks up to this one have no pairs
abbrev pub invariant-loop-index : goal.invariant-loop-index
invariant-loop-index g l = HasSkipped g.K.KeyOrder.cmp (g.S.Store.facts l.initial.store) (g.S.Store.facts l.store) l.table l.next l.index
