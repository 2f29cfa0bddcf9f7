use Rattle.ikey.specs.Orders.{order_of}
use Rattle.recover.specs.internal.Merging.{IsLeastOf}
use Rattle.recover.proofs.merging.least.Given as goal

-- of the lanes before this one it is the best
abbrev pub invariant-loop-index : goal.invariant-loop-index
invariant-loop-index g l = IsLeastOf (order_of g.K.KeyOrder.name g.K.KeyOrder.cmp) l.lanes l.index l.best
