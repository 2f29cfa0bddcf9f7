use Rattle.std.proofs.Common.{take}
use Rattle.ikey.specs.Orders.{order_of}
use Rattle.recover.specs.internal.RangeOrder.{AreRangesOf}
use Rattle.recover.proofs.ranges.ranges_of.Given as goal

abbrev pub invariant-loop-placed : goal.invariant-loop-placed
invariant-loop-placed g l = AreRangesOf (order_of g.K.KeyOrder.name g.K.KeyOrder.cmp) (take l.placed-index l.tables) l.ranges.items
