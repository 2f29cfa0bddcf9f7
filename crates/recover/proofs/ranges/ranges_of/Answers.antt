use Rattle.ikey.specs.Orders.{order_of}
use Rattle.recover.proofs.KeyRanges.{range_more, range_at}
use Rattle.recover.proofs.ranges.ranges_of.Goals as goal

pub returns-in_default : goal.returns-in_default
returns-in_default g c = λ h.
    c.in_default.ensures (range_at (order_of g.K.KeyOrder.name g.K.KeyOrder.cmp) c.args.tables.now c.loop-placed.placed-index c.placed-item.result c.loop-placed-test.true c.placed-item.is h)

pub loop-placed-preserved : goal.loop-placed-preserved
loop-placed-preserved g c =
    rw c.in_ok-push.ensures.items (range_more (order_of g.K.KeyOrder.name g.K.KeyOrder.cmp) c.args.tables.now c.loop-placed.ranges.items c.loop-placed.placed-index c.placed-item.result c.in-Some.range
    c.loop-placed-test.true c.placed-item.is c.in-Some.ensures c.loop-placed.invariant)
