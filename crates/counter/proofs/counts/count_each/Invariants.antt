use Rattle.ikey.specs.Orders.{order_of}
use Rattle.engine.specs.StandsDb.{FollowsDb}
use Rattle.counter.proofs.Counting.{Counted}
use Rattle.counter.proofs.counts.count_each.Given as goal

abbrev pub invariant-loop-index : goal.invariant-loop-index
invariant-loop-index g l = FollowsDb (order_of g.K.KeyOrder.name g.K.KeyOrder.cmp) g.S.Store.facts l.initial.db l.db (Counted l.names l.index)
