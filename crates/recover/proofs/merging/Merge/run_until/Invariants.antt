use Rattle.std.proofs.Common.{◌≡◌}
use Rattle.ikey.specs.Orders.{order_of}
use Rattle.recover.specs.internal.MergeSteps.{HoldsMerge}
use Rattle.recover.proofs.merging.Merge.run_until.Given as goal

-- the tables are in the middle of their reading, and none of them is begun meanwhile
abbrev pub invariant-loop : goal.invariant-loop
invariant-loop g l =
    HoldsMerge (order_of g.K.KeyOrder.name g.K.KeyOrder.cmp) l.against (g.S.Store.facts l.fn.store) (g.S.Store.facts l.store) l.self × (l.self.begun.items ≡ l.fn.self.begun.items)
