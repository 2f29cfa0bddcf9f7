use Rattle.ikey.specs.Orders.{order_of}
use Rattle.recover.specs.internal.MergeSteps.{HoldsMerge}
use Rattle.recover.specs.internal.Waiting.{AreBegun}
use Rattle.recover.proofs.merging.Merge.begin_all.Given as goal

-- the tables in front were begun, and the merge is in the middle of its reading
abbrev pub invariant-loop-next : goal.invariant-loop-next
invariant-loop-next g l = record {
  holds : HoldsMerge (order_of g.K.KeyOrder.name g.K.KeyOrder.cmp) l.against (g.S.Store.facts l.fn.store) (g.S.Store.facts l.store) l.self;
  begun : AreBegun l.waiting l.next-index l.self.begun.items;
}
