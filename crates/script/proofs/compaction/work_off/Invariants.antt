use Rattle.ikey.specs.Orders.{order_of}
use Rattle.script.proofs.Works.{HasWorked}
use Rattle.script.proofs.compaction.work_off.Given as goal

-- each piece so far was answered Worked
abbrev pub invariant-loop : goal.invariant-loop
invariant-loop g l = HasWorked (order_of g.K.KeyOrder.name g.K.KeyOrder.cmp) g.S.Store.facts l.fn.session l.session l.counter
