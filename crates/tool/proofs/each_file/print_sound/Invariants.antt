use Rattle.std.proofs.Common.{ℕ, List, Option, drop}
use Rattle.ikey.specs.Orders.{order_of}
use Rattle.store.specs.Files.{Facts}
use Rattle.tool.specs.EachFile.{PrintsSound}
use Rattle.tool.proofs.each_file.print_sound.Given as goal

-- what the rest prints completes what all print
abbrev pub invariant-loop-origin : goal.invariant-loop-origin
invariant-loop-origin g l = (new : Facts) (after : Option (List ℕ)) (status : ℕ)
    → PrintsSound (order_of g.K.KeyOrder.name g.K.KeyOrder.cmp) l.notation (drop l.origin-index l.origins) l.status (g.S.Store.facts l.store) new (g.W.Write.contents l.writer) after status
    → PrintsSound (order_of g.K.KeyOrder.name g.K.KeyOrder.cmp) l.notation l.origins 0 (g.S.Store.facts l.fn.store) new (g.W.Write.contents l.fn.writer) after status
