use Rattle.std.proofs.Common.{◌≡◌, ℕ, List, Option, drop}
use Rattle.ikey.specs.Orders.{order_of}
use Rattle.store.specs.Files.{Facts}
use Rattle.tool.specs.Inspecting.{PrintsFiles}
use Rattle.tool.proofs.inspect.print_files.Given as goal

-- what the rest prints completes what all print
abbrev pub invariant-loop-origin : goal.invariant-loop-origin
invariant-loop-origin g l = (new : Facts) (after : Option (List ℕ)) (status : ℕ)
    → PrintsFiles (order_of g.K.KeyOrder.name g.K.KeyOrder.cmp) l.notation (drop l.origin-index l.origins) (g.S.Store.facts l.store) new (g.W.Write.contents l.writer) after status
    → PrintsFiles (order_of g.K.KeyOrder.name g.K.KeyOrder.cmp) l.notation l.origins (g.S.Store.facts l.fn.store) new (g.W.Write.contents l.fn.writer) after status
