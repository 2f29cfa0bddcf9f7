use Rattle.std.specs.Io.Buffered.{reader_remaining}
use Rattle.ikey.specs.Orders.{order_of}
use Rattle.script.specs.Importing.{IsBatch}
use Rattle.script.proofs.Imported.{Carries}
use Rattle.script.proofs.importing.take_lines.Given as goal

-- what was taken so far, and what waits
abbrev pub invariant-loop : goal.invariant-loop
invariant-loop g l = record {
  carries : Carries (order_of g.K.KeyOrder.name g.K.KeyOrder.cmp) g.S.Store.facts l.how l.fn.session l.session
      (reader_remaining g.R.Read.remaining l.fn.input) (reader_remaining g.R.Read.remaining l.input) l.fn.taken l.gathered.operations.items l.taken;
  room : IsBatch l.how.batch l.gathered.operations.items;
}
