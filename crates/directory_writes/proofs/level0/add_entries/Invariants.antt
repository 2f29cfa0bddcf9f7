use Rattle.directory_writes.proofs.Filled.{HasAdded}
use Rattle.directory_writes.proofs.level0.add_entries.Given as goal

abbrev pub invariant-loop : goal.invariant-loop
invariant-loop g l = HasAdded g.K.KeyOrder.cmp l.fn.memory.inserts l.fn.builder (g.S.Store.facts l.fn.store) l.builder (g.S.Store.facts l.store) l.at l.counter
