use Rattle.table_access.proofs.Walking.{HasCome}
use Rattle.table_access.proofs.memory_cursor.seen_from.Given as goal

abbrev pub invariant-loop : goal.invariant-loop
invariant-loop g l = HasCome g.K.KeyOrder.cmp l.fn.table.inserts l.fn.sequence l.fn.node l.at l.counter
