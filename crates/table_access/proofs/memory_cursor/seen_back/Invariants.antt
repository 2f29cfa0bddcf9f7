use Rattle.table_access.proofs.Walking.{HasComeBack}
use Rattle.table_access.proofs.memory_cursor.seen_back.Given as goal

abbrev pub invariant-loop : goal.invariant-loop
invariant-loop g l = HasComeBack g.K.KeyOrder.cmp l.fn.table.inserts l.fn.sequence l.fn.node l.at l.counter
