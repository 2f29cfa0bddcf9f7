use Rattle.std.proofs.Common.{◌≡◌, take, sum_by}
use Rattle.memtables.specs.Memories.{operation_bytes}
use Rattle.memtables.proofs.memory_tables.bytes_of.Given as goal

abbrev pub invariant-loop-operation : goal.invariant-loop-operation
invariant-loop-operation l = l.bytes ≡ sum_by operation_bytes (take l.operation-index l.operations)
