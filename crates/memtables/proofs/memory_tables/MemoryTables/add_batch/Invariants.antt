use Rattle.std.proofs.Common.{◌≡◌, ◌+◌, take, drop}
use Rattle.memtables.specs.Changes.{HasMoreEntries}
use Rattle.memtables.specs.Memories.{HasRoom}
use Rattle.recover.specs.Entries.{entries_of}
use Rattle.memtables.proofs.memory_tables.MemoryTables.add_batch.Given as goal

abbrev pub invariant-loop-operation : goal.invariant-loop-operation
invariant-loop-operation g l =
    HasMoreEntries l.fn.self l.self (entries_of (l.fn.self.last + 1) (take l.operation-index l.operations))
    × (l.self.last ≡ l.fn.self.last + l.operation-index)
    × HasRoom l.self (drop l.operation-index l.operations)
