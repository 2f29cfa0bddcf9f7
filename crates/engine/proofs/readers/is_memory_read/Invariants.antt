use Rattle.std.proofs.Common.{All}
use Rattle.db_cursor.specs.Scans.{reads_memory}
use Rattle.engine.proofs.readers.is_memory_read.Given as goal

-- none so far reads the memtable
abbrev pub invariant-loop-scan : goal.invariant-loop-scan
invariant-loop-scan g l = All (λ scan. reads_memory scan.now l.generation → ⊥) l.yielded
