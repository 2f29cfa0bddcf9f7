use Rattle.std.proofs.Common.{All}
use Rattle.db_cursor.specs.Scans.{tables_of}
use Rattle.versions.specs.Levels.{HasNumber}
use Rattle.engine.proofs.readers.is_table_read.Given as goal

-- none so far has the table
abbrev pub invariant-loop-scan : goal.invariant-loop-scan
invariant-loop-scan g l = All (λ scan. HasNumber l.number (tables_of scan.now) → ⊥) l.yielded
