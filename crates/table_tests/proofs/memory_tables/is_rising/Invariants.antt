use Rattle.std.specs.Prelude.{IfSome}
use Rattle.memtable.specs.Places.{IsPlace}
use Rattle.table_tests.proofs.memory_tables.is_rising.Given as goal

-- the walk stands at a place
abbrev pub invariant-loop-i : goal.invariant-loop-i
invariant-loop-i l = IfSome l.at (IsPlace l.table.inserts)
