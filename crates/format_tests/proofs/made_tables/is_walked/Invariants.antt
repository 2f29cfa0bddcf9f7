use Rattle.std.specs.Prelude.{IfSome}
use Rattle.memtable.specs.Places.{IsPlace}
use Rattle.format_tests.proofs.made_tables.is_walked.Given as goal

-- the walk stands at a place
abbrev pub invariant-loop-number : goal.invariant-loop-number
invariant-loop-number l = IfSome l.at (IsPlace l.table.inserts)
