use Rattle.std.specs.Prelude.{IfSome}
use Rattle.memtable.specs.Places.{IsPlace}
use Rattle.format_tests.proofs.own_orders.is_walked.Given as goal

-- the walk stands at a place
abbrev pub invariant-loop-key : goal.invariant-loop-key
invariant-loop-key l = IfSome l.at (IsPlace l.table.inserts)
