use Rattle.std.specs.Prelude.{List}
use Rattle.std.specs.List.{AllByRecursion}
use Rattle.ikey.specs.Entries.{Pair}
use Rattle.table.specs.Checking.{IsAdmitted}
use Rattle.table.proofs.Walks.{IsWalked, left_at}
use Rattle.table.proofs.checking.are_admitted.Given as goal

-- the pairs before the cursor are admitted
abbrev pub invariant-loop-cursor : goal.invariant-loop-cursor
invariant-loop-cursor g l = (found : List Pair) × IsWalked l.initial.cursor.pairs l.cursor found × AllByRecursion (IsAdmitted l.filter l.offset) found

abbrev pub decreases-loop-cursor : goal.decreases-loop-cursor
decreases-loop-cursor g l = left_at l.cursor.pairs l.cursor.place
