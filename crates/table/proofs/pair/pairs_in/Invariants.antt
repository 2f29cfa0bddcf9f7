use Rattle.std.proofs.Common.{◌-◌, length}
use Rattle.table.proofs.Walks.{IsWalked}
use Rattle.table.specs.Views.{pairs_of}
use Rattle.table.proofs.pair.pairs_in.Given as goal

abbrev pub decreases-loop-alloc : goal.decreases-loop-alloc
decreases-loop-alloc g l = length l.cursor.pairs - length l.found.items

abbrev pub invariant-loop-alloc : goal.invariant-loop-alloc
invariant-loop-alloc g l = IsWalked l.initial.cursor.pairs l.cursor (pairs_of l.found.items)
