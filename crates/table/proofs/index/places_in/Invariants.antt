use Rattle.std.proofs.Common.{◌-◌, length}
use Rattle.table.proofs.Indexes.{ArePlaced}
use Rattle.table.proofs.index.places_in.Given as goal

abbrev pub decreases-loop-alloc : goal.decreases-loop-alloc
decreases-loop-alloc g l = length l.cursor.pairs - length l.places.items

abbrev pub invariant-loop-alloc : goal.invariant-loop-alloc
invariant-loop-alloc g l = ArePlaced l.initial.cursor.pairs l.cursor l.places.items
