use Rattle.std.proofs.Common.{◌-◌, length}
use Rattle.block.specs.Reading.{pairs_of}
use Rattle.block.proofs.Walks.{Passes}
use Rattle.block.proofs.block_cursor.walk_to_not_below.Given as goal

abbrev pub invariant-loop-at : goal.invariant-loop-at
invariant-loop-at g l = Passes g.O.EntryOrder.below l.target l.body (pairs_of l.body) l.key.items l.at.next

abbrev pub decreases-loop-at : goal.decreases-loop-at
decreases-loop-at g l = length l.body - l.at.next
