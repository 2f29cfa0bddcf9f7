use Rattle.std.proofs.Common.{◌-◌}
use Rattle.block.proofs.Keeping.{WalksBack}
use Rattle.block.proofs.block_cursor.walk_back.Given as goal

abbrev pub invariant-loop-at : goal.invariant-loop-at
invariant-loop-at l = WalksBack l.body l.end l.keys.items l.key l.at l.passed.items

abbrev pub decreases-loop-at : goal.decreases-loop-at
decreases-loop-at l = l.end - l.at.next
