use Rattle.std.proofs.Common.{length, ◌-◌, ◌≤◌, take, List, false}
use Rattle.logfile.specs.Log.{Fragment, AreBlocks}
use Rattle.logfile.proofs.mending.whole_front.Given as goal

-- What stands in front is whole fragments.
abbrev pub invariant-loop-at : goal.invariant-loop-at
invariant-loop-at l = (fragments : List Fragment) × (l.at ≤ length l.bytes) × AreBlocks (take l.at l.bytes) fragments false

abbrev pub decreases-loop-at : goal.decreases-loop-at
decreases-loop-at l = length l.bytes - l.at
