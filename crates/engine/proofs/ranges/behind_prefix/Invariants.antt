use Rattle.std.proofs.Common.{◌≡◌, length}
use Rattle.engine.specs.Ranges.{prefix_end}
use Rattle.engine.proofs.ranges.behind_prefix.Given as goal

abbrev pub invariant-loop-rest : goal.invariant-loop-rest
invariant-loop-rest l = prefix_end l.rest ≡ prefix_end l.initial.rest

abbrev pub decreases-loop-rest : goal.decreases-loop-rest
decreases-loop-rest l = length l.rest
