use Rattle.std.proofs.Common.{◌≡◌, take}
use Rattle.memtable.specs.Levels.{quarter}
use Rattle.memtable.proofs.linking.quarter_of.Given as goal

abbrev pub invariant-loop-node : goal.invariant-loop-node
invariant-loop-node l = l.upper.items ≡ quarter (take l.node-index l.nodes)
