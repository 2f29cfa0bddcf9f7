use Rattle.std.proofs.Common.{◌≡◌, ◌+◌, length, take}
use Rattle.memtable.specs.Chains.{last_or}
use Rattle.memtable.proofs.Leading.{IsPath}
use Rattle.memtable.proofs.linking.lead.Given as goal

abbrev pub invariant-loop-node : goal.invariant-loop-node
invariant-loop-node l = IsPath l.links 0 (take l.node-index l.nodes) × (l.before ≡ last_or 0 (take l.node-index l.nodes)) × (length l.links ≡ length l.nodes + 1)
