use Rattle.std.proofs.Common.{refl}
use Rattle.memtable.proofs.Leading.{got-last}
use Rattle.memtable.proofs.linking.last_of.Goals as goal

pub returns-in-Some : goal.returns-in-Some
returns-in-Some c = got-last c.args.nodes.now 0 c.in-Some.node.now _ refl c.in-Some.ensures.value
