use Rattle.directory_writes.proofs.SameChanges.{free_each}
use Rattle.directory_writes.proofs.differing.free_each_law.Goals as goal

pub returns : goal.returns
returns c = free_each
