use Rattle.directory_writes.proofs.SameChanges.{appends_each}
use Rattle.directory_writes.proofs.differing.appends_each_law.Goals as goal

pub returns : goal.returns
returns c = appends_each
