use Rattle.directory_writes.proofs.SameChanges.{same_change}
use Rattle.directory_writes.proofs.differing.same_change_law.Goals as goal

pub returns : goal.returns
returns c = same_change
