use Rattle.directory_writes.proofs.SameChanges.{one_change}
use Rattle.directory_writes.proofs.differing.one_change_law.Goals as goal

pub returns : goal.returns
returns c = one_change
