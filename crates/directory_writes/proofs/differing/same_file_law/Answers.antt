use Rattle.directory_writes.proofs.SameChanges.{same_file}
use Rattle.directory_writes.proofs.differing.same_file_law.Goals as goal

pub returns : goal.returns
returns c = same_file
