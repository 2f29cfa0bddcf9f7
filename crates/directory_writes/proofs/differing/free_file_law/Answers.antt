use Rattle.directory_writes.proofs.SameChanges.{free_file}
use Rattle.directory_writes.proofs.differing.free_file_law.Goals as goal

pub returns : goal.returns
returns c = free_file
