use Rattle.directory_writes.proofs.SameChanges.{each_file}
use Rattle.directory_writes.proofs.differing.each_file_law.Goals as goal

pub returns : goal.returns
returns c = each_file
