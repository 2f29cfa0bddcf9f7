use Rattle.directory_writes.proofs.JobTables.{replaces}
use Rattle.directory_writes.proofs.compaction_edits.replaces_law.Goals as goal

pub returns : goal.returns
returns c = replaces
