use Rattle.directory_writes.proofs.JobsPut.{unused_by}
use Rattle.directory_writes.proofs.compaction_edits.unused_law.Goals as goal

pub returns : goal.returns
returns c = unused_by
