use Rattle.directory_writes.proofs.JobsDeep.{deep}
use Rattle.directory_writes.proofs.compaction_edits.deep_law.Goals as goal

pub returns : goal.returns
returns c = deep
