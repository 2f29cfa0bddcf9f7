use Rattle.directory_writes.proofs.JobOutputs.{outputs_are}
use Rattle.directory_writes.proofs.compaction_edits.outputs_law.Goals as goal

pub returns : goal.returns
returns c = outputs_are
