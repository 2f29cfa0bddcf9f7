use Rattle.directory_writes.proofs.JobsPut.{job_apart}
use Rattle.directory_writes.proofs.compaction_edits.job_apart_law.Goals as goal

pub returns : goal.returns
returns c = job_apart
