use Rattle.directory_writes.proofs.JobsPut.{job_put}
use Rattle.directory_writes.proofs.compaction_edits.job_put_law.Goals as goal

pub returns : goal.returns
returns c = job_put
