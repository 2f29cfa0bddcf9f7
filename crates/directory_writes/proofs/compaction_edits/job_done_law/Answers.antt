use Rattle.directory_writes.proofs.JobsDone.{job_done}
use Rattle.directory_writes.proofs.compaction_edits.job_done_law.Goals as goal

pub returns : goal.returns
returns c = job_done
