use Rattle.directory_writes.proofs.JobsEach.{job_writes_each}
use Rattle.directory_writes.proofs.job_writes.job_writes_each_law.Goals as goal

pub returns : goal.returns
returns c = job_writes_each
