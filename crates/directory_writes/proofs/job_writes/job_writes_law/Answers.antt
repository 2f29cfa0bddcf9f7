use Rattle.directory_writes.proofs.JobWritten.{job_writes}
use Rattle.directory_writes.proofs.job_writes.job_writes_law.Goals as goal

pub returns : goal.returns
returns c = job_writes
