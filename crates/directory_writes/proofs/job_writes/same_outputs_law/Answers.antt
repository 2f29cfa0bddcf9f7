use Rattle.directory_writes.proofs.JobsEach.{same_outputs}
use Rattle.directory_writes.proofs.job_writes.same_outputs_law.Goals as goal

pub returns : goal.returns
returns c = same_outputs
