use Rattle.directory_writes.proofs.JobsEach.{merging_each}
use Rattle.directory_writes.proofs.job_writes.merging_each_law.Goals as goal

pub returns : goal.returns
returns c = merging_each
