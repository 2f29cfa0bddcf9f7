use Rattle.directory_writes.proofs.JobWritten.{free_number}
use Rattle.directory_writes.proofs.job_writes.free_number_law.Goals as goal

pub returns : goal.returns
returns c = free_number
