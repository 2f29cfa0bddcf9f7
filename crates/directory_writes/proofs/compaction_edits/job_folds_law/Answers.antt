use Rattle.directory_writes.proofs.JobFolds.{job_folds}
use Rattle.directory_writes.proofs.compaction_edits.job_folds_law.Goals as goal

pub returns : goal.returns
returns c = job_folds
