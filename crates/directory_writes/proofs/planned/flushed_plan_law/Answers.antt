use Rattle.directory_writes.proofs.PlansKept.{flushed_plan}
use Rattle.directory_writes.proofs.planned.flushed_plan_law.Goals as goal

pub returns : goal.returns
returns c = flushed_plan
