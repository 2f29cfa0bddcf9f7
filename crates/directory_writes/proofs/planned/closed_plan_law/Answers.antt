use Rattle.directory_writes.proofs.PlansClosed.{closed_plan}
use Rattle.directory_writes.proofs.planned.closed_plan_law.Goals as goal

pub returns : goal.returns
returns c = closed_plan
