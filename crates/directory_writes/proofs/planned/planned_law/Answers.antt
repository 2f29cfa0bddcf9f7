use Rattle.directory_writes.proofs.PlansMade.{planned_by}
use Rattle.directory_writes.proofs.planned.planned_law.Goals as goal

pub returns : goal.returns
returns c = planned_by
