use Rattle.directory_writes.proofs.PlansMade.{planned_apart}
use Rattle.directory_writes.proofs.planned.planned_apart_law.Goals as goal

pub returns : goal.returns
returns c = planned_apart
