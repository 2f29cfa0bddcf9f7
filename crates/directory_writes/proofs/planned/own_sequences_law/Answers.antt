use Rattle.directory_writes.proofs.PlanParts.{own_sequences}
use Rattle.directory_writes.proofs.planned.own_sequences_law.Goals as goal

pub returns : goal.returns
returns c = own_sequences
