use Rattle.versions.proofs.Inputs.{plans}
use Rattle.versions.proofs.laws.plans_of_tables.Goals as goal

pub returns : goal.returns
returns c = plans
