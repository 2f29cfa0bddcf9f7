use Rattle.version_laws.proofs.Walking.{step}
use Rattle.version_laws.proofs.laws.goes_on.Goals as goal

pub returns : goal.returns
returns c = step
