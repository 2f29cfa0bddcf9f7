use Rattle.version_laws.proofs.Walking.{found}
use Rattle.version_laws.proofs.laws.is_found.Goals as goal

pub returns : goal.returns
returns c = found
