use Rattle.version_laws.proofs.Walking.{ended}
use Rattle.version_laws.proofs.laws.has_ended.Goals as goal

pub returns : goal.returns
returns c = ended
