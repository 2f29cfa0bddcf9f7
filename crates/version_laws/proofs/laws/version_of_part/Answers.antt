use Rattle.version_laws.proofs.Version.{part}
use Rattle.version_laws.proofs.laws.version_of_part.Goals as goal

pub returns : goal.returns
returns c = part
